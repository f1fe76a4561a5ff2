-- How a line is written (docs/FORMAT.md).
use Rattle.std.specs.Prelude.{ℕ, List, [], ◌++◌, Option, Some, None, codes}
use Rattle.std.specs.List.{join_with_byte}
use Rattle.rma_form.specs.declared.event.Event.{Event}
use Rattle.rma_form.specs.declared.event.Stated.{Stated}
use Rattle.rma_form.specs.Forms.{filled, words_of}

-- the words of an event: those of the row of its form, with its values
unfoldable pub spelled : Event → List (List ℕ)
spelled event = words_of (filled event)

-- the site behind the words of a line
abbrev pub site_suffix : Option (List ℕ) → List ℕ
site_suffix None = []
site_suffix (Some site) = codes " @" ++ site

-- The canonical line of what a line states, without its line feed: single spaces between the words, numbers in
-- decimal digits without leading zeros, ranks ascending, and the site last.
abbrev pub canonical : Stated → List ℕ
canonical stated = join_with_byte 32 (spelled stated.event) ++ site_suffix stated.site
