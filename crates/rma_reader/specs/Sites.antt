-- Sites by their numbers.
use Rattle.std.specs.Prelude.{◌≡◌, ℕ, List, Option, Some, None, Ok, slice_get}
use Rattle.rma_call.specs.Call.{CallTable}
use Rattle.rma_field.specs.Sites.{site}
use Rattle.rma_form.specs.Lines.{site_of}

-- the site is this one, where it has this number
abbrev pub IsSite : CallTable → Option ℕ → Option (List ℕ) → Type 0
IsSite table None text = text ≡ None
IsSite table (Some number) text = (value : List ℕ) × (slice_get table.sites number ≡ Some value) × (text ≡ Some value)

-- the text is a site, and has this number
pub record IsNumbered (table : CallTable) (text : List ℕ) (number : ℕ) : Type 0 where
  pub good : site text ≡ Ok text
  pub is : slice_get table.sites number ≡ Some text

-- the text, if there is one, is a site, and has this number
abbrev pub IsSiteOf : CallTable → Option (List ℕ) → Option ℕ → Type 0
IsSiteOf table text number = (site_of text ≡ Ok text) × IsSite table number text
