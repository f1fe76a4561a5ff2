-- A line as its words and its site.
use Rattle.std.specs.Prelude.{◌≡◌, ℕ, ◌++◌, ◌∷◌, List, Option, Some, None, true}
use Rattle.std.specs.List.{list_all}
use Rattle.rma_lex.specs.Field.{is_blank, is_field}

-- a line with its words and the text of its site, if it has one
pub record SplitText : Type 0 where
  pub line : List ℕ
  pub words : List ℕ
  pub site : Option (List ℕ)

-- The line is the words alone, or the words, a blank, `@`, and this site without a blank.
abbrev pub IsSplit : List ℕ → List ℕ → Option (List ℕ) → Type 0
IsSplit line words None = words ≡ line
IsSplit line words (Some site) = (blank : ℕ) × (is_blank blank ≡ true) × (list_all is_field site ≡ true) × (line ≡ words ++ blank ∷ 64 ∷ site)
