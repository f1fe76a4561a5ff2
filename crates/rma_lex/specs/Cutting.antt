-- What a cutter keeps, and which text it represents.
use Rattle.std.specs.Prelude.{◌≡◌, ◌≢◌, ◌⊎◌, ℕ, ◌+◌, Bool, true, false, List, [], ◌∷◌, ◌++◌, length, Contains, Result}
use Rattle.rma_base.specs.declared.form_reason.FormReason.{FormReason}
use Rattle.rma_lex.specs.Checked.{checked_lines}

-- a cutter: how many bytes it was fed, how many lines it handed out, what it keeps of the text after them, and whether the
-- text has ended
pub record Cutting : Type 0 where
  pub fed : ℕ
  pub handed : ℕ
  pub rest : List ℕ
  pub closed : Bool

-- The cutter was fed this text. However the text goes on, if it still may, its lines are those that the cutter handed out
-- and then those of what it keeps: each has the same text, or is bad for the same reason.
pub record Represents (cutting : Cutting) (text : List ℕ) : Type 0 where
  pub fed : cutting.fed ≡ length text
  pub done : List (Result (List ℕ) FormReason)
  pub handed : length done ≡ cutting.handed
  pub lines_left : (more : List ℕ) → (cutting.closed ≡ true → more ≡ []) → checked_lines (text ++ more) ≡ done ++ checked_lines (cutting.rest ++ more)

-- No whole line is left: no line feed while the text goes on, and nothing once it has ended.
abbrev pub HasNoLine : Cutting → Type 0
HasNoLine cutting = (¬ Contains cutting.rest 10) × (cutting.closed ≡ true → cutting.rest ≡ [])

-- The line is the next one, and this is left after it: a line feed ends it, or the text has ended and the line, which is
-- not empty, is all that was left.
pub record CutsOff (cutting : Cutting) (line : List ℕ) (ended : Bool) (left : List ℕ) : Type 0 where
  pub no_line_feed : ¬ Contains line 10
  pub cut : ((ended ≡ true) × (cutting.rest ≡ line ++ 10 ∷ left))
      ⊎ ((ended ≡ false) × (cutting.closed ≡ true) × (cutting.rest ≡ line) × (line ≢ []) × (left ≡ []))

-- The cutter handed out the line: it is one line on, and keeps what is left after it.
abbrev pub TakesLine : Cutting → List ℕ → Bool → Cutting → Type 0
TakesLine before line ended after =
    CutsOff before line ended after.rest × (after ≡ record before { handed = before.handed + 1; rest = after.rest })
