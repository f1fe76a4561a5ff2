-- The edges of a line.
use Rattle.std.specs.Prelude.{◌≡◌, ◌≢◌, ℕ, ◌-◌, ◌<◌, ◌≤◌, Bool, true, not, List, length, if◌then◌else◌}
use Rattle.rma_lex.specs.inside.Blank.{blank_at}

-- whether a field begins at the position, or has ended before it
abbrev pub is_edge : List ℕ → ℕ → Bool
is_edge line place = if blank_at line (place - 1) then not (blank_at line place) else blank_at line place

-- the position is the first edge after another position, or the end of the line where no edge comes before it
pub record IsNextEdge (line : List ℕ) (from place : ℕ) : Type 0 where
  pub low : from ≤ place
  pub high : place ≤ length line
  pub none : (at : ℕ) → from < at → at < place → is_edge line at ≢ true
  pub edge : place < length line → (from < place) × (is_edge line place ≡ true)
