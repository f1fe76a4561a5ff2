-- What the edges that were found tell of a line.
use Rattle.std.specs.Prelude.{◌≡◌, ◌⊎◌, ℕ, ◌+◌, ◌-◌, ◌<◌, ◌≤◌, true, length}
use Rattle.std.specs.Int.{bit_at}
use Rattle.rma_lex.specs.inside.Edge.{is_edge}
use Rattle.rma_lex.specs.declared.edge.Edges.{Edges}

-- The marks are edges of the line after the position, and all of those up to 64 bytes after the base.
pub record Reaches (edges : Edges) : Type 0 where
  pub placed : edges.place ≤ length edges.line.now
  pub within : edges.base ≤ length edges.line.now
  pub near : (edges.place < edges.base + 64) ⊎ (length edges.line.now ≤ edges.base + 64)
  pub all : (at : ℕ) → edges.place < at → at < edges.base + 64 → is_edge edges.line.now at ≡ true
      → (edges.base ≤ at) × (bit_at edges.mask (at - edges.base) ≡ 1)
  pub only : (k : ℕ) → k < 64 → bit_at edges.mask k ≡ 1 → (edges.place < edges.base + k) × (is_edge edges.line.now (edges.base + k) ≡ true)
