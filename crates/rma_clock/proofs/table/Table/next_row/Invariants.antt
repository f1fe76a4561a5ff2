use Rattle.std.proofs.Common.{◌≡◌, ℕ, ◌⊎◌, List, length, take}
use Rattle.rma_link.specs.declared.links.Links.{Links}
use Rattle.rma_clock.specs.Reached.{CanSettle}
use Rattle.rma_clock.specs.inside.Before.{IsRow}
use Rattle.rma_clock.specs.inside.Live.{IsLive, IsBeforeOwn, IsBeforePoints}
use Rattle.rma_clock.proofs.table.Table.next_row.Given as goal

abbrev pub invariant-loop-source : goal.invariant-loop-source
invariant-loop-source l = record {
  size : length l.row ≡ length l.self.steps.items;
  row : (points : List ℕ) (links : Links) → IsLive points links l.self → CanSettle points l.fn.point l.fn.sources → IsRow (λ p. IsBeforeOwn links l.fn.point p ⊎ IsBeforePoints links (take l.source-index l.sources) p) l.row;
}
