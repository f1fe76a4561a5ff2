use Rattle.std.proofs.Common.{◌≡◌, ◌⊎◌, length, take, replicate}
use Rattle.rma_link.specs.Order.{IsAtOrBefore}
use Rattle.rma_clock.specs.inside.Before.{IsBeforeSome, IsRaised}
use Rattle.rma_clock.specs.inside.Table.{IsBuilder}
use Rattle.rma_clock.proofs.builder.Builder.own_row.Given as goal

abbrev pub invariant-loop-source : goal.invariant-loop-source
invariant-loop-source l = record {
  links : l.self.links.now ≡ l.fn.self.links.now;
  steps : l.self.table.steps ≡ l.fn.self.table.steps;
  builder : IsBuilder (length l.fn.self.table.steps.items) l.fn.self.links.now l.self;
  raised : IsRaised (λ p. IsAtOrBefore l.fn.self.links.now p l.fn.own ⊎ IsBeforeSome l.fn.self.links.now (take l.source-index l.sources) p) (replicate (length l.fn.self.table.steps.items) 0) l.numbers;
}
