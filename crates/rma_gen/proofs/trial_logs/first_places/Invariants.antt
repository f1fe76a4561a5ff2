use Rattle.std.proofs.Common.{◌≡◌, length}
use Rattle.rma_gen.specs.inside.Parts.{places_below}
use Rattle.rma_gen.proofs.trial_logs.first_places.Given as goal

-- the places so far
abbrev pub invariant-loop-rank : goal.invariant-loop-rank
invariant-loop-rank l = (l.logs.items ≡ places_below l.rank) × (length l.logs.items ≡ l.rank)
