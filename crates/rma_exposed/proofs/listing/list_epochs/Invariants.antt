use Rattle.std.proofs.Common.{◌≡◌, take}
use Rattle.rma_exposed.specs.Exposed.{with_epochs}
use Rattle.rma_exposed.proofs.listing.list_epochs.Given as goal

-- the epochs before are listed
abbrev pub invariant-loop-epoch : goal.invariant-loop-epoch
invariant-loop-epoch l = l.spans ≡ with_epochs l.initial.spans l.rank l.calls.calls (take l.epoch-index l.epochs)
