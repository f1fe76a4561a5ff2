use Rattle.std.proofs.Common.{◌≡◌, ℕ, List, false, take}
use Rattle.std.specs.Prelude.{is_none}
use Rattle.std.specs.List.{list_any}
use Rattle.rma_call.specs.Call.{Call}
use Rattle.rma_exposure.specs.Matching.{match_of}
use Rattle.rma_exposure.specs.inside.Epochs.{Represents}
use Rattle.rma_exposure.proofs.exposures.Exposures.lacks_match.Given as goal

-- the ranks before have a call that matches
abbrev pub invariant-loop-other : goal.invariant-loop-other
invariant-loop-other l = (calls : ℕ → List Call) → Represents calls l.self →
    list_any (λ other. is_none (match_of l.side l.window calls l.rank.0 l.number other)) (take l.other-index l.other-items) ≡ false
