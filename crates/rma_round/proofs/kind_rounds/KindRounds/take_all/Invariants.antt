use Rattle.std.proofs.Common.{◌≡◌, ℕ, List, []}
use Rattle.rma_call.specs.Call.{Call}
use Rattle.rma_run.specs.Run.{with_calls}
use Rattle.rma_round.specs.declared.kind.Kind.{Kind}
use Rattle.rma_round.specs.Round.{numbers}
use Rattle.rma_round.specs.inside.Lists.{list_of}
use Rattle.rma_round.specs.inside.Rounds.{AreOfKind}
use Rattle.rma_round.proofs.OwnLemmas.{ArePartlyTaken}
use Rattle.rma_round.proofs.kind_rounds.KindRounds.take_all.Given as goal

-- the lists of the names before are taken
abbrev pub invariant-loop-name : goal.invariant-loop-name
invariant-loop-name l =
    (kind : Kind) (calls : ℕ → List Call) (more : List Call) → calls l.rank.0 ≡ [] → ((name : List ℕ) → list_of l.fn.own.entries name ≡ numbers kind name more) → AreOfKind kind calls l.initial.self
    → ArePartlyTaken kind (with_calls calls l.rank.0 more) l.rank.0 l.name-iterator l.self
