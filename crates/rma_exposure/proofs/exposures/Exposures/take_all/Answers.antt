use Rattle.std.proofs.Common.{◌≡◌, ℕ, ◌++◌, [], sym, ap, subst, ◌∙◌}
use Rattle.rma_base.specs.declared.rank.Rank.{Rank}
use Rattle.rma_run.specs.Run.{with_calls}
use Rattle.rma_exposure.specs.inside.Epochs.{kept_of, IsOfRank, AreOfRank}
use Rattle.rma_exposure.proofs.RunLemmas.{Represents_others, more_of_rank}
use Rattle.rma_exposure.proofs.exposures.Exposures.take_all.Goals as goal

pub returns-then-not-may_open_or_close : goal.returns-then-not-may_open_or_close
returns-then-not-may_open_or_close c = λ calls none are.
    Represents_others c.args.rank.now.calls calls c.args.rank.now.rank.0 c.args.self.now
    (λ i call at. c.may_open_or_close.ensures c.if-not-may_open_or_close.true i call (rw (← c.calls-calls.ensures) at at)) are

pub returns : goal.returns
returns c = λ calls none are.
    let own = c.args.rank.now.calls in
    let key = c.rank.result in
    let epochs = c.in_ok-epochs.epochs in
    let old = c.args.self.now.ranks.entries in
    let new = c.insert.new.self.entries in
    let taken : AreOfRank own epochs = subst (λ l. AreOfRank l epochs) c.calls-calls.ensures c.in_ok-epochs.ensures in
    let first : calls key.0 ≡ [] = ap (λ (r : Rank). calls r.0) c.rank.ensures ∙ none in
    let kept : IsOfRank (calls key.0 ++ own) (kept_of new key.0) = subst (IsOfRank (calls key.0 ++ own)) (sym c.in_ok-insert.ensures.updates.1) (subst (λ l. AreOfRank (l ++ own) epochs) (sym first) taken) in
    subst (λ (r : Rank). (other : ℕ) → IsOfRank (with_calls calls r.0 own other) (kept_of new other)) c.rank.ensures (more_of_rank calls key own old new kept c.in_ok-insert.ensures.updates.2 are)
