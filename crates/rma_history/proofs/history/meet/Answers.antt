use Rattle.std.proofs.Common.{sym, subst}
use Rattle.std.proofs.lemmas.Option.{slice_get_within}
use Rattle.std.proofs.lemmas.Result.{on_ok_weaker}
use Rattle.rma_bytes.specs.Runs.{HasByte}
use Rattle.rma_rules.specs.Access.{Access}
use Rattle.rma_rules.specs.Share.{ShareByte}
use Rattle.rma_history.proofs.SharedLemmas.{found_shares}
use Rattle.rma_history.proofs.history.meet.Goals as goal

pub returns-then-are_unified-clause-found : goal.returns-then-are_unified-clause-found
unfolding ShareByte
returns-then-are_unified-clause-found c =
    on_ok_weaker
    c.meeting.result
    (λ told links spans i chain a race at there found.
    let shared = found_shares c.args.windows.now (c.are_unified.ensures c.if-are_unified.true) links spans a c.args.access.now race found in
    told i chain a shared.0 at there shared.1 (subst (λ (x : Access). HasByte x.runs shared.0) (sym c.access.view_is) shared.2))
    c.meeting.ensures.found

pub returns-else-are_unified-clause-found : goal.returns-else-are_unified-clause-found
returns-else-are_unified-clause-found c =
    on_ok_weaker
    c.all.result
    (λ told links spans i chain a race at there found. (told i).1 (slice_get_within c.args.kept.now i chain at))
    c.all.ensures

pub returns-else-are_unified-clause-bound : goal.returns-else-are_unified-clause-bound
returns-else-are_unified-clause-bound c = on_ok_weaker c.all.result (λ told i there. (told i).0 there) c.all.ensures
