use Rattle.std.proofs.Common.{◌≡◌, ◌+◌, subst, sym, arith}
use Rattle.rma_rows.specs.Logs.{AreLogsOf, IsEndOfLog}
use Rattle.rma_rows.proofs.LogLemmas.{good_log, good_run, one_log_more}
use Rattle.rma_rows.proofs.logs.read.Goals as goal

pub loop-rank-preserved : goal.loop-rank-preserved
loop-rank-preserved c =
    let count = c.in-Ok.count in
    let rank = c.loop-rank.rank in
    let own = c.in-Calls.own in
    subst (AreLogsOf count (rank + 1)) (sym c.in_ok-push-in-Calls.ensures.items)
    (one_log_more count rank c.loop-rank.calls.items own c.loop-rank.invariant (good_log count rank own (subst (IsEndOfLog count rank) c.in-Calls.is c.in_ok-own.ensures)))

pub returns : goal.returns
returns c =
    let last : c.loop-rank.rank ≡ c.in-Ok.count = (let done = c.loop-rank-test.false in let most = c.loop-rank.auto.rank-end in omega (arith, done, most)) in
    good_run c.in-Ok.count c.loop-rank.calls.items (subst (λ n. AreLogsOf c.in-Ok.count n c.loop-rank.calls.items) last c.loop-rank.invariant)
