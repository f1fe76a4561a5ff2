use Rattle.std.proofs.Common.{ℕ, get_or, refl, subst}
use Rattle.rma_link.specs.Point.{entry}
use Rattle.rma_clock.specs.Reached.{IsReached}
use Rattle.rma_cut.proofs.CallLemmas.{is_first, no_first, one_first}
use Rattle.rma_cut.proofs.StateLemmas.{not_both, not_held}
use Rattle.rma_cut.proofs.check.lacks_first_publishing.Goals as goal

pub returns-then-first-calls : goal.returns-then-first-calls
returns-then-first-calls c =
    let calls = c.publishing-calls.result.now in
    let n = c.count_before-first.result in
    let told = c.count_before-first.ensures in
    let rank = c.args.rank in
    let window = c.args.window in
    let half = c.first_entered.ensures in
    let first =
    is_first calls c.publishing-calls.ensures.ascend.ascend c.first_entered.result n told.bound told.before told.after c.args.spans.now rank window c.publishing-calls.ensures.calls c.args.done (λ v. (half v).0) (λ v. (half v).1)
    c.if-first-calls.true in (
      λ test v other there.
          let same = one_first c.args.spans.now rank window c.args.done v (get_or calls n 0) other first in
          let yes = c.has_entry.ensures.1 (subst (λ (w : ℕ). IsReached c.args.cut.now (entry rank w)) same there) in
          not_both c.has_entry.result test yes,
      λ all. not_held c.has_entry.result (λ test. all (get_or calls n 0) first (c.has_entry.ensures.0 test)),
    )

pub returns-else-first-calls : goal.returns-else-first-calls
returns-else-first-calls c =
    let told = c.count_before-first.ensures in
    let half = c.first_entered.ensures in (
      λ test v other there.
          no_first c.publishing-calls.result.now c.publishing-calls.ensures.ascend.ascend c.first_entered.result c.count_before-first.result told.bound told.before told.after c.args.spans.now c.args.rank c.args.window
          c.publishing-calls.ensures.calls c.args.done (λ w. (half w).0) c.if-first-calls.false v other,
      λ all. refl,
    )
