use Rattle.std.proofs.Common.{ℕ, ◌-◌, ◌<◌, get_or, subst, arith}
use Rattle.rma_link.specs.Point.{return_of}
use Rattle.rma_clock.specs.Reached.{IsReached}
use Rattle.rma_cut.proofs.CallLemmas.{is_last, one_last}
use Rattle.rma_cut.proofs.check.has_last_visible.Goals as goal

pub returns : goal.returns
returns c =
    let calls = c.visible-calls.result.now in
    let n = c.count_before-n.result in
    let told = c.count_before-n.ensures in
    let rank = c.args.rank in
    let window = c.args.window in
    let some : 0 < n = omega arith in
    let last = is_last calls c.visible-calls.ensures.ascend.ascend c.args.call n told.bound told.before told.after c.args.spans.now rank window c.visible-calls.ensures.calls some in (
      λ test v other.
          let there = c.has_return.ensures.0 test in
          subst (λ (w : ℕ). IsReached c.args.cut.now (return_of rank w)) (one_last c.args.spans.now rank window c.args.call (get_or calls (n - 1) 0) v last other) there,
      λ all. c.has_return.ensures.1 (all (get_or calls (n - 1) 0) last),
    )
