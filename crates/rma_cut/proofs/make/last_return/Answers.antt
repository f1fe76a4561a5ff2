use Rattle.std.proofs.Common.{ℕ, ◌-◌, ◌<◌, Some, get_or, sym, ap, ◌∙◌, arith}
use Rattle.rma_link.specs.Point.{return_of}
use Rattle.rma_rules.proofs.PartLemmas.{same_some}
use Rattle.rma_cut.proofs.CallLemmas.{is_last, one_last}
use Rattle.rma_cut.proofs.make.last_return.Goals as goal

pub returns : goal.returns
returns c = λ p.
    let calls = c.visible-calls.result.now in
    let n = c.count_before-n.result in
    let told = c.count_before-n.ensures in
    let rank = c.args.rank in
    let window = c.args.window in
    let v = get_or calls (n - 1) 0 in
    let some : 0 < n = omega arith in
    let last = is_last calls c.visible-calls.ensures.ascend.ascend c.args.call n told.bound told.before told.after c.args.spans.now rank window c.visible-calls.ensures.calls some in (
      λ found. (v, last, sym (same_some c.return_from.result p found) ∙ c.return_from.ensures),
      λ all. ap Some (c.return_from.ensures ∙ ap (λ (w : ℕ). return_of rank w) (one_last c.args.spans.now rank window c.args.call v all.0 last all.1) ∙ sym all.2),
    )
