use Rattle.std.proofs.Common.{◌≡◌, ◌-◌, ◌*ℤ◌, suc, length, drop, get_or, slice_get, Some, ap, sym, subst, ◌∙◌, arith, rules, to_z, of_z}
use Rattle.std.specs.Int.{w128, w32}
use Rattle.std.proofs.lemmas.Int.{to_z-of_z}
use mir.Val.{SFits}
use Rattle.rma_typemap.specs.Constructors.{slowest_first, times, whole}
use Rattle.rma_layout.specs.inside.Steps.{part_steps}
use Rattle.rma_layout.proofs.Words.{ints, Again}
use Rattle.rma_layout.proofs.SubarrayLemmas.{along_at, past_along, length_slowest}
use Rattle.rma_layout.proofs.step.part.Goals as goal

pub returns-then-i-dimensions-clause-ok : goal.returns-then-i-dimensions-clause-ok
returns-then-i-dimensions-clause-ok c =
    let ds = slowest_first c.args.order c.args.dimensions.now in
    let later : suc (c.args.i - 1) ≡ c.args.i = omega arith in
    sym (past_along c.args.extent ds (c.args.i - 1) (omega (arith, length_slowest c.args.order c.args.dimensions.now)))
    ∙ ap (slice_get (part_steps c.args.order c.args.dimensions.now c.args.old c.args.extent)) later

pub returns-clause-ok : goal.returns-clause-ok
returns-clause-ok c =
    let ds = slowest_first c.args.order c.args.dimensions.now in
    let long = length_slowest c.args.order c.args.dimensions.now in
    let n = length c.args.dimensions.now in
    let k = c.args.i - 1 in
    let d = c.nth_fastest-dimension.result in
    let extent : c.new-2.result ≡ c.args.extent = omega (arith, ints, c.new-2.ensures) in
    let fits : SFits w128 c.bytes.result = search rules in
    let stride : to_z w128 (of_z w128 c.bytes.result) ≡ whole (drop (n - k) ds) *ℤ c.args.extent =
    to_z-of_z w128 c.bytes.result fits ∙ c.bytes.ensures ∙ c.in_ok-stride.ensures.ok ∙ ap (λ e. whole (drop (n - k) ds) *ℤ e) extent in
    let part : to_z w32 (of_z w32 d.part) ≡ d.part = omega (arith, ints) in
    let count : c.saturating_sub.result ≡ times d.part - 1 = omega (arith, c.saturating_sub.ensures, c.copies.ensures, ap times part) in
    let at : d ≡ get_or ds (length ds - 1 - k) d = subst (λ m. d ≡ get_or ds (m - 1 - k) d) (sym long) c.nth_fastest-dimension.ensures in
    let later : suc k ≡ c.args.i = omega arith in
    ap (λ x. Some (Again c.saturating_sub.result x)) stride ∙ ap (λ m. Some (Again m (whole (drop (n - k) ds) *ℤ c.args.extent))) count
    ∙ ap (λ m. Some (Again (times d.part - 1) (whole (drop (m - k) ds) *ℤ c.args.extent))) (sym long)
    ∙ sym (along_at c.args.extent ds k d (omega arith) at)
    ∙ ap (slice_get (part_steps c.args.order c.args.dimensions.now c.args.old c.args.extent)) later
