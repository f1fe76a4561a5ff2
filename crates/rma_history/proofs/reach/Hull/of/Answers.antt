use Rattle.std.proofs.Common.{w64, arith, subst, sym}
use Rattle.std.specs.Prelude.{ℤ, ◌<ℤ◌}
use mir.Val.{SFits}
use Rattle.std.proofs.lemmas.Int.{ints, to_z-of_z}
use Rattle.rma_bytes.proofs.RegionLemmas.{start_fits}
use Rattle.rma_rules.proofs.BytesLemmas.{in_bounds}
use Rattle.rma_history.proofs.HullLemmas.{lies_within}
use Rattle.rma_history.proofs.reach.Hull.of.Goals as goal

pub end-requires : goal.end-requires
end-requires c = in_bounds c.args.bytes.now _ c.get-last.result c.len.ensures.canonical c.get-last.ensures

pub returns : goal.returns
returns c = λ b has.
    let first = in_bounds c.args.bytes.now 0 c.get-first.result c.len.ensures.canonical c.get-first.ensures in
    let last = in_bounds c.args.bytes.now _ c.get-last.result c.len.ensures.canonical c.get-last.ensures in
    let between = lies_within c.args.bytes.now c.get-first.result c.get-last.result c.len.ensures.canonical c.get-first.ensures (rw (← c.len.ensures.value) c.get-last.ensures) b has in
    let fits : SFits w64 c.end.result = (let is = c.end.ensures in let low = last.0 in let high = last.1 in omega (arith, ints, is, low, high)) in
    rw (to_z-of_z w64 c.get-first.result.start (start_fits c.get-first.result first), to_z-of_z w64 c.end.result fits) (between.0, subst (λ (e : ℤ). b <ℤ e) (sym c.end.ensures) between.1)
