use Rattle.std.proofs.Common.{◌^◌, pos, subst, Some, arith}
use Rattle.rma_typemap.proofs.Words.{int_min, int_max, SpanIsNear, ints}
use Rattle.rma_typemap.proofs.NearLemmas.{near_clamped}
use Rattle.rma_typemap.proofs.WideLemmas.{near_kept, near_more, sum_kept}
use Rattle.rma_typemap.proofs.span.stretched.Goals as goal

pub returns-in-Some : goal.returns-in-Some
returns-in-Some c =
    let a = c.in-Some.a in
    let by = c.args.by in
    let near : SpanIsNear (2 ^ 120) (Some a) = subst (SpanIsNear (2 ^ 120)) c.in-Some.is c.requires.near in
    let same = near_kept by (near_more by c.requires.by_near) in
    let both = near_clamped (2 ^ 120) (pos 0) by (record { low = omega (arith, ints); high = omega (arith, ints) }) c.requires.by_near in
    let low = sum_kept a.low (int_min (pos 0) by) near.0 both.0 in
    let high = sum_kept a.high (int_max (pos 0) by) near.1 both.1 in
    cc
