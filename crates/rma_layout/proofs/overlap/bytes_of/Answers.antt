use Rattle.std.proofs.Common.{◌≡◌, ◌<◌, ◌+◌, take, length, get_or, ap, arith}
use Rattle.rma_bytes.specs.declared.run.Run.{Run}
use Rattle.rma_layout.proofs.RunsLemmas.{few_bytes, lengths}
use Rattle.std.proofs.lemmas.List.Sums.{sum_by_more, sum_by_more_le}
use Rattle.std.proofs.lemmas.Option.{get_or_from_slice_get}
use Rattle.rma_layout.proofs.overlap.bytes_of.Goals as goal

pub overflow_add-total : goal.overflow_add-total
overflow_add-total c =
    let runs = c.args.runs.now in
    let i = c.each.i in
    let run : Run = c.get-total.result in
    let at : get_or runs i run ≡ run = get_or_from_slice_get runs i run run c.get-total.ensures.value in
    let lt : i < length runs = omega (arith, c.each-test.true, c.len-i-end.ensures.value) in
    let inv : c.each.total ≡ lengths (take i runs) = c.each.invariant in
    let le = sum_by_more_le (λ (r : Run). r.len) runs i run lt in
    let few = few_bytes runs c.get-total.ensures.canonical in
    let same = ap (λ (r : Run). r.len) at in
    omega arith

pub each-preserved : goal.each-preserved
each-preserved c =
    let runs = c.args.runs.now in
    let i = c.each.i in
    let run : Run = c.get-total.result in
    let at : get_or runs i run ≡ run = get_or_from_slice_get runs i run run c.get-total.ensures.value in
    let lt : i < length runs = omega (arith, c.each-test.true, c.len-i-end.ensures.value) in
    let inv : c.each.total ≡ lengths (take i runs) = c.each.invariant in
    let more = sum_by_more (λ (r : Run). r.len) runs i run lt in
    let same = ap (λ (r : Run). r.len) at in
    let all : c.each.total + run.len ≡ lengths (take (i + 1) runs) = omega arith in
    all
