use Rattle.std.proofs.Common.{◌≡◌, ◌-◌, ◌<◌, length, pos, reverse, arith}
use Rattle.rma_typemap.proofs.Words.{get_or-map, get_or-reverse, length-reverse, Dimension, cut_of}
use Rattle.rma_typemap.proofs.array.nth_fastest.Goals as goal

pub returns-in-FirstFastest-clause-value : goal.returns-in-FirstFastest-clause-value
returns-in-FirstFastest-clause-value c =
    let ds = c.args.dimensions.now in
    let k = c.args.k in
    let r = c.cut_from-in-FirstFastest.result in
    let d : Dimension = record { size = pos 0; part = pos 0; start = pos 0 } in
    let within : k < length ds = omega arith in
    let at : length ds - 1 - (length ds - 1 - k) ≡ k = omega arith in
    let long = length-reverse ds in
    rw (c.in-FirstFastest.is, get_or-map cut_of (reverse ds) (length ds - 1 - k) d r (omega arith), get_or-reverse ds (length ds - 1 - k) d (omega arith), at)
    c.cut_from-in-FirstFastest.ensures.value
