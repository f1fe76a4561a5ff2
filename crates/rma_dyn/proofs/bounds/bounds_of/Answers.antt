use Rattle.std.proofs.Common.{◌-◌, ◌+◌, ◌<◌, length, arith}
use Rattle.std.proofs.lemmas.Int.{ints, clamps}
use Rattle.std.proofs.lemmas.Option.{get_or_from_slice_get, slice_get_within}
use Rattle.rma_bytes.proofs.RunLemmas.{no_run}
use Rattle.rma_bytes.proofs.IndexLemmas.{within}
use Rattle.rma_rules.specs.Share.{LiesIn}
use Rattle.rma_rules.proofs.WalkLemmas.{is_good}
use Rattle.rma_dyn.specs.Region.{region}
use Rattle.rma_dyn.proofs.bounds.bounds_of.Goals as goal

pub returns : goal.returns
unfolding LiesIn
returns c = λ address size small all.
    let runs = c.args.bytes.now in
    let some : 0 < length runs = slice_get_within runs 0 c.get-first.result c.get-first.ensures in
    let first = get_or_from_slice_get runs 0 c.get-first.result no_run c.get-first.ensures in
    let last = get_or_from_slice_get runs (length runs - 1) c.get-last.result no_run (rw (← c.len.ensures.value) c.get-last.ensures) in
    let bounds = is_good runs _ c.get-last.result c.len.ensures.canonical c.get-last.ensures in
    let fits = rw (first, last) at (within runs (region address size) c.len.ensures.canonical some) in
    let both = fits.1 all in
    (c.address_of-low.ensures.least address (grind (arith, ints)), c.address_of-high.ensures.most (address + size) (grind (arith, ints, clamps)))
