use Rattle.std.proofs.Common.{◌-◌, ◌<◌, length, arith}
use Rattle.std.proofs.lemmas.Int.{ints, clamps}
use Rattle.std.proofs.lemmas.Bool.Decides.{nat_tests}
use Rattle.rma_bytes.proofs.RunLemmas.{no_run, canonical_at}
use Rattle.rma_bytes.proofs.IndexLemmas.{within}
use Rattle.rma_bytes.proofs.search.lies_within.Goals as goal

pub end-requires : goal.end-requires
end-requires c =
    let some : 0 < length c.args.runs.now = grind (arith, nat_tests) in
    (canonical_at c.args.runs.now (length c.args.runs.now - 1) no_run c.requires (omega arith)).0

pub returns-then-run-runs : goal.returns-then-run-runs
returns-then-run-runs c =
    let some : 0 < length c.args.runs.now = grind (arith, nat_tests) in
    let bounds = (canonical_at c.args.runs.now (length c.args.runs.now - 1) no_run c.requires (omega arith)).0 in
    let fits = within c.args.runs.now c.args.run c.requires some in
    (λ test. fits.0 (grind (arith, ints), grind (arith, ints, clamps)), λ all. let both = fits.1 all in grind (arith, ints, clamps))
