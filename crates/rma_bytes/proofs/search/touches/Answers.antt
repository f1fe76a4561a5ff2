use Rattle.std.proofs.Common.{arith}
use Rattle.std.proofs.lemmas.Int.{ints, clamps}
use Rattle.std.proofs.lemmas.Bool.Decides.{nat_tests}
use Rattle.rma_bytes.proofs.RunLemmas.{no_run, canonical_at}
use Rattle.rma_bytes.proofs.IndexLemmas.{touch}
use Rattle.rma_bytes.proofs.search.touches.Goals as goal

pub returns-then-i-runs : goal.returns-then-i-runs
returns-then-i-runs c =
    let i = c.first_after-i.result in
    let bounds = (canonical_at c.args.runs.now i no_run c.requires (omega arith)).0 in
    let fits = touch c.args.runs.now c.args.run i _ c.requires (omega arith) (omega (arith, ints)) c.first_after-i.ensures.before c.first_after-i.ensures.after in
    (λ test. fits.0 (omega arith, grind (arith, ints, clamps)), λ shared. let both = fits.1 shared in grind (arith, ints, clamps))

pub returns-else-i-runs : goal.returns-else-i-runs
returns-else-i-runs c =
    let i = c.first_after-i.result in
    let fits = touch c.args.runs.now c.args.run i _ c.requires (omega arith) (omega (arith, ints)) c.first_after-i.ensures.before c.first_after-i.ensures.after in
    (λ test. absurd (grind (arith, nat_tests)), λ shared. let both = fits.1 shared in absurd (omega arith))
