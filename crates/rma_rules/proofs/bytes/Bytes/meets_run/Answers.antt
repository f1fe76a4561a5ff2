use Rattle.std.proofs.Common.{arith}
use Rattle.std.proofs.lemmas.Int.{ints, clamps}
use Rattle.std.proofs.lemmas.Bool.Decides.{nat_tests}
use Rattle.std.proofs.lemmas.Option.{get_or_from_slice_get}
use Rattle.rma_bytes.proofs.RunLemmas.{no_run}
use Rattle.rma_bytes.proofs.IndexLemmas.{touch}
use Rattle.rma_rules.specs.Share.{MeetsRun}
use Rattle.rma_rules.proofs.WalkLemmas.{is_good}
use Rattle.rma_rules.proofs.bytes.Bytes.meets_run.Goals as goal

pub returns-then-run-eq0 : goal.returns-then-run-eq0
unfolding MeetsRun
returns-then-run-eq0 c = (λ test. absurd (cc), λ shared. absurd (omega (arith, ints, shared.2.0, shared.2.1)))

pub returns-then-i-len : goal.returns-then-i-len
unfolding MeetsRun
returns-then-i-len c =
    let runs = c.args.self.now in
    let i = c.first_after-i.result in
    let here = get_or_from_slice_get runs i c.get.result no_run c.get.ensures in
    let bounds = is_good runs i c.get.result c.len.ensures.canonical c.get.ensures in
    let fits = rw here at (touch runs c.args.run i _ c.len.ensures.canonical (omega arith) (omega (arith, ints)) c.first_after-i.ensures.before c.first_after-i.ensures.after) in
    (λ test. fits.0 (omega arith, grind (arith, ints, clamps)), λ shared. let both = fits.1 shared in grind (arith, ints, clamps))

pub returns-else-i-len : goal.returns-else-i-len
unfolding MeetsRun
returns-else-i-len c =
    let i = c.first_after-i.result in
    let fits = touch c.args.self.now c.args.run i _ c.len.ensures.canonical (omega arith) (omega (arith, ints)) c.first_after-i.ensures.before c.first_after-i.ensures.after in
    (λ test. absurd (grind (arith, nat_tests)), λ shared. let both = fits.1 shared in absurd (omega arith))
