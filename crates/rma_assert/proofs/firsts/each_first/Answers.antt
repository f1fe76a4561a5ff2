use Rattle.std.proofs.Common.{sym, subst}
use Rattle.std.proofs.lemmas.Option.{slice_get-get_or}
use Rattle.rma_run.proofs.WalkLemmas.{taken_there}
use Rattle.rma_assert.specs.inside.Gathered.{AreFirstOf}
use Rattle.rma_assert.proofs.FirstLemmas.{taken_behind}
use Rattle.rma_assert.proofs.firsts.each_first.Goals as goal

pub loop-report-preserved : goal.loop-report-preserved
loop-report-preserved c =
    let sorted = c.args.sorted.now in
    let i = c.loop-report.report-index in
    let there = slice_get-get_or sorted i _ c.loop-report-test.true in
    subst (λ seen. AreFirstOf seen c.add_first.new.out.items) (sym (taken_there sorted i _ there)) (c.in_ok-add_first.ensures _ c.loop-report.invariant (taken_behind sorted c.requires i _ there))
