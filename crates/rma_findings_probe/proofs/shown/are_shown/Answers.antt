use Rattle.std.proofs.Common.{List, subst, sym}
use Rattle.rma_points.proofs.AskedLemmas.{may_be_asked}
use Rattle.rma_rules.specs.Access.{IsOnWindowOf}
use Rattle.rma_window.specs.Windows.{Window}
use Rattle.rma_findings_probe.proofs.shown.are_shown.Goals as goal

pub check_cuts-requires-clause-a : goal.check_cuts-requires-clause-a
check_cuts-requires-clause-a c =
    let scene = c.args.scene in
    subst (λ (ws : List Window). IsOnWindowOf ws c.args.first.now) (sym c.requires.scene.windows_are)
    (may_be_asked scene.calls.now c.requires.scene.good.run scene.accesses.now.lists c.requires.scene.accesses_are.lists.calls c.args.first.now c.args.second.now c.requires.first c.requires.second).1

pub check_cuts-requires-clause-b : goal.check_cuts-requires-clause-b
check_cuts-requires-clause-b c =
    let scene = c.args.scene in
    subst (λ (ws : List Window). IsOnWindowOf ws c.args.second.now) (sym c.requires.scene.windows_are)
    (may_be_asked scene.calls.now c.requires.scene.good.run scene.accesses.now.lists c.requires.scene.accesses_are.lists.calls c.args.first.now c.args.second.now c.requires.first c.requires.second).2
