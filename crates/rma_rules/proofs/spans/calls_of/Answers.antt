use Rattle.std.proofs.Common.{IfSome, sym, subst}
use Rattle.rma_window.proofs.WindowsLemmas.{looked_up}
use Rattle.rma_rules.specs.Spans.{AreCalls, is_owned}
use Rattle.rma_rules.proofs.spans.calls_of.Goals as goal

pub returns-in-Some-clause-ascend : goal.returns-in-Some-clause-ascend
returns-in-Some-clause-ascend c =
    rw c.as_slice.ensures
    (subst (λ found. IfSome found AreCalls) (sym c.in-Some.ensures.value) (looked_up AreCalls (is_owned c.args.rank c.args.window) c.args.lists.now.entries c.requires))
