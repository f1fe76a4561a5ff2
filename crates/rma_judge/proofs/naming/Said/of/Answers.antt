use Rattle.std.proofs.Common.{sym, ap, ◌∙◌}
use Rattle.rma_call.specs.Rma.{access_of}
use Rattle.rma_judge.specs.Naming.{with_access}
use Rattle.rma_judge.proofs.CallLemmas.{access_named}
use Rattle.rma_judge.proofs.naming.Said.of.Goals as goal

pub returns-in-Rma : goal.returns-in-Rma
returns-in-Rma c = λ types event does asks.
    let call = access_of c.in-Rma.call in
    let says = rw (c.window.ensures, c.target.ensures) at c.of_access.ensures in
    says ∙ ap (with_access call.window call.target) (sym asks) ∙ sym (access_named types event call (rw c.in-Rma.is at does))
