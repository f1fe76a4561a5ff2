use Rattle.std.proofs.Common.{◌≡◌, ◌<◌, length, get_or, sym, ap, subst, ◌∙◌}
use Rattle.rma_bytes.specs.Runs.{HasByte}
use Rattle.rma_rules.specs.Access.{Access}
use Rattle.rma_history.proofs.KeptLemmas.{same_runs}
use Rattle.rma_history.proofs.overlaps.hull_of.Goals as goal

pub returns-in-Some : goal.returns-in-Some
returns-in-Some c = λ a b there byte.
    let chain = c.args.chain.now in
    let first = c.in-Some.first.now in
    let some : 0 < length chain = (rw c.accesses.ensures.value at c.in-Some.ensures.item.3.0) in
    let at : first ≡ get_or chain 0 first = (rw c.accesses.ensures.value at c.in-Some.ensures.item.1) in
    let runs : a.runs ≡ c.first-in-Some.inside.bytes = sym (same_runs chain first a c.accesses.ensures.chain some at there) ∙ ap (λ (x : Access). x.runs) (sym c.first-in-Some.view_is) in
    c.of.ensures b (subst (λ r. HasByte r b) runs byte)
