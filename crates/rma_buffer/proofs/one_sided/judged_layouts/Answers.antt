use Rattle.std.proofs.Common.{IfErr, sym, subst, ◌∙◌}
use Rattle.rma_buffer.specs.Rules.{IsErrorOf}
use Rattle.rma_buffer.proofs.CallLemmas.{on_ok}
use Rattle.rma_buffer.proofs.one_sided.judged_layouts.Goals as goal

pub returns-clause-taken : goal.returns-clause-taken
returns-clause-taken c =
    let rest = rw c.types.ensures at c.in_ok-touched.ensures.rest in
    on_ok c.lay_out.result _ _ (λ none. rest ∙ none) c.lay_out.ensures.taken

pub returns-clause-fault : goal.returns-clause-fault
returns-clause-fault c =
    let rest = rw c.types.ensures at c.in_ok-touched.ensures.rest in
    subst (λ r. IfErr c.lay_out.result (IsErrorOf r)) (sym rest) c.lay_out.ensures.fault
