use Rattle.std.proofs.Common.{Option, ap, subst, sym, ◌∙◌}
use Rattle.rma_log.specs.Logs.{IsFirstFault, whole_lines}
use Rattle.rma_log.specs.declared.fault.FormFault.{FormFault}
use Rattle.rma_book.specs.inside.RankState.{RankState}
use Rattle.rma_log.proofs.ReadingLemmas.{first_fault}
use Rattle.rma_book.proofs.WholeLemmas.{whole_read}
use Rattle.rma_book.proofs.rank_book.RankBook.state.Goals as goal

pub returns-clause-first : goal.returns-clause-first
returns-clause-first c = λ rank logs bytes h.
    let state = c.args.self.now in
    subst (λ (fault : Option FormFault). IsFirstFault rank logs (whole_lines bytes) fault) (sym (ap (λ (s : RankState). s.fault) c.self.view_is ∙ h.fault_read))
    (first_fault rank logs (whole_lines bytes) state.reader (whole_read rank logs state bytes h))
