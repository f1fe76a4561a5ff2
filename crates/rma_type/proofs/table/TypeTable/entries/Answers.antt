use Rattle.std.proofs.Common.{ap, sym, ◌∙◌}
use Rattle.rma_typemap.proofs.BoundLemmas.{entry_count_is}
use Rattle.rma_typemap.specs.declared.summary.Summary.{Summary}
use Rattle.rma_type.proofs.Words.{typemaps, typemap_in}
use Rattle.rma_type.proofs.table.TypeTable.entries.Goals as goal

pub returns-clause-count : goal.returns-clause-count
returns-clause-count c =
    ap (λ (s : Summary). s.entries) c.summary.ensures.value ∙ sym (entry_count_is (typemap_in (typemaps c.args.self.now.origins) c.args.id))
