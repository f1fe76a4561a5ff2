use Rattle.std.proofs.Common.{ap, ◌∙◌}
use Rattle.rma_type.proofs.Words.{typemaps, typemap_in, made_of_summary}
use Rattle.rma_typemap.proofs.BoundLemmas.{made_of_is}
use Rattle.rma_type.proofs.table.TypeTable.made.Goals as goal

pub returns : goal.returns
returns c = c.made.ensures ∙ ap made_of_summary c.summary.ensures.value ∙ made_of_is (typemap_in (typemaps c.args.self.now.origins) c.args.id)
