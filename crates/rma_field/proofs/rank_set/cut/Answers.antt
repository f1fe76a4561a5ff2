use Rattle.rma_field.proofs.RankFieldLemmas.{cut_some, cut_none}
use Rattle.rma_field.proofs.rank_set.cut.Goals as goal

pub returns-then-place-text-clause-pieces : goal.returns-then-place-text-clause-pieces
returns-then-place-text-clause-pieces c = cut_some c.args.text.now c.comma_place-place.result c.comma_place-place.ensures c.if-place-text.true

pub returns-else-place-text-clause-pieces : goal.returns-else-place-text-clause-pieces
returns-else-place-text-clause-pieces c = cut_none c.args.text.now c.comma_place-place.result c.comma_place-place.ensures c.if-place-text.false
