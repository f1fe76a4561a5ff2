use Rattle.rma_round.proofs.RowLemmas.{IfOk_map, rows_are}
use Rattle.rma_round.proofs.name_rounds.NameRounds.ranks.Goals as goal

pub returns : goal.returns
returns c = IfOk_map c.rows.result (rows_are c.args.self.now c.rows.ensures.ordered) c.rows.ensures.entries
