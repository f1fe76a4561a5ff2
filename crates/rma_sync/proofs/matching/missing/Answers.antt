use Rattle.std.proofs.Common.{sym, ◌∙◌}
use Rattle.rma_missing.proofs.MissingLemmas.{missing_calls_none, missing_data_none}
use Rattle.rma_sync.proofs.matching.missing.Goals as goal

pub returns-then-is_balanced-clause-calls : goal.returns-then-is_balanced-clause-calls
returns-then-is_balanced-clause-calls c = c.new.ensures.calls ∙ sym (missing_calls_none c.args.ranks.now (c.requires.balanced c.if-is_balanced.true))

pub returns-then-is_balanced-clause-movings : goal.returns-then-is_balanced-clause-movings
returns-then-is_balanced-clause-movings c = c.new.ensures.movings ∙ sym (missing_data_none c.args.ranks.now (c.requires.balanced c.if-is_balanced.true))
