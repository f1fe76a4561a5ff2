use Rattle.std.proofs.Common.{sym, ◌∙◌}
use Rattle.rma_lex.proofs.CleanLemmas.{IsClean_rest}
use Rattle.rma_lex.proofs.line_feed.is_clean_tail.Goals as goal

pub returns : goal.returns
returns c clean = IsClean_rest c.args.text.now c.args.from (sym c.all_clean.ensures ∙ clean)
