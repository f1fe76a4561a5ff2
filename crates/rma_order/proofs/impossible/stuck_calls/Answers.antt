use Rattle.std.proofs.lemmas.Result.{IfOk-weaker}
use Rattle.std.proofs.Common.{sym, ◌∙◌}
use Rattle.rma_run.specs.Run.{lens_of}
use Rattle.rma_order.specs.RunLinks.{links_of}
use Rattle.rma_order.proofs.SameLinks.{first_impossible_same}
use Rattle.rma_order.proofs.StuckLemmas.{stuck_is_told}
use Rattle.rma_order.proofs.impossible.stuck_calls.Goals as goal

pub returns-clause-calls : goal.returns-clause-calls
returns-clause-calls c =
    let ranks = c.args.ranks.now in
    IfOk-weaker c.told_all.result _ _ (λ found told links same stuck. (c.args.firsts.now, first_impossible_same (lens_of ranks) links (links_of ranks) c.args.firsts.now same stuck.1, told)) c.told_all.ensures

pub returns-clause-some : goal.returns-clause-some
returns-clause-some c =
    let ranks = c.args.ranks.now in
    IfOk-weaker c.told_all.result _ _ (λ found told links same stuck none. stuck_is_told ranks c.requires.in_order links same c.args.firsts.now stuck (sym told ∙ none)) c.told_all.ensures
