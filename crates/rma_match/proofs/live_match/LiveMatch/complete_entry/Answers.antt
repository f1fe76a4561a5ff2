use Rattle.std.proofs.Common.{ap, ◌∙◌}
use Rattle.rma_match.specs.Source.{entry_at}
use Rattle.rma_match.proofs.BelowLemmas.{complete_small}
use Rattle.rma_match.proofs.live_match.LiveMatch.complete_entry.Goals as goal

pub returns : goal.returns
returns c = λ ranks calls are.
    let is = c.complete_for.ensures calls are.exposures_are in
    c.entry_at.ensures (complete_small calls are.few c.args.rank.0 c.args.post c.args.window.now c.args.origin.0 c.complete_for.result is)
    ∙ ap (entry_at c.args.origin.0) is
