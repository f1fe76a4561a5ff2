use Rattle.std.proofs.Common.{ap, ◌∙◌}
use Rattle.rma_match.specs.Source.{entry_at}
use Rattle.rma_match.proofs.BelowLemmas.{partner_small}
use Rattle.rma_match.proofs.live_match.LiveMatch.round_entry.Goals as goal

pub returns : goal.returns
returns c = λ ranks calls are there.
    let is = c.partner.ensures calls are.rounds_are there in
    c.entry_at.ensures (partner_small calls are.few c.args.rank.0 c.args.number c.args.other.0 c.partner.result is)
    ∙ ap (entry_at c.args.other.0) is
