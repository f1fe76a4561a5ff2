use Rattle.std.proofs.Common.{◌≡◌, sym, ap, ◌∙◌}
use Rattle.rma_message.specs.declared.source.MessageSource.TheVariants.{NoReceive, Unknown, From}
use Rattle.rma_message.specs.Source.{source_of}
use Rattle.rma_round.proofs.KeptLemmas.{OnOk_map}
use Rattle.rma_match.specs.Source.{message_entries}
use Rattle.rma_match.specs.inside.Awaited.{with_more}
use Rattle.rma_match.proofs.live_match.LiveMatch.add_send.Goals as goal

pub returns-in-NoReceive : goal.returns-in-NoReceive
returns-in-NoReceive c = λ ranks calls are.
    let is : source_of calls c.args.rank.0 c.args.number ≡ NoReceive = sym (c.source.ensures calls are.messages_are) ∙ c.in-NoReceive.is in
    sym (ap (λ s. with_more c.args.awaited.now (message_entries s)) is)

pub returns-in-Unknown : goal.returns-in-Unknown
returns-in-Unknown c =
    OnOk_map c.add.result
    (λ added ranks calls are.
    let is : source_of calls c.args.rank.0 c.args.number ≡ Unknown = sym (c.source.ensures calls are.messages_are) ∙ c.in-Unknown.is in
    added ∙ sym (ap (λ s. with_more c.args.awaited.now (message_entries s)) is))
    c.add.ensures

pub returns-in-From : goal.returns-in-From
returns-in-From c =
    OnOk_map c.add-in-From.result
    (λ added ranks calls are.
    let is : source_of calls c.args.rank.0 c.args.number ≡ From c.in-From.point = sym (c.source.ensures calls are.messages_are) ∙ c.in-From.is in
    added ∙ sym (ap (λ s. with_more c.args.awaited.now (message_entries s)) is))
    c.add-in-From.ensures
