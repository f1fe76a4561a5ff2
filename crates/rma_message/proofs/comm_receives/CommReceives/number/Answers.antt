use Rattle.std.proofs.Common.{slice_get, ap, ◌∙◌}
use Rattle.rma_message.specs.inside.Live.{number_at}
use Rattle.rma_run.proofs.PositionLemmas.{copied_at}
use Rattle.rma_message.proofs.KeyListLemmas.{number_is}
use Rattle.rma_message.proofs.comm_receives.CommReceives.number.Goals as goal

pub returns : goal.returns
returns c = λ keys are.
    let own = c.args.self.now in
    c.copied.ensures
    ∙ copied_at c.as_slice.result.now c.args.index c.get.result c.get.ensures.lookup.1 c.get.ensures.lookup.3
    ∙ ap (λ l. slice_get l c.args.index) c.as_slice.ensures
    ∙ number_is own.keys.items own.numbers own.counts.entries are.placed c.args.index
    ∙ ap (λ l. number_at l c.args.index) are.keys_are
