use Rattle.std.proofs.Common.{ap, ◌∙◌}
use Rattle.rma_message.specs.inside.Live.{kept_of}
use Rattle.rma_message.proofs.live.receive.Goals as goal

pub returns-clause-others : goal.returns-clause-others
returns-clause-others c = λ other apart. c.in_ok-insert.ensures.updates.2 other apart ∙ ap (λ ranks. kept_of ranks.entries other.0) c.get_mut.follows.holds-at-none
