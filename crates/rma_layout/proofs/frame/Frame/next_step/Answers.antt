use Rattle.std.proofs.Common.{refl, sym, ◌∙◌}
use Rattle.rma_layout.proofs.FrameLemmas.{is_done}
use Rattle.rma_layout.proofs.frame.Frame.next_step.Goals as goal

pub returns-in-None-clause-ok : goal.returns-in-None-clause-ok
returns-in-None-clause-ok c = (refl, is_done c.args.types.now.origins c.args.self c.requires.empty (sym c.in_ok-nth_step.ensures.ok ∙ c.in-None.is))
