use Rattle.std.proofs.Common.{slice_get, ap, sym}
use Rattle.rma_layout.proofs.MemberLemmas.{steps_of_none}
use Rattle.rma_layout.proofs.step.nth_step.Goals as goal

pub returns-in-None-clause-ok : goal.returns-in-None-clause-ok
returns-in-None-clause-ok c = sym (ap (λ steps. slice_get steps c.args.i) (steps_of_none c.args.types.now.origins c.args.id c.in-None.ensures.value))
