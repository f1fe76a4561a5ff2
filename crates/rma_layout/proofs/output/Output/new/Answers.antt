use Rattle.std.proofs.Common.{refl}
use Rattle.rma_layout.proofs.OutputLemmas.{empty_is_sound}
use Rattle.rma_layout.proofs.output.Output.new.Goals as goal

pub returns-clause-sound : goal.returns-clause-sound
returns-clause-sound c = empty_is_sound _ c.new.ensures.items refl refl refl
