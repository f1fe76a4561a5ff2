use Rattle.rma_window.proofs.WholeLemmas.{part_stays, window_stays}
use Rattle.rma_window.proofs.laws.creations_keep_what_is_there.Goals as goal

pub returns-clause-windows : goal.returns-clause-windows
returns-clause-windows c = λ windows creation id lt. window_stays windows creation id.0 lt

pub returns-clause-parts : goal.returns-clause-parts
returns-clause-parts c = λ windows creation id rank part has. part_stays windows creation id.0 rank part has
