use Rattle.std.proofs.Common.{◌-◌, length}
use Rattle.rma_history.proofs.retire.is_any_passed.Given as goal

abbrev pub decreases-samples : goal.decreases-samples
decreases-samples g l = length l.chains - l.index
