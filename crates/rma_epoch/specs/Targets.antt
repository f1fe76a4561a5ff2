-- The targets of an epoch (MPI 4.0, "One-Sided Communications").
use Rattle.std.specs.Prelude.{Option, Some, None}
use Rattle.rma_base.specs.declared.rank.Rank.{Rank}
use Rattle.rma_epoch.specs.declared.epoch.Targets.{Targets}
use Rattle.rma_epoch.specs.declared.epoch.Targets.TheVariants.{One}

-- the one target of an epoch, which that of a lock has; a lockall has all that have a part of the window
abbrev pub one_target : Targets → Option Rank
one_target (One target) = Some target
one_target _ = None
