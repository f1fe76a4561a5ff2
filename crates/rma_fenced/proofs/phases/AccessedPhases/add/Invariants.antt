use Rattle.std.proofs.Common.{◌++◌, take, IfSome}
use Rattle.std.specs.List.{filter_map}
use Rattle.rma_run.specs.Run.{calls_of}
use Rattle.rma_fenced.specs.Fenced.{HasSame, phase_of_access}
use Rattle.rma_fenced.specs.inside.Keys.{IsListed, phase_by}
use Rattle.rma_fenced.proofs.phases.AccessedPhases.add.Given as goal

-- the phases of the accesses before are added, and so is that of the last one
abbrev pub invariant-loop-placed : goal.invariant-loop-placed
invariant-loop-placed l = record {
  same : HasSame l.self (l.initial.self ++ filter_map (phase_of_access (calls_of l.ranks) l.rank l.epochs (take l.sound l.calls.calls)) (take l.placed-index l.placed-items));
  last : IfSome l.last (λ key. IsListed l.self (phase_by (calls_of l.ranks) l.rank l.epochs key));
}
