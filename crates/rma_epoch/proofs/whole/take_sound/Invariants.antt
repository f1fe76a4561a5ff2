use Rattle.std.proofs.Common.{◌≡◌, ◌++◌, [], take, drop}
use Rattle.rma_epoch.specs.Fault.{fault_from}
use Rattle.rma_epoch.specs.Table.{sound_from}
use Rattle.rma_epoch.specs.inside.Live.{HasEpochs, Represents}
use Rattle.rma_epoch.specs.inside.Windows.{names_in}
use Rattle.rma_epoch.proofs.whole.take_sound.Given as goal

-- the calls before are taken, and none of them has a reason
abbrev pub invariant-loop-i : goal.invariant-loop-i
invariant-loop-i l = record {
  taken : Represents (take l.i l.calls.calls) l.live;
  epochs : HasEpochs l.windows (take l.i l.calls.calls) l.live;
  names : names_in l.live.windows ≡ names_in l.initial.live.windows;
  fault : fault_from l.windows [] l.calls.calls l.end ≡ fault_from l.windows (take l.i l.calls.calls) (drop l.i l.calls.calls) l.end;
  sound : sound_from l.windows [] l.calls.calls ≡ take l.i l.calls.calls ++ sound_from l.windows (take l.i l.calls.calls) (drop l.i l.calls.calls);
}
