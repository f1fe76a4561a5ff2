-- How what is open on a window is kept.
use Rattle.std.specs.Prelude.{length, nat_eq, nat_lt}
use Rattle.std.specs.Map.{lookup}
use Rattle.rma_open.specs.declared.open_epochs.OpenEpochs.{OpenEpochs}
use Rattle.rma_open.specs.Open.{Open}

-- what is open as it is kept
abbrev pub open_of : OpenEpochs → Open
open_of own = record {
  start = own.start;
  post = own.post;
  lock_all = own.lock_all;
  lock_on = λ target. lookup (nat_eq target) own.locks.entries;
  any_lock = nat_lt 0 (length own.locks.entries);
  phase = own.phase;
  freed = own.freed;
}
