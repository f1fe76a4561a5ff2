-- Which call of a rank completes an operation that it called before (MPI 4.0, "One-Sided Communications", completion of
-- operations).
use Rattle.std.specs.Prelude.{◌≡◌, ℕ, ◌+◌, ◌<◌, ◌==◌, List, [], ◌∷◌, Bool, true, false, ◌&&◌, nat_lt, min, Option, Some, None, slice_get, if◌then◌else◌}
use Rattle.std.specs.Option.{option_and_then, option_map_or}
use Rattle.rma_base.specs.declared.rank.Rank.{Rank}
use Rattle.rma_call.specs.Call.{Call}
use Rattle.rma_call.specs.declared.what.What.{What}
use Rattle.rma_call.specs.declared.what.What.TheVariants.{Sync}
use Rattle.rma_call.specs.declared.what.SyncCall.TheVariants.{Message}
use Rattle.rma_call.specs.declared.message.MessageCall.TheVariants.{Wait}
use Rattle.rma_window.specs.declared.window_id.WindowId.{WindowId}
use Rattle.rma_window.specs.Windows.{Window}
use Rattle.rma_completion.specs.Completing.{completes_remotely, completes_locally}

-- the number of the first of some calls that comes behind the call of a number and meets a test; the first of the calls has the
-- number `from`
abbrev pub first_behind : (Call → Bool) → ℕ → ℕ → List Call → Option ℕ
first_behind test number from [] = None
first_behind test number from (call ∷ calls) = if nat_lt number from && test call then Some from else first_behind test number (from + 1) calls

-- the first of a rank's calls behind that of a number that meets a test
abbrev pub first_after : (Call → Bool) → List Call → ℕ → Option ℕ
first_after test calls number = first_behind test number 0 calls

-- the number of the first of some calls that meets a test; the first of the calls has the number `from`
abbrev pub first_from : (Call → Bool) → ℕ → List Call → Option ℕ
first_from test from [] = None
first_from test from (call ∷ calls) = if test call then Some from else first_from test (from + 1) calls

-- whether a call is a wait
abbrev pub is_wait : What → Bool
is_wait (Sync (Message (Wait received))) = true
is_wait _ = false

-- whether a call waits for the request of this number
abbrev pub awaits : ℕ → Call → Bool
awaits request call = is_wait call.what && option_map_or (λ own. own == request) call.request false

-- the wait of a request, the first one if a log had several
abbrev pub wait_of : List Call → ℕ → Option ℕ
wait_of calls request = first_from (awaits request) 0 calls

-- the lesser of two numbers, as far as they are there
abbrev pub earlier : Option ℕ → Option ℕ → Option ℕ
earlier None other = other
earlier (Some number) None = Some number
earlier (Some number) (Some other) = Some (min number other)

-- the call that completes at its target an operation that a rank called on a window, in a lock epoch: the first one behind it
abbrev pub remote_completion : List Window → List Call → WindowId → Rank → ℕ → Option ℕ
remote_completion windows calls id target number = first_after (completes_remotely windows id target) calls number

-- the call that completes it at the caller, so that its buffers are free again: the first one behind it, or the wait of its request
abbrev pub local_completion : List Window → List Call → WindowId → Rank → Option ℕ → ℕ → Option ℕ
local_completion windows calls id target request number =
    earlier (first_after (completes_locally windows id target) calls number) (option_and_then (wait_of calls) request)

-- a number is that of the first call behind another one that meets a test
pub record IsFirstAfter (test : Call → Bool) (calls : List Call) (number first : ℕ) : Type 0 where
  pub call : Call
  pub there : slice_get calls first ≡ Some call
  pub meets : test call ≡ true
  pub later : number < first
  pub between : (k : ℕ) (other : Call) → number < k → k < first → slice_get calls k ≡ Some other → test other ≡ false
