-- Where the accesses of a rank start and are done, and the lock epochs in which they lie (MPI 4.0, "One-Sided Communications",
-- completion of operations).
use Rattle.std.specs.Prelude.{◌≡◌, ◌≤◌, ℕ, ◌∷◌, [], List, Option, Some, None, option_map, option_to_list, slice_get, length, is_some, if◌then◌else◌, Bool, true, false}
use Rattle.std.specs.Option.{option_and_then, option_map_or}
use Rattle.std.specs.List.{filter_map, flat_map}
use Rattle.rma_base.specs.Limits.{fed_limit}
use Rattle.rma_base.specs.declared.rank.Rank.{Rank}
use Rattle.rma_base.specs.declared.point.Point.{Point}
use Rattle.rma_call.specs.Call.{Call, CallTable, RankCalls}
use Rattle.rma_call.specs.declared.what.What.{What}
use Rattle.rma_call.specs.declared.what.What.TheVariants.{Rma, Local}
use Rattle.rma_link.specs.Point.{entry, return_of}
use Rattle.rma_run.specs.Run.{by_number, calls_of}
use Rattle.rma_window.specs.Creation.{creations}
use Rattle.rma_window.specs.Windows.{Window, windows_by}
use Rattle.rma_open.specs.declared.opening.EpochKind.{EpochKind}
use Rattle.rma_open.specs.declared.opening.EpochKind.TheVariants as kind
use Rattle.rma_epoch.specs.declared.epoch.Epoch.{Epoch}
use Rattle.rma_epoch.specs.Table.{AreParts, OnWindow, epoch_at, epochs_of, placed_of, sound_calls}
use Rattle.rma_side.specs.declared.side.Side.{Side}
use Rattle.rma_side.specs.Side.{ending_point, opening_point, side_of}
use Rattle.rma_completion.specs.Done.{local_completion, remote_completion}
use Rattle.rma_cover.specs.Cover.{IsFrom, key_of, own_locks}
use Rattle.rma_rules.specs.declared.lock.LockKey.{LockKey}
use Rattle.rma_rules.specs.declared.access_name.Role.{Role}
use Rattle.rma_rules.specs.declared.access_name.Role.TheVariants as role
use Rattle.rma_rules.specs.Access.{Access}
use Rattle.rma_touch.specs.Touches.{HasBuffers, Span, access_with, roles, touch_at}

-- ---- where they are done

-- where what was accessed in an epoch of a rank is done at a target: a phase and an access epoch end there by calls of the target, and
-- a lock epoch where the rank returns from the call that completes the access there, if one does
abbrev pub done_at_target : EpochKind → Rank → Rank → Side → Option ℕ → Option Point
done_at_target kind.Fence rank target side completion = ending_point kind.Fence target side
done_at_target kind.Start rank target side completion = ending_point kind.Start target side
done_at_target (kind.Lock exclusive) rank target side completion = option_map (return_of rank) completion
done_at_target kind.LockAll rank target side completion = option_map (return_of rank) completion
done_at_target kind.Post rank target side completion = None

-- the call by which the use of a buffer in an epoch is done: the fence that closes a phase, and else the call that completes it at
-- the caller
abbrev pub freeing_call : EpochKind → Option ℕ → Option ℕ → Option ℕ
freeing_call kind.Fence close completion = close
freeing_call _ close completion = completion

-- where the use of a buffer is done by this call: where a fence is entered, and where the rank returns from any other one
abbrev pub done_at_caller : EpochKind → Rank → Option ℕ → Option Point
done_at_caller kind.Fence rank call = option_map (entry rank) call
done_at_caller _ rank call = option_map (return_of rank) call

-- ---- the spans of one rank

-- the windows of a run, the calls of each rank, and one rank with its sound calls
pub record Origin : Type 0 where
  pub windows : List Window
  pub calls : ℕ → List Call
  pub rank : Rank
  pub sound : List Call

-- the epoch in which its call of a number stands, where that is an access to a target
abbrev pub epoch_of : Origin → ℕ → Option Epoch
epoch_of own number = option_and_then (slice_get (epochs_of own.windows own.sound)) (epoch_at (placed_of own.windows own.sound) number)

-- the lock epochs of the rank on itself in which what its call of a number does to its own memory lies, by the call by which that is done
abbrev pub locks_at : Origin → ℕ → Option ℕ → List LockKey
locks_at own number done = own_locks own.windows own.rank (epochs_of own.windows own.sound) number done

-- a load, a store or a poll is done as it is called
abbrev pub local_span : Origin → ℕ → Span
local_span own number = record { opening = None; done = Some (entry own.rank number); locks = locks_at own number (Some number) }

-- at a target
abbrev pub target_span : Origin → Epoch → Rank → ℕ → Span
target_span own epoch target number =
    record {
      opening = opening_point target (side_of own.calls own.windows own.rank epoch target);
      done = done_at_target epoch.kind own.rank target (side_of own.calls own.windows own.rank epoch target) (remote_completion own.windows own.sound epoch.window target number);
      locks = option_to_list (key_of own.rank epoch target);
    }

-- the call by which the use of its buffers is done
abbrev pub freed_by : Origin → Epoch → Rank → Option ℕ → ℕ → Option ℕ
freed_by own epoch target request number = freeing_call epoch.kind epoch.close (local_completion own.windows own.sound epoch.window target request number)

-- a buffer
abbrev pub buffer_span : Origin → Epoch → Rank → Option ℕ → ℕ → Span
buffer_span own epoch target request number =
    record {
      opening = None;
      done = done_at_caller epoch.kind own.rank (freed_by own epoch target request number);
      locks = locks_at own number (freed_by own epoch target request number);
    }

-- what a call of a number does to memory of the rank itself: a load, a store or a poll, or the use of a buffer by an access to a target
abbrev pub own_span_of : Origin → ℕ → Call → What → Option Span
own_span_of own number call (Local local) = Some (local_span own number)
own_span_of own number call (Rma access) = option_and_then (λ epoch. option_map (λ target. buffer_span own epoch target call.request number) access.target) (epoch_of own number)
own_span_of own number call _ = None

-- what it does at its target
abbrev pub target_span_of : Origin → ℕ → What → Option Span
target_span_of own number (Rma access) = option_and_then (λ epoch. option_map (λ target. target_span own epoch target number) access.target) (epoch_of own number)
target_span_of own number _ = None

-- whether it does so at its target
abbrev pub is_at_target : Role → Bool
is_at_target role.Target = true
is_at_target _ = false

-- what it does in a role
abbrev pub span_of : Origin → ℕ → Call → Role → Option Span
span_of own number call role = if is_at_target role then target_span_of own number call.what else own_span_of own number call call.what

-- the number of a call that accesses memory: a load, a store or a poll, or an access to a target
abbrev pub spanned : Origin → ℕ → Call → List ℕ
spanned own number call = if is_some (own_span_of own number call call.what) then number ∷ [] else []

-- the numbers of the calls that access memory, ascending
abbrev pub spanned_calls : Origin → List ℕ
spanned_calls own = by_number (spanned own) 0 own.sound

-- ---- the accesses

-- the access of a call of a number of the rank in a role
abbrev pub access_of : Origin → ℕ → Call → Role → Option Access
access_of own number call role =
    option_and_then (λ touch. option_map (access_with own.rank number call touch) (span_of own number call role)) (touch_at own.windows own.rank call.what role)

-- those of a call, by role
abbrev pub call_accesses : Origin → ℕ → Call → List Access
call_accesses own number call = filter_map (access_of own number call) roles

-- those of the call of a number
abbrev pub accesses_at : Origin → ℕ → List Access
accesses_at own number = option_map_or (call_accesses own number) (slice_get own.sound number) []

-- those of one rank, by the numbers of their calls and then by role
abbrev pub accesses_of : Origin → List Access
accesses_of own = by_number (call_accesses own) 0 own.sound

-- a rank of a run with these windows, by its calls
abbrev pub origin_with : List Window → List RankCalls → Rank → List Call → Origin
origin_with windows ranks rank calls = record { windows = windows; calls = calls_of ranks; rank = rank; sound = sound_calls windows calls }

-- one rank of a run
abbrev pub origin_of : List RankCalls → RankCalls → Origin
origin_of ranks own = origin_with (windows_by (creations ranks)) ranks own.rank own.calls

-- those of all sound calls of a run, by rank
abbrev pub accesses : List RankCalls → List Access
accesses ranks = flat_map (λ own. accesses_of (origin_of ranks own)) ranks

-- ---- what is asked of a rank

-- the use of a buffer is done by no call before its own; in a good log a request is made before its wait, so it is so
abbrev pub AreFreedLater : Origin → Type 0
AreFreedLater own =
    (number : ℕ) (call : Call) (epoch : Epoch) (target : Rank) → slice_get own.sound number ≡ Some call → epoch_of own number ≡ Some epoch
    → IsFrom number (freed_by own epoch target call.request number)

-- what is asked of the calls of the rank, of which these are all, and of what is known by the numbers of what they do: the buffers of an
-- access have canonical runs, as in a good log
pub record AreAskable (own : Origin) (table : CallTable) (known : List OnWindow) : Type 0 where
  pub sound : own.sound ≡ sound_calls own.windows table.calls
  pub few : length table.calls ≤ fed_limit
  pub parts : AreParts own.windows table known
  pub buffers : (place : ℕ) (call : Call) → slice_get table.calls place ≡ Some call → HasBuffers call.what
