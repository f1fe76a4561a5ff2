-- The calls that open and close exposure and access epochs of general active target synchronisation (MPI 4.0,
-- "One-Sided Communications").
use Rattle.std.specs.Prelude.{ℕ, List, Bool, false, Option, Some, None, nat_eq, slice_get, ◌&&◌}
use Rattle.std.specs.Option.{option_and_then, option_map_or}
use Rattle.std.specs.Cmp.Lexicographic.{pointwise}
use Rattle.rma_base.specs.RankSet.{has_number}
use Rattle.rma_call.specs.Call.{Call}
use Rattle.rma_call.specs.declared.what.What.{What}
use Rattle.rma_call.specs.declared.what.What.TheVariants.{Sync}
use Rattle.rma_call.specs.declared.what.SyncCall.TheVariants.{Epoch}
use Rattle.rma_call.specs.declared.epoch.EpochCall.TheVariants.{Post, Start, Complete, Expwait}
use Rattle.rma_exposure.specs.declared.side.Side.{Side}
use Rattle.rma_exposure.specs.declared.side.Side.TheVariants.{Exposure, Access}

-- what a post or a start states: its window, and the numbers of the ranks of its group
pub record Opening : Type 0 where
  pub window : List ℕ
  pub group : List ℕ

-- what a call states, where it is a post
abbrev pub posted : What → Option Opening
posted (Sync (Epoch (Post window origins assertions))) = Some (record { window = window; group = origins })
posted _ = None

-- what a call states, where it is a start
abbrev pub started : What → Option Opening
started (Sync (Epoch (Start window targets assertions))) = Some (record { window = window; group = targets })
started _ = None

-- what a call states, where it opens an epoch: a post opens an exposure epoch, a start an access epoch
abbrev pub opened : Side → What → Option Opening
opened Exposure what = posted what
opened Access what = started what

-- the window of an expwait
abbrev pub waited : What → Option (List ℕ)
waited (Sync (Epoch (Expwait window))) = Some window
waited _ = None

-- the window of a complete
abbrev pub completed : What → Option (List ℕ)
completed (Sync (Epoch (Complete window))) = Some window
completed _ = None

-- the window of a call that closes an epoch: an expwait closes an exposure epoch, a complete an access epoch
abbrev pub closed : Side → What → Option (List ℕ)
closed Exposure what = waited what
closed Access what = completed what

-- what the call of this number of a rank states, where it opens an epoch
abbrev pub opening_at : Side → List Call → ℕ → Option Opening
opening_at side calls number = option_and_then (λ call. opened side call.what) (slice_get calls number)

-- the other side: that of the epochs that match those of a side
abbrev pub opposite : Side → Side
opposite Exposure = Access
opposite Access = Exposure

-- whether a call opens an epoch of the side on the window
abbrev pub opens_on : Side → List ℕ → Call → Bool
opens_on side window call = option_map_or (λ opening. pointwise nat_eq window opening.window) (opened side call.what) false

-- whether it does, with this rank in its group
abbrev pub opens_with : Side → List ℕ → ℕ → Call → Bool
opens_with side window other call = option_map_or (λ opening. pointwise nat_eq window opening.window && has_number other opening.group) (opened side call.what) false

-- whether a call closes an epoch of the side on the window
abbrev pub closes_on : Side → List ℕ → Call → Bool
closes_on side window call = option_map_or (λ own. pointwise nat_eq window own) (closed side call.what) false
