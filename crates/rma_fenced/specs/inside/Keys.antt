-- Accesses by the phase of their rank and their target: those of one key stand in one phase of the target.
use Rattle.std.specs.Prelude.{◌≡◌, ℕ, List, Bool, true, false, Option, None, option_map, slice_get, if◌then◌else◌, IfSome}
use Rattle.std.specs.Option.{option_map_or}
use Rattle.rma_base.specs.declared.rank.Rank.{Rank}
use Rattle.rma_call.specs.Call.{Call}
use Rattle.rma_open.specs.declared.opening.EpochKind.{EpochKind}
use Rattle.rma_open.specs.declared.opening.EpochKind.TheVariants as kind
use Rattle.rma_epoch.specs.declared.epoch.Epoch.{Epoch}
use Rattle.rma_epoch.specs.declared.epoch.Placed.{Placed}
use Rattle.rma_fenced.specs.declared.phase.AccessKey.{AccessKey}
use Rattle.rma_fenced.specs.declared.phase.Phase.{Phase}
use Rattle.rma_fenced.specs.Fenced.{is_accessed, phase_at, target_at}

-- whether an epoch of this kind is the phase of a fence
abbrev pub is_fence : EpochKind → Bool
is_fence kind.Fence = true
is_fence _ = false

-- whether the epoch of an index is
abbrev pub is_phase : List Epoch → ℕ → Bool
is_phase epochs index = option_map_or (λ epoch. is_fence epoch.kind) (slice_get epochs index) false

-- the key of an access, where it stands in a phase of its rank
abbrev pub key_of : List Epoch → List Call → Placed → Option AccessKey
key_of epochs sound placed = if is_phase epochs placed.epoch then option_map (λ target. record { epoch = placed.epoch; target = target }) (target_at sound placed.call) else None

-- the phase of the target in which the accesses of a key stand
abbrev pub phase_by : (ℕ → List Call) → Rank → List Epoch → AccessKey → Option Phase
phase_by calls rank epochs key = phase_at calls rank epochs key.epoch key.target

-- a phase is one of these, if there is one
abbrev pub IsListed : List Phase → Option Phase → Type 0
IsListed phases phase = IfSome phase (λ own. is_accessed phases own.target.0 own.fence ≡ true)
