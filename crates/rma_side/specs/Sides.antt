-- The sides of the epochs of a rank that were asked for, each once (MPI 4.0, "One-Sided Communications").
use Rattle.std.specs.Prelude.{◌≡◌, ◌==◌, ◌&&◌, ℕ, List, [], ◌∷◌, ◌++◌, All, Bool, Option, Some, is_some, option_map, position, slice_get, if◌then◌else◌}
use Rattle.rma_base.specs.declared.rank.Rank.{Rank}
use Rattle.rma_call.specs.Call.{Call}
use Rattle.rma_window.specs.Windows.{Window}
use Rattle.rma_epoch.specs.declared.epoch.Epoch.{Epoch}
use Rattle.rma_side.specs.declared.side.Side.{Side}
use Rattle.rma_side.specs.Side.{side_of}

-- the side of an epoch of a rank at a target, with the index of the epoch among those of the rank
pub record Asked : Type 0 where
  pub epoch : ℕ
  pub target : Rank
  pub side : Side

-- the side of the epoch of an index at a target, as it is asked for
abbrev pub asked : ℕ → Rank → Side → Asked
asked index target side = record { epoch = index; target = target; side = side }

-- whether one is that of the epoch of an index at a target
abbrev pub is_for : ℕ → Rank → Asked → Bool
is_for index target own = (index == own.epoch) && (target.0 == own.target.0)

-- its number, where it was asked for
abbrev pub number_of : List Asked → ℕ → Rank → Option ℕ
number_of sides index target = position (is_for index target) sides

-- the side of a number
abbrev pub side_in : List Asked → ℕ → Option Side
side_in sides number = option_map (λ own. own.side) (slice_get sides number)

-- those once one more was asked for, which comes last unless it was asked for before
abbrev pub with_side : List Asked → Asked → List Asked
with_side sides own = if is_some (number_of sides own.epoch own.target) then sides else sides ++ own ∷ []

-- the side of the epoch of an index among those of a rank, at a target
abbrev pub side_at : (ℕ → List Call) → List Window → Rank → List Epoch → ℕ → Rank → Option Side
side_at calls windows rank epochs index target = option_map (λ epoch. side_of calls windows rank epoch target) (slice_get epochs index)

-- each is that of its epoch at its target
pub record AreSides (calls : ℕ → List Call) (windows : List Window) (rank : Rank) (epochs : List Epoch) (sides : List Asked) : Type 0 where
  pub each : All (λ own. side_at calls windows rank epochs own.epoch own.target ≡ Some own.side) sides
