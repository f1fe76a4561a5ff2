-- What is kept of the communicators and windows that each rank has declared.
use Rattle.std.specs.Prelude.{◌≡◌, ℕ, List, Option, Some, None, nat_eq}
use Rattle.std.specs.Map.{lookup}
use Rattle.std.specs.Cmp.Lexicographic.{pointwise}
use Rattle.rma_call.specs.Call.{Call}
use Rattle.rma_match.specs.declared.groups.RankGroups.{RankGroups}
use Rattle.rma_match.specs.declared.groups.Groups.{Groups}
use Rattle.rma_match.specs.Membership.{declared, created_on, first_stated, everyone}

-- the ranks that are kept of a communicator
abbrev pub comm_in : Option RankGroups → List ℕ → Option (List ℕ)
comm_in None name = None
comm_in (Some groups) name = lookup (pointwise nat_eq name) groups.comms.entries

-- the communicator that is kept of a window
abbrev pub window_in : Option RankGroups → List ℕ → Option (List ℕ)
window_in None name = None
window_in (Some groups) name = lookup (pointwise nat_eq name) groups.windows.entries

-- what is kept of a rank represents what its calls declare
pub record AreOfRank (calls : List Call) (groups : Option RankGroups) : Type 0 where
  pub comms_are : (name : List ℕ) → comm_in groups name ≡ first_stated declared name calls
  pub windows_are : (name : List ℕ) → window_in groups name ≡ first_stated created_on name calls

-- what is kept under a rank
abbrev pub kept_of : List (ℕ × RankGroups) → ℕ → Option RankGroups
kept_of ranks rank = lookup (nat_eq rank) ranks

-- what is kept represents what the ranks of a run of so many declare
pub record AreGroups (ranks : ℕ) (calls : ℕ → List Call) (groups : Groups) : Type 0 where
  pub everyone_is : groups.everyone ≡ everyone ranks
  pub each : (rank : ℕ) → AreOfRank (calls rank) (kept_of groups.ranks.entries rank)
