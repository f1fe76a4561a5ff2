-- What is kept of the posts and starts of a run.
use Rattle.std.specs.Prelude.{◌≡◌, ◌<◌, ◌≤◌, length, slice_index_or, ℕ, ◌==◌, List, [], ◌∷◌, ◌++◌, Bool, false, Option, Some, None, option_map, MatchOption, nat_eq, unwrap_or, if◌then◌else◌}
use Rattle.std.specs.Option.{option_map_or}
use Rattle.std.specs.Map.{lookup, keys_of}
use Rattle.std.specs.Cmp.Lexicographic.{pointwise}
use Rattle.rma_base.specs.RankSet.{has_number}
use Rattle.rma_base.specs.declared.rank.Rank.{Rank}
use Rattle.rma_call.specs.Call.{Call}
use Rattle.rma_call.specs.declared.what.What.{What}
use Rattle.rma_run.specs.Run.{by_number}
use Rattle.rma_exposure.specs.declared.side.Side.{Side}
use Rattle.rma_exposure.specs.declared.side.Side.TheVariants.{Exposure, Access}
use Rattle.rma_exposure.specs.declared.opened.Opened.{Opened}
use Rattle.rma_exposure.specs.declared.openings.Openings.{Openings}
use Rattle.rma_exposure.specs.declared.side_epochs.SideEpochs.{SideEpochs}
use Rattle.rma_exposure.specs.declared.rank_epochs.RankEpochs.{RankEpochs}
use Rattle.rma_exposure.specs.declared.exposures.Exposures.{Exposures}
use Rattle.rma_exposure.specs.Opening.{Opening, opposite, opened, opening_at, posted, started, waited, completed}
use Rattle.rma_exposure.specs.Closing.{pending_of, closing_of, opener_of}
use Rattle.rma_exposure.specs.Matching.{numbers}

-- the numbers under a rank, none where there is no such rank
abbrev pub listed : List (ℕ × List ℕ) → ℕ → List ℕ
listed entries rank = unwrap_or (lookup (nat_eq rank) entries) []

-- what is kept under a window
abbrev pub kept : List (List ℕ × Openings) → List ℕ → Option Openings
kept windows window = lookup (pointwise nat_eq window) windows

-- the numbers that are kept of a window's openings with a rank in their group
abbrev pub numbers_in : Option Openings → ℕ → List ℕ
numbers_in None other = []
numbers_in (Some openings) other = listed openings.numbers.entries other

-- the opening on a window that is kept as not closed yet
abbrev pub pending_in : Option Openings → Option ℕ
pending_in None = None
pending_in (Some openings) = openings.pending

-- a window's openings with one more, of this number and group
pub record IsOpened (number : ℕ) (group : List ℕ) (old new : Option Openings) : Type 0 where
  pub numbers : (other : ℕ) → numbers_in new other ≡ numbers_in old other ++ (if has_number other group then number ∷ [] else [])
  pub pending : pending_in new ≡ Some number

-- whether this opening is the open one
abbrev pub is_pending : Option ℕ → ℕ → Bool
is_pending found number = option_map_or (λ own. own == number) found false

-- what the opening of an epoch states, as it is kept
abbrev pub stated : Opened → Opening
stated epoch = record { window = epoch.window; group = epoch.group }

-- the call that closes an epoch, as it is kept
abbrev pub close_in : Option Opened → Option ℕ
close_in None = None
close_in (Some epoch) = epoch.close

-- an epoch, closed by a call
abbrev pub ended : ℕ → Opened → Opened
ended close epoch = record { window = epoch.window; group = epoch.group; close = Some close }

-- the call that closes, in the pair at a place
abbrev pub close_at : List (ℕ × ℕ) → ℕ → ℕ
close_at pairs place = let pair = slice_index_or pairs place (0, 0) in pair.0

-- pairs of a call that closes and the one that opens are in the order of the former
abbrev pub AreInOrder : List (ℕ × ℕ) → Type 0
AreInOrder pairs = (i j : ℕ) → i < j → j < length pairs → close_at pairs i < close_at pairs j

-- the number of a call, where that opens an epoch of the side
abbrev pub number_of_opener : Side → ℕ → Call → List ℕ
number_of_opener side number call = option_map_or (λ opening. number ∷ []) (opened side call.what) []

-- the numbers of those of a rank's calls that open an epoch of the side
abbrev pub openers : Side → List Call → List ℕ
openers side calls = by_number (number_of_opener side) 0 calls

-- what is kept represents the epochs of one side that these calls of a rank open and close
pub record AreEpochs (side : Side) (calls : List Call) (epochs : SideEpochs) : Type 0 where
  pub numbers_are : (window : List ℕ) (other : ℕ) → numbers_in (kept epochs.windows.entries window) other ≡ numbers side window other calls
  pub pending_are : (window : List ℕ) → pending_in (kept epochs.windows.entries window) ≡ pending_of side window calls
  pub openers_are : (number : ℕ) → option_map stated (lookup (nat_eq number) epochs.openers.entries) ≡ opening_at side calls number
  pub openers_come : keys_of epochs.openers.entries ≡ openers side calls
  pub closings_are : (number : ℕ) → close_in (lookup (nat_eq number) epochs.openers.entries) ≡ closing_of side calls number
  pub closed_are : (number : ℕ) → lookup (nat_eq number) epochs.closed ≡ opener_of side calls number
  pub closed_come : AreInOrder epochs.closed

-- what a call does opens and closes no epoch of either side
pub record IsNeither (what : What) : Type 0 where
  pub no_post : posted what ≡ None
  pub no_wait : waited what ≡ None
  pub no_start : started what ≡ None
  pub no_complete : completed what ≡ None

-- these calls of a rank open and close no epochs of one side
pub record HaveNoEpochs (side : Side) (calls : List Call) : Type 0 where
  pub numbers_are : (window : List ℕ) (other : ℕ) → numbers side window other calls ≡ []
  pub pending_are : (window : List ℕ) → pending_of side window calls ≡ None
  pub openers_are : (number : ℕ) → opening_at side calls number ≡ None
  pub none_opens : openers side calls ≡ []
  pub closings_are : (number : ℕ) → closing_of side calls number ≡ None
  pub closed_are : (number : ℕ) → opener_of side calls number ≡ None

-- what is kept represents the epochs of both sides
pub record AreOfRank (calls : List Call) (epochs : RankEpochs) : Type 0 where
  pub posts_are : AreEpochs Exposure calls epochs.posts
  pub starts_are : AreEpochs Access calls epochs.starts

-- whether a rank has this number
abbrev pub is_numbered : ℕ → Rank → Bool
is_numbered number rank = number == rank.0

-- what is kept under a rank
abbrev pub kept_of : List (Rank × RankEpochs) → ℕ → Option RankEpochs
kept_of ranks rank = lookup (is_numbered rank) ranks

-- what is kept of a rank represents its calls: they open and close no epochs where nothing is kept
abbrev pub IsOfRank : List Call → Option RankEpochs → Type 0
IsOfRank calls epochs = MatchOption epochs ((side : Side) → HaveNoEpochs side calls) (AreOfRank calls)

-- what is kept represents these calls of the ranks
abbrev pub Represents : (ℕ → List Call) → Exposures → Type 0
Represents calls exposures = (rank : ℕ) → IsOfRank (calls rank) (kept_of exposures.ranks.entries rank)

-- no rank opens fewer epochs of the other side on the window, with a rank in their group, than that rank opens with it
abbrev pub HavePartners : Side → List ℕ → (ℕ → List Call) → ℕ → Type 0
HavePartners side window calls rank = (other : ℕ) → length (numbers side window other (calls rank)) ≤ length (numbers (opposite side) window rank (calls other))
