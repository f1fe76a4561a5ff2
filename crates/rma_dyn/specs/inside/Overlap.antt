-- What a search for the regions that an attach meets knows.
use Rattle.std.specs.Prelude.{◌≡◌, ◌<◌, ◌≤◌, ◌^◌, nat_lt, ℕ, All, List, Option, Some, None, length, slice_get, if◌then◌else◌}
use Rattle.rma_dyn.specs.declared.change.Change.{Change}
use Rattle.rma_dyn.specs.declared.fault.RegionFault.{RegionFault}
use Rattle.rma_dyn.specs.declared.reason.RegionReason.TheVariants.{AttachOverlap}
use Rattle.rma_dyn.specs.inside.Sorted.{AreInSpace, AreOnce, AreReaches, Rise}
use Rattle.rma_dyn.specs.Region.{IsAtSame, IsLiveAt, Overlaps}

-- the region of an attach is not live from a call of its rank behind this one on
abbrev pub IsGoneBy : List Change → Change → ℕ → Type 0
IsGoneBy list g last = (number : ℕ) → last < number → number < 2 ^ 31 → ¬ IsLiveAt list g number

-- for each index up to which these numbers go no region that begins at its address, by an attach that stands there or before, is live
-- behind its number
abbrev pub Last : List Change → List ℕ → Type 0
Last list lasts = (i j : ℕ) (a b : Change) (last : ℕ) → j ≤ i → slice_get list i ≡ Some a → slice_get list j ≡ Some b → IsAtSame b a → slice_get lasts i ≡ Some last → IsGoneBy list b last

-- so they go up to all of a list
pub record AreLasts (list : List Change) (lasts : List ℕ) : Type 0 where
  pub as_many : length lasts ≡ length list
  pub each : Last list lasts

-- what is known of the regions that an attach meets among the elements from an index on: the first of them by its call, if there is one
abbrev pub IsFirst : List Change → Change → ℕ → Option Change → Type 0
IsFirst list g from None = (k : ℕ) (x : Change) → from ≤ k → slice_get list k ≡ Some x → ¬ Overlaps list g x
IsFirst list g from (Some first) = Overlaps list g first × ((k : ℕ) (x : Change) → from ≤ k → slice_get list k ≡ Some x → Overlaps list g x → first.call ≤ x.call)

-- the one of two that comes first by its call, if there are two
abbrev pub earlier_of : Option Change → Change → Change
earlier_of None other = other
earlier_of (Some first) other = if nat_lt first.call other.call then first else other

-- what is asked of attaches and detaches in their order, with the addresses up to which they reach and their last calls
pub record AreAsked (list : List Change) (reaches lasts : List ℕ) : Type 0 where
  pub rise : Rise list
  pub once : AreOnce list
  pub in_space : AreInSpace list
  pub small : All (λ c. c.call < 2 ^ 31) list
  pub reach : AreReaches list reaches
  pub last : AreLasts list lasts

-- the fault of an attach that meets this region first, if it meets any
abbrev pub overlap_by : Change → Option Change → Option RegionFault
overlap_by g None = None
overlap_by g (Some first) = Some (record { reason = AttachOverlap; rank = g.rank; line = g.line; other = Some (first.rank, first.line) })
