-- What is known of the attaches and detaches of a run.
use Rattle.std.specs.Prelude.{◌≡◌, ◌<◌, ◌^◌, ℕ, List, All, Option, Some, None, Contains, length, slice_get}
use Rattle.std.specs.List.Sorted.{IsPermutation}
use Rattle.rma_call.specs.Call.{Call, RankCalls}
use Rattle.rma_link.specs.declared.links.Links.{Links}
use Rattle.rma_run.specs.Run.{IsRun, calls_of}
use Rattle.rma_window.specs.Creation.{creations}
use Rattle.rma_window.specs.Windows.{Window, windows_by}
use Rattle.rma_rules.specs.Access.{Access}
use Rattle.rma_rules.specs.declared.access_name.AccessName.{AccessName}
use Rattle.rma_rules.specs.declared.access_name.Role.TheVariants.{Target}
use Rattle.rma_span.specs.Span.{Origin, access_of, origin_of, spanned_calls}
use Rattle.rma_concurrent.specs.inside.Places.{IsOf}
use Rattle.rma_dyn.specs.declared.change.Change.{Change}
use Rattle.rma_dyn.specs.declared.fault.RegionFault.{RegionFault}
use Rattle.rma_dyn.specs.declared.reason.RegionReason.TheVariants.{Unattached, DetachUnordered}
use Rattle.rma_dyn.specs.declared.search.Cover.{Cover}
use Rattle.rma_dyn.specs.declared.search.Cover.TheVariants.{Nothing, Kept, Gone}
use Rattle.rma_dyn.specs.Change.{changes}
use Rattle.rma_dyn.specs.declared.regions.Known.{Known}
use Rattle.rma_dyn.specs.Fault.{IsAtAccess}
use Rattle.rma_dyn.specs.inside.Sorted.{AreInSpace, AreOnce, AreReaches, Rise}

-- these are the attaches and detaches of a run with these windows, in their order, and the addresses up to which they reach
pub record AreKnown (ranks : List RankCalls) (windows : List Window) (list : List Change) (reaches : List ℕ) : Type 0 where
  pub run : IsRun ranks
  pub of_run : windows ≡ windows_by (creations ranks)
  pub all : IsPermutation (changes windows ranks) list
  pub rise : Rise list
  pub once : AreOnce list
  pub in_space : AreInSpace list
  pub within : (c : Change) → Contains list c → c.call < length (calls_of ranks c.rank.0)
  pub small : All (λ c. c.call < 2 ^ 31) list
  pub reach : AreReaches list reaches

-- the same of what is kept
abbrev pub knows : List RankCalls → List Window → Known → Type 0
knows ranks windows given = AreKnown ranks windows given.list.items given.reaches.items

-- a fault of an access, if there is one
abbrev pub IsAtOption : Links → List Window → List Change → Option Access → RegionFault → Type 0
IsAtOption links windows list None fault = ⊥
IsAtOption links windows list (Some a) fault = IsAtAccess links windows list a fault

-- a fault of what a call of a number does at its target
pub record IsAtNumber (links : Links) (windows : List Window) (list : List Change) (own : Origin) (number : ℕ) (fault : RegionFault) : Type 0 where
  pub call : Call
  pub at : slice_get own.sound number ≡ Some call
  pub is : IsAtOption links windows list (access_of own number call Target) fault

-- a fault of what some call of a rank does at its target
abbrev pub IsOfRank : Links → List Window → List Change → List RankCalls → RankCalls → RegionFault → Type 0
IsOfRank links windows list ranks own fault = IsOf (IsAtNumber links windows list (origin_of ranks own)) (spanned_calls (origin_of ranks own)) fault

-- the fault that an access of a name has by the attaches that hold it
abbrev pub fault_by : AccessName → Cover → Option RegionFault
fault_by name Kept = None
fault_by name Nothing = Some (record { reason = Unattached; rank = name.rank; line = name.line; other = None })
fault_by name (Gone last detach) = Some (record { reason = DetachUnordered; rank = name.rank; line = name.line; other = Some (detach.rank, detach.line) })
