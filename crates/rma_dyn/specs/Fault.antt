-- The faults of the memory of dynamic windows (MPI 4.0, "One-Sided Communications", dynamically attached memory).
use Rattle.std.specs.Prelude.{◌≡◌, ◌≤◌, ◌⊎◌, ◌∷◌, [], ℕ, List, Option, Some, None, Contains}
use Rattle.std.specs.Ordering.{nat_cmp, ordering_then}
use Rattle.std.specs.Cmp.Lexicographic.{slice_cmp}
use Rattle.std.specs.declared.cmp.Ordering.{Ordering}
use Rattle.rma_base.specs.declared.line.LineNo.{LineNo}
use Rattle.rma_base.specs.declared.rank.Rank.{Rank}
use Rattle.rma_call.specs.Call.{RankCalls}
use Rattle.rma_link.specs.declared.links.Links.{Links}
use Rattle.rma_span.specs.Span.{accesses}
use Rattle.rma_window.specs.Creation.{creations}
use Rattle.rma_window.specs.Windows.{Window, windows_by}
use Rattle.rma_rules.specs.Access.{Access}
use Rattle.rma_concurrent.specs.Listed.{AreAll}
use Rattle.rma_dyn.specs.declared.change.Change.{Change}
use Rattle.rma_dyn.specs.declared.fault.RegionFault.{RegionFault}
use Rattle.rma_dyn.specs.declared.reason.RegionReason.TheVariants.{AttachOverlap, DetachUnknown, Unattached, DetachUnordered}
use Rattle.rma_dyn.specs.Change.{changes}
use Rattle.rma_dyn.specs.Reason.{reason_place}
use Rattle.rma_dyn.specs.Region.{Covers, IsAtSame, IsDetachOf, IsLiveAt, IsThroughDynamic, MayBeGone, Overlaps}

-- ---- at an attach, and at a detach

-- an attach meets a region that is live then; the fault names the first such attach
pub record IsOverlap (all : List Change) (g : Change) (fault : RegionFault) : Type 0 where
  pub there : Contains all g
  pub other : Change
  pub overlaps : Overlaps all g other
  pub first : (earlier : Change) → Overlaps all g earlier → other.call ≤ earlier.call
  pub is : fault ≡ record { reason = AttachOverlap; rank = g.rank; line = g.line; other = Some (other.rank, other.line) }

-- a detach has no region to end: none that is live then begins at its address
pub record IsUnknown (all : List Change) (d : Change) (fault : RegionFault) : Type 0 where
  pub there : Contains all d
  pub detaches : d.size ≡ None
  pub none : (g : Change) → Contains all g → IsAtSame g d → ¬ IsLiveAt all g d.call
  pub is : fault ≡ record { reason = DetachUnknown; rank = d.rank; line = d.line; other = None }

-- ---- at an access

-- no attach covers an access through a dynamic window
pub record IsUnattached (links : Links) (windows : List Window) (all : List Change) (a : Access) (fault : RegionFault) : Type 0 where
  pub through : IsThroughDynamic windows a
  pub none : (g : Change) → ¬ Covers links all a g
  pub is : fault ≡ record { reason = Unattached; rank = a.name.rank; line = a.name.line; other = None }

-- some attach covers it, and the region of each that does may be gone before it is done; the fault names the detach of the last of them
pub record IsUnordered (links : Links) (windows : List Window) (all : List Change) (a : Access) (fault : RegionFault) : Type 0 where
  pub through : IsThroughDynamic windows a
  pub last : Change
  pub covers : Covers links all a last
  pub is_last : (g : Change) → Covers links all a g → g.call ≤ last.call
  pub detach : Change
  pub of_last : IsDetachOf all last detach
  pub each : (g : Change) → Covers links all a g → MayBeGone links all a g
  pub is : fault ≡ record { reason = DetachUnordered; rank = a.name.rank; line = a.name.line; other = Some (detach.rank, detach.line) }

-- ---- all

-- a fault of an access
abbrev pub IsAtAccess : Links → List Window → List Change → Access → RegionFault → Type 0
IsAtAccess links windows all a fault = IsUnattached links windows all a fault ⊎ IsUnordered links windows all a fault

-- a fault of one of some accesses
abbrev pub IsAtSome : Links → List Window → List Change → List Access → RegionFault → Type 0
IsAtSome links windows all list fault = (a : Access) × Contains list a × IsAtAccess links windows all a fault

-- a fault of one of the attaches
abbrev pub IsAtAttach : List Change → RegionFault → Type 0
IsAtAttach all fault = (g : Change) × IsOverlap all g fault

-- a fault of one of the detaches
abbrev pub IsAtDetach : List Change → RegionFault → Type 0
IsAtDetach all fault = (d : Change) × IsUnknown all d fault

-- what another call has in the order of faults: none comes first, then by rank and line
abbrev pub other_key : Option (Rank × LineNo) → List ℕ
other_key None = []
other_key (Some other) = other.0.0 ∷ other.1.0 ∷ []

-- the order of faults: by reason, by rank and by line; a call has one fault of a reason, so the other call decides nothing more
unfoldable pub fault_order : RegionFault → RegionFault → Ordering
fault_order f g =
    ordering_then
    (ordering_then (ordering_then (nat_cmp (reason_place f.reason) (reason_place g.reason)) (nat_cmp f.rank.0 g.rank.0)) (nat_cmp f.line.0 g.line.0))
    (slice_cmp nat_cmp (other_key f.other) (other_key g.other))

-- a fault of a run, of any reason
abbrev pub IsRegionFault : Links → List Window → List Change → List Access → RegionFault → Type 0
IsRegionFault links windows all list fault = IsAtAttach all fault ⊎ (IsAtDetach all fault ⊎ IsAtSome links windows all list fault)

-- a list is that of all faults of the memory of the dynamic windows of a run: each once, in order
abbrev pub AreRegionFaults : Links → List RankCalls → List RegionFault → Type 0
AreRegionFaults links ranks list =
    AreAll fault_order (IsRegionFault links (windows_by (creations ranks)) (changes (windows_by (creations ranks)) ranks) (accesses ranks)) list
