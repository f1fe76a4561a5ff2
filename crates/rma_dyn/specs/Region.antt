-- The regions of memory that attaches give, from when to when they are attached, and which accesses they hold (MPI 4.0, "One-Sided
-- Communications", dynamically attached memory).
use Rattle.std.specs.Prelude.{◌≡◌, ◌+◌, ◌<◌, ◌≤◌, ℕ, pos, List, Some, None, Contains, true}
use Rattle.rma_base.specs.declared.point.Point.{Point}
use Rattle.rma_bytes.specs.declared.run.Run.{Run}
use Rattle.rma_link.specs.declared.links.Links.{Links}
use Rattle.rma_link.specs.Point.{entry, return_of}
use Rattle.rma_link.specs.Order.{IsAtOrBefore}
use Rattle.rma_window.specs.Windows.{Window, window_of}
use Rattle.rma_window.specs.declared.window_id.WindowId.{WindowId}
use Rattle.rma_rules.specs.Access.{Access}
use Rattle.rma_rules.specs.Share.{LiesIn}
use Rattle.rma_dyn.specs.declared.change.Change.{Change}

-- the bytes that an attach of so many from an address on gives
abbrev pub region : ℕ → ℕ → Run
region address size = record { start = pos address; len = size }

-- two are of one rank and window
pub record IsBeside (a b : Change) : Type 0 where
  pub rank : a.rank ≡ b.rank
  pub window : a.window ≡ b.window

-- two are at one address of one window of one rank
pub record IsAtSame (a b : Change) : Type 0 where
  pub beside : IsBeside a b
  pub address : a.address ≡ b.address

-- a detach is that of an attach: the first later one at its address, with no other attach there between
pub record IsDetachOf (all : List Change) (g h : Change) : Type 0 where
  pub there : Contains all h
  pub detaches : h.size ≡ None
  pub same : IsAtSame g h
  pub later : g.call < h.call
  pub first : (c : Change) → Contains all c → IsAtSame g c → g.call < c.call → h.call ≤ c.call

-- the region of an attach is live at a call of its rank: the attach stands before, and its detach does not
pub record IsLiveAt (all : List Change) (g : Change) (number : ℕ) : Type 0 where
  pub size : ℕ
  pub attaches : g.size ≡ Some size
  pub before : g.call < number
  pub still : (h : Change) → IsDetachOf all g h → number ≤ h.call

-- ---- an access

-- an access is one of a target through a dynamic window
abbrev pub IsThroughDynamic : List Window → Access → Type 0
IsThroughDynamic windows a = (id : WindowId) × (window : Window) × (a.window ≡ Some id) × (window_of windows id ≡ Some window) × (window.dynamic ≡ true)

-- an attach gives all bytes of an access: they lie in the one region
pub record HoldsAll (g : Change) (a : Access) : Type 0 where
  pub size : ℕ
  pub attaches : g.size ≡ Some size
  pub window : a.window ≡ Some g.window
  pub memory : a.memory ≡ g.rank
  pub bytes : LiesIn a.runs (region g.address size)

-- an attach covers an access: it gives all bytes, and its rank returns from it at or before the entry of the access's call
pub record Covers (links : Links) (all : List Change) (a : Access) (g : Change) : Type 0 where
  pub there : Contains all g
  pub holds : HoldsAll g a
  pub before : IsAtOrBefore links (return_of g.rank g.call) (entry a.name.rank a.call)

-- an access is done at or before the entry of a detach
abbrev pub IsDoneBy : Links → Access → Change → Type 0
IsDoneBy links a h = (done : Point) × (a.done ≡ Some done) × IsAtOrBefore links done (entry h.rank h.call)

-- the region of an attach may be gone before an access is done: it has a detach, and the access is not surely done by then
pub record MayBeGone (links : Links) (all : List Change) (a : Access) (g : Change) : Type 0 where
  pub detach : Change
  pub of : IsDetachOf all g detach
  pub not_done : ¬ IsDoneBy links a detach

-- ---- two attaches

-- the region of an attach meets that of an earlier one of its rank and window, which is live then
pub record Overlaps (all : List Change) (g earlier : Change) : Type 0 where
  pub there : Contains all earlier
  pub beside : IsBeside earlier g
  pub live : IsLiveAt all earlier g.call
  pub size : ℕ
  pub attaches : g.size ≡ Some size
  pub earlier_end : g.address < earlier.address + live.size
  pub own_end : earlier.address < g.address + size
