-- Cuts that show that an access is not complete, or not visible to another, before that starts (MPI 4.0, "One-Sided Communications",
-- semantics and correctness).
use Rattle.std.specs.Prelude.{◌≡◌, ◌<◌, ◌≤◌, ◌*◌, ◌⊎◌, ◌↔◌, ℕ, List, Some, None, All, Contains, true}
use Rattle.rma_base.specs.declared.rank.Rank.{Rank}
use Rattle.rma_base.specs.declared.point.Point.{Point}
use Rattle.rma_link.specs.declared.links.Links.{Links}
use Rattle.rma_link.specs.Point.{entry, return_of}
use Rattle.rma_link.specs.Order.{IsAtOrBefore}
use Rattle.rma_clock.specs.Reached.{IsReached}
use Rattle.rma_window.specs.Windows.{Window}
use Rattle.rma_window.specs.declared.window_id.WindowId.{WindowId}
use Rattle.rma_rules.specs.Access.{Access}
use Rattle.rma_rules.specs.Kind.{is_store}
use Rattle.rma_rules.specs.Before.{NeedsNeither, NeedsPublished, NeedsVisible}
use Rattle.rma_rules.specs.Spans.{Spans, publishing_of, visible_of}
use Rattle.rma_cut.specs.Cut.{IsClosed, IsCut}
use Rattle.rma_cut.specs.declared.cuts.Cuts.{Cuts}

-- the last call of a rank before one that makes updates through a window visible to it
pub record IsLastVisible (spans : Spans) (rank : Rank) (window : WindowId) (call v : ℕ) : Type 0 where
  pub listed : Contains (visible_of spans rank window) v
  pub before : v < call
  pub last : (other : ℕ) → Contains (visible_of spans rank window) other → other < call → other ≤ v

-- the first call of a rank that publishes its stores to a window and is entered at or after a point of the rank
pub record IsFirstPublishing (spans : Spans) (rank : Rank) (window : WindowId) (done : Point) (v : ℕ) : Type 0 where
  pub listed : Contains (publishing_of spans rank window) v
  pub after : done.pos ≤ 2 * v
  pub first : (other : ℕ) → Contains (publishing_of spans rank window) other → done.pos ≤ 2 * other → v ≤ other

-- the access has started: the cut has each point at which it may
abbrev pub HasStarts : List ℕ → Access → Type 0
HasStarts cut b = All (IsReached cut) b.starts

-- the last call that makes updates visible before an access has returned, and what is done at this point was not
pub record IsUnseen (spans : Spans) (rank : Rank) (window : WindowId) (done : Point) (call : ℕ) (cut : List ℕ) : Type 0 where
  pub returned : (v : ℕ) → IsLastVisible spans rank window call v → IsReached cut (return_of rank v)
  pub lacks : ¬ IsReached cut done

-- an access has started, and the first call that publishes what is done at this point was not entered
pub record IsUnpublished (spans : Spans) (rank : Rank) (window : WindowId) (done : Point) (b : Access) (cut : List ℕ) : Type 0 where
  pub starts : HasStarts cut b
  pub lacks : (v : ℕ) → IsFirstPublishing spans rank window done v → ¬ IsReached cut (entry rank v)

-- an access has started, and this point was not reached
pub record IsNotDone (done : Point) (b : Access) (cut : List ℕ) : Type 0 where
  pub starts : HasStarts cut b
  pub lacks : ¬ IsReached cut done

-- an access that is done at this point is not yet complete and visible to another that starts
abbrev pub IsNotYet : List Window → Spans → Access → Access → Point → List ℕ → Type 0
IsNotYet windows spans a b done cut =
    ((window : WindowId) × NeedsVisible windows a b window × IsUnseen spans a.memory window done b.call cut)
    ⊎ (((window : WindowId) × NeedsPublished windows a b window × IsUnpublished spans a.memory window done b cut)
    ⊎ (NeedsNeither windows a b × IsNotDone done b cut))

-- in this state an access is not yet complete and visible to another that starts; one that is never done is never
abbrev pub IsNotBeforeIn : List Window → Spans → Access → Access → List ℕ → Type 0
IsNotBeforeIn windows spans a b cut =
    ((a.done ≡ None) × HasStarts cut b) ⊎ ((done : Point) × (a.done ≡ Some done) × IsNotYet windows spans a b done cut)

-- a closed cut of a run shows that an access is not before another
pub record Shows (links : Links) (lens : List ℕ) (windows : List Window) (spans : Spans) (a b : Access) (cut : List ℕ) : Type 0 where
  pub is_cut : IsCut lens cut
  pub closed : IsClosed links cut
  pub not_before : IsNotBeforeIn windows spans a b cut

-- two cuts show that neither of two accesses is before the other: the first of the first one, and the second of the second one
pub record ShowRace (links : Links) (lens : List ℕ) (windows : List Window) (spans : Spans) (a b : Access) (cuts : Cuts) : Type 0 where
  pub first : Shows links lens windows spans a b cuts.first
  pub second : Shows links lens windows spans b a cuts.second

-- a store is done at a point of the rank whose memory it touches, if it ever is
abbrev pub IsStoredThere : Access → Type 0
IsStoredThere a = (done : Point) → is_store a.kind ≡ true → a.done ≡ Some done → done.rank ≡ a.memory

-- ---- the least cuts

-- a point that a cut has which shows that an access is not before another
abbrev pub IsAsked : List Window → Spans → Access → Access → Point → Type 0
IsAsked windows spans a b p =
    ((done : Point) × (window : WindowId) × (v : ℕ) × (a.done ≡ Some done) × NeedsVisible windows a b window × IsLastVisible spans a.memory window b.call v × (p ≡ return_of a.memory v))
    ⊎ (((done : Point) → (window : WindowId) → a.done ≡ Some done → ¬ NeedsVisible windows a b window) × Contains b.starts p)

-- a cut has the points at or before those, and no other
pub record IsLeast (links : Links) (lens : List ℕ) (windows : List Window) (spans : Spans) (a b : Access) (cut : List ℕ) : Type 0 where
  pub is_cut : IsCut lens cut
  pub has : (p : Point) → IsReached cut p ↔ ((q : Point) × IsAsked windows spans a b q × IsAtOrBefore links p q)

-- two cuts are the least of those that show that neither access is before the other
pub record AreLeast (links : Links) (lens : List ℕ) (windows : List Window) (spans : Spans) (a b : Access) (cuts : Cuts) : Type 0 where
  pub first : IsLeast links lens windows spans a b cuts.first
  pub second : IsLeast links lens windows spans b a cuts.second
