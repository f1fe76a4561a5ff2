-- Accesses that do the same again and again, as those of a rank that raises a counter (MPI 4.0, "One-Sided Communications"): of another
-- access those of them that are before it come first, and those that it is before come last.
use Rattle.std.specs.Prelude.{◌≡◌, ◌≤◌, ℕ, List, Option, Some, Contains, map, slice_get}
use Rattle.rma_base.specs.declared.rank.Rank.{Rank}
use Rattle.rma_base.specs.declared.point.Point.{Point}
use Rattle.rma_bytes.specs.declared.run.Run.{Run}
use Rattle.rma_datatype.specs.declared.basic.Basic.{Basic}
use Rattle.rma_window.specs.declared.window_id.WindowId.{WindowId}
use Rattle.rma_rules.specs.declared.kind.Kind.{Kind}
use Rattle.rma_rules.specs.declared.lock.LockKey.{LockKey}
use Rattle.rma_rules.specs.Access.{Access}

-- what an access does, whenever it does so: the rank whose memory it touches, the bytes there, what it does to them, through which
-- window, in elements of which basic datatype, and under which locks, but for the calls that open them
pub record Deed : Type 0 where
  pub memory : Rank
  pub runs : List Run
  pub kind : Kind
  pub window : Option WindowId
  pub element : Option Basic
  pub locks : List LockKey

-- a lock epoch, whichever call opens it
abbrev pub whenever : LockKey → LockKey
whenever key = record key { opener = 0 }

-- what an access does
abbrev pub deed : Access → Deed
deed a = record { memory = a.memory; runs = a.runs; kind = a.kind; window = a.window; element = a.element; locks = map whenever a.locks }

-- a point of a rank is another one or comes before it by the order of that rank
abbrev pub IsNoLater : Point → Point → Type 0
IsNoLater p q = (p.rank ≡ q.rank) × (p.pos ≤ q.pos)

-- where the second access is ever done, the first is done no later
abbrev pub IsDoneNoLater : Access → Access → Type 0
IsDoneNoLater a b = (q : Point) → b.done ≡ Some q → (p : Point) × (a.done ≡ Some p) × IsNoLater p q

-- each point at which the first may start is no later than one at which the second may
abbrev pub StartsNoLater : Access → Access → Type 0
StartsNoLater a b = (p : Point) → Contains a.starts p → (q : Point) × Contains b.starts q × IsNoLater p q

-- an access does the same as another that came before it
pub record IsFollowedBy (a b : Access) : Type 0 where
  pub deeds : deed a ≡ deed b
  pub calls : a.call ≤ b.call
  pub done : IsDoneNoLater a b
  pub starts : StartsNoLater a b

-- each of some accesses is followed by those after it
abbrev pub IsChain : List Access → Type 0
IsChain list = (i j : ℕ) (a b : Access) → i ≤ j → slice_get list i ≡ Some a → slice_get list j ≡ Some b → IsFollowedBy a b

-- each of some accesses is followed by another
abbrev pub AreFollowedBy : List Access → Access → Type 0
AreFollowedBy list b = (a : Access) → Contains list a → IsFollowedBy a b
