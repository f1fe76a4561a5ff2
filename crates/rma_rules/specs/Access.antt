-- An access: what a call does to the memory of one rank (MPI 4.0, "One-Sided Communications").
use Rattle.std.specs.Prelude.{◌≡◌, ◌<◌, ℕ, List, [], ◌∷◌, Option, Some, None, length}
use Rattle.rma_base.specs.declared.rank.Rank.{Rank}
use Rattle.rma_base.specs.declared.point.Point.{Point}
use Rattle.rma_datatype.specs.declared.basic.Basic.{Basic}
use Rattle.rma_bytes.specs.declared.run.Run.{Run}
use Rattle.rma_link.specs.Point.{entry}
use Rattle.rma_window.specs.Windows.{Window}
use Rattle.rma_window.specs.declared.window_id.WindowId.{WindowId}
use Rattle.rma_rules.specs.declared.access_name.AccessName.{AccessName}
use Rattle.rma_rules.specs.declared.kind.Kind.{Kind}
use Rattle.rma_rules.specs.declared.lock.LockKey.{LockKey}

-- an access: its name, its site, and the number of its call among those of its rank; the rank whose memory it touches, the
-- bytes there, and what it does; the window through which it does so and the basic datatype of its elements, if any; the points
-- any of which it may wait for before it starts, and the one at which it is done, if it ever is; and the locks under which it is made
pub record Access : Type 0 where
  pub name : AccessName
  pub site : Option (List ℕ)
  pub call : ℕ
  pub memory : Rank
  pub runs : List Run
  pub kind : Kind
  pub window : Option WindowId
  pub element : Option Basic
  pub starts : List Point
  pub done : Option Point
  pub locks : List LockKey

-- an access starts at the entry of its call, and where that waits for an epoch to open at the target, also at that opening
abbrev pub starts_of : Rank → ℕ → Option Point → List Point
starts_of rank call None = entry rank call ∷ []
starts_of rank call (Some opening) = entry rank call ∷ opening ∷ []

-- its window, if it has one, is one of these
abbrev pub IsOnWindowOf : List Window → Access → Type 0
IsOnWindowOf windows a = (window : WindowId) → a.window ≡ Some window → window.0 < length windows
