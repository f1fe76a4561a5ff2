-- Clocks of the points that are settled.
use Rattle.std.specs.Prelude.{◌≡◌, ℕ, List, length}
use Rattle.rma_base.specs.declared.point.Point.{Point}
use Rattle.rma_clock.specs.Reached.{IsReached}
use Rattle.rma_clock.specs.declared.live.LiveClocks.{LiveClocks}
use Rattle.rma_clock.specs.inside.Live.{AreLive}
use Rattle.rma_link.specs.declared.links.Links.{Links}

-- these are clocks of some points of so many ranks
abbrev pub AreSettled : ℕ → LiveClocks → Type 0
AreSettled ranks clocks = (points : List ℕ) × (links : Links) × AreLive points links clocks × (length points ≡ ranks)

-- a point is one of those whose clocks these are
pub record IsSettled (clocks : LiveClocks) (point : Point) : Type 0 where
  pub among : (points : List ℕ) (links : Links) → AreLive points links clocks → IsReached points point
