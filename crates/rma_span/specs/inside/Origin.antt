-- What the spans of a rank are made of.
use Rattle.std.specs.Prelude.{◌≡◌, ℕ}
use Rattle.rma_run.specs.Run.{calls_of}
use Rattle.rma_epoch.specs.Table.{epochs_of, placed_of}
use Rattle.rma_side.specs.Sides.{AreSides}
use Rattle.rma_span.specs.declared.walk.Walk.{Walk}
use Rattle.rma_completion.specs.inside.Kept.{Represents}
use Rattle.rma_cover.specs.declared.own_locks.OwnLocks.{OwnLocks}
use Rattle.rma_cover.specs.inside.Held.{Represents as Holds}
use Rattle.rma_span.specs.declared.run.RankRun.{RankRun}
use Rattle.rma_span.specs.Span.{AreFreedLater, Origin}

-- it is that of this rank
pub record IsOf (own : Origin) (given : RankRun) : Type 0 where
  pub windows : given.windows.now ≡ own.windows
  pub calls : calls_of given.ranks.now ≡ own.calls
  pub rank : given.rank ≡ own.rank
  pub epochs : given.epochs.now ≡ epochs_of own.windows own.sound
  pub placed : given.table.now.placed ≡ placed_of own.windows own.sound
  pub completions : Represents own.windows own.sound given.completions.now
  pub later : AreFreedLater own

-- the locks of the rank on itself went on to its call of a number
abbrev pub IsReady : Origin → ℕ → OwnLocks → Type 0
IsReady own number held = Holds own.windows own.rank (epochs_of own.windows own.sound) number held

-- what is kept on the way is that of the rank: the locks went on to its call of a number, and the sides are those of its epochs
pub record IsOnWay (own : Origin) (number : ℕ) (walk : Walk) : Type 0 where
  pub held : IsReady own number walk.held
  pub sides : AreSides own.calls own.windows own.rank (epochs_of own.windows own.sound) walk.sides
