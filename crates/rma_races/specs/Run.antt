-- A run of good logs whose races are looked for (MPI 4.0, "One-Sided Communications").
use Rattle.std.specs.Prelude.{◌≡◌, ◌<◌, List, Contains, length}
use Rattle.rma_base.specs.declared.point.Point.{Point}
use Rattle.rma_call.specs.Call.{RankCalls}
use Rattle.rma_link.specs.Point.{IsPoint}
use Rattle.rma_run.specs.Run.{lens_of}
use Rattle.rma_window.specs.Creation.{creations}
use Rattle.rma_window.specs.Windows.{Window, windows_by}
use Rattle.rma_accesses.specs.Run.{AreGood}
use Rattle.rma_accesses.specs.declared.accesses.RunAccesses.{RunAccesses}
use Rattle.rma_accesses.specs.inside.Kept.{AreAccessesOf}

-- these are the accesses of a run of good logs, its windows, and all its points
pub record AreOfRun (ranks : List RankCalls) (given : RunAccesses) (windows : List Window) (points : List Point) : Type 0 where
  pub good : AreGood ranks
  pub accesses_are : AreAccessesOf ranks given
  pub windows_are : windows ≡ windows_by (creations ranks)
  pub of_ranks : (p : Point) → Contains points p → p.rank.0 < length ranks
  pub all_points : (p : Point) → IsPoint (lens_of ranks) p → Contains points p
