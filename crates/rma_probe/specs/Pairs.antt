-- What is known of a run whose accesses are compared.
use Rattle.std.specs.Prelude.{◌≡◌, ℕ, List, All, Contains}
use Rattle.rma_call.specs.Call.{RankCalls}
use Rattle.rma_clock.specs.Reached.{points_of}
use Rattle.rma_clock.specs.declared.shared.SharedClocks.{SharedClocks}
use Rattle.rma_link.specs.declared.links.Links.{Links}
use Rattle.rma_points.specs.Points.{AreRunCalls}
use Rattle.rma_rules.specs.Access.{Access}
use Rattle.rma_run.specs.Run.{IsRun, lens_of}
use Rattle.rma_span.specs.Span.{accesses}
use Rattle.rma_window.specs.Creation.{creations}
use Rattle.rma_window.specs.Windows.{windows_by}
use Rattle.rma_probe.specs.declared.table.Order.{Order}

-- these are clocks of all points of a run, by some links; `are_of` says so of clocks and links
abbrev pub AreClocksOf : (SharedClocks → List ℕ → Links → Type 0) → List RankCalls → SharedClocks → Type 0
AreClocksOf are_of ranks clocks = (links : Links) × are_of clocks (points_of (lens_of ranks)) links

-- these are the windows, the lists and the clocks of a run
pub record IsOrderOf (are_of : SharedClocks → List ℕ → Links → Type 0) (ranks : List RankCalls) (given : Order) : Type 0 where
  pub run : IsRun ranks
  pub windows : given.windows.now ≡ windows_by (creations ranks)
  pub lists : AreRunCalls ranks given.lists.now
  pub clocks : AreClocksOf are_of ranks given.clocks.now

-- and these are accesses of that run
abbrev pub MayBeAsked : (SharedClocks → List ℕ → Links → Type 0) → Order → List Access → Type 0
MayBeAsked are_of given list = (ranks : List RankCalls) × IsOrderOf are_of ranks given × All (Contains (accesses ranks)) list
