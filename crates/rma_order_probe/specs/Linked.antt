-- A run whose links are known.
use Rattle.std.specs.Prelude.{◌≡◌, ◌<◌, ◌^◌, ℕ, List, All}
use Rattle.rma_accesses.specs.Run.{AreGood}
use Rattle.rma_clock.specs.declared.shared.SharedClocks.{SharedClocks}
use Rattle.rma_happens_before.specs.RunOrder.{IsHappensBefore}
use Rattle.rma_link.specs.declared.links.Links.{Links}
use Rattle.rma_link.specs.Within.{AreWithin}
use Rattle.rma_match.specs.Matches.{AreMatches}
use Rattle.rma_order.specs.RunLinks.{LinkTheSame, links_of}
use Rattle.rma_run.specs.Run.{lens_of}
use Rattle.rma_order_probe.specs.declared.linked.LinkedRun.{LinkedRun}
use Rattle.rma_order_probe.specs.declared.linked.OrderedRun.{OrderedRun}

-- these are the matches and the links of a run of good logs
pub record IsLinkedRun (run : LinkedRun) : Type 0 where
  pub good : AreGood run.calls.now
  pub matches_are : AreMatches run.calls.now run.matches.now
  pub links_are : LinkTheSame run.links.now (links_of run.calls.now)
  pub within : AreWithin (lens_of run.calls.now) run.links.now

-- the run is possible, and this is its order; so many calls are made by its ranks
pub record IsOrderedRun (are_of : SharedClocks → List ℕ → Links → Type 0) (run : OrderedRun) : Type 0 where
  pub linked : IsLinkedRun run.linked
  pub order_is : IsHappensBefore are_of run.linked.calls.now run.order.now
  pub lens_are : run.lens.now ≡ lens_of run.linked.calls.now
  pub few : All (λ calls. calls < 2 ^ 31) run.lens.now
