use Rattle.std.proofs.Common.{◌≡◌, ◌++◌, ℕ, List, Some, slice_get, take}
use Rattle.std.specs.Prelude.{Contains}
use Rattle.std.specs.List.{filter_map}
use Rattle.rma_call.specs.Call.{Call, RankCalls}
use Rattle.rma_clock.specs.Reached.{points_of}
use Rattle.rma_link.specs.declared.links.Links.{Links}
use Rattle.rma_run.specs.Run.{lens_of}
use Rattle.rma_rules.specs.Access.{Access}
use Rattle.rma_span.specs.Span.{access_of, origin_of}
use Rattle.rma_accesses.specs.inside.Kept.{IsAccessesOf, rank_of}
use Rattle.rma_races.specs.inside.Taking.{AreTaken, IsKnown, numbers}
use Rattle.rma_races.proofs.taking.Taking.take_call.Given as goal

-- the accesses in the first roles were taken
abbrev pub invariant-loop-role : goal.invariant-loop-role
invariant-loop-role g l =
    (l.self.taken ≡ l.initial.self.taken) × (l.self.next ≡ l.initial.self.next)
    × ((ranks : List RankCalls) (links : Links) (seen : List Access) (number : ℕ) (call : Call) → IsKnown ranks l.windows l.lists → IsAccessesOf ranks l.own → g.C.Clocks.are_of l.clocks (points_of (lens_of ranks)) links
    → AreTaken links l.windows l.lists ranks seen l.initial.self → Contains ranks (rank_of l.own) → slice_get l.initial.self.taken.items (rank_of l.own).rank.0 ≡ Some l.index
    → slice_get (numbers ranks (rank_of l.own)) l.index ≡ Some number → slice_get (origin_of ranks (rank_of l.own)).sound number ≡ Some call
    → AreTaken links l.windows l.lists ranks (seen ++ filter_map (access_of (origin_of ranks (rank_of l.own)) number call) (take l.role-index l.role-items)) l.self)
