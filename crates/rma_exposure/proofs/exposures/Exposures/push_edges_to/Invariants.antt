use Rattle.std.proofs.Common.{◌≡◌, ◌++◌, take}
use Rattle.std.specs.List.{filter_map}
use Rattle.rma_run.specs.Run.{calls_of}
use Rattle.rma_exposure.specs.Edge.{edge_from}
use Rattle.rma_exposure.proofs.exposures.Exposures.push_edges_to.Given as goal

-- the edges from the origins before are there
abbrev pub invariant-loop-origin : goal.invariant-loop-origin
invariant-loop-origin l = record {
  edges : l.links.edges ≡ l.initial.links.edges ++ filter_map (edge_from (calls_of l.ranks) l.rank l.post l.epoch.window l.expwait) (take l.origin-index l.origin-items);
  meets : l.links.meets ≡ l.initial.links.meets;
}
