use Rattle.std.proofs.Common.{◌≡◌, List, ◌++◌, Some, slice_get, take, length, refl, ap, ◌∙◌, append_assoc}
use Rattle.std.specs.List.{flat_map}
use Rattle.std.proofs.lemmas.Option.{slice_get_read}
use Rattle.rma_link.specs.declared.edge.Edge.{Edge}
use Rattle.rma_call.specs.Call.{RankCalls}
use Rattle.rma_run.specs.Run.{calls_of, by_number}
use Rattle.rma_exposure.specs.Edge.{edges_at}
use Rattle.rma_run.proofs.WalkLemmas.{flat_map_taken}
use Rattle.rma_exposure.proofs.RunLemmas.{own_of_run}
use Rattle.rma_exposure.proofs.exposures.Exposures.push_edges.Goals as goal

pub loop-rank-preserved : goal.loop-rank-preserved
loop-rank-preserved c =
    let ranks = c.args.ranks.now in
    let i = c.loop-rank.rank-index in
    let own = c.rank-item.result in
    let there : slice_get ranks i ≡ Some own = slice_get_read ranks (length ranks) i own refl c.loop-rank-test.true c.rank-item.is in
    let edges : RankCalls → List Edge = λ r. by_number (edges_at (calls_of ranks) r.rank) 0 r.calls in
    record {
      edges = c.in_ok-push_rank_edges.ensures.edges
          ∙ ap (λ l. l ++ edges own) c.loop-rank.invariant.edges
          ∙ append_assoc c.args.links.now.edges (flat_map edges (take i ranks)) (edges own)
          ∙ ap (λ l. c.args.links.now.edges ++ l) (flat_map_taken edges ranks i own there);
      meets = c.in_ok-push_rank_edges.ensures.meets ∙ c.loop-rank.invariant.meets;
    }

pub push_rank_edges-requires-clause-own : goal.push_rank_edges-requires-clause-own
push_rank_edges-requires-clause-own c =
    let ranks = c.args.ranks.now in
    let i = c.loop-rank.rank-index in
    let own = c.rank-item.result in
    let there : slice_get ranks i ≡ Some own = slice_get_read ranks (length ranks) i own refl c.loop-rank-test.true c.rank-item.is in
    own_of_run ranks i own c.args.self.now there (c.requires.run.in_order i own there) c.requires.represents
