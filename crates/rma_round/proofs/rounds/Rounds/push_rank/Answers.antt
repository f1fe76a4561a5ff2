use Rattle.std.proofs.Common.{◌≡◌, ◌++◌, Some, [], slice_get, ap, ◌∙◌}
use Rattle.rma_base.specs.declared.rank.Rank.{Rank}
use Rattle.rma_call.specs.Call.{call_of}
use Rattle.rma_run.specs.Run.{calls_of}
use Rattle.rma_run.proofs.WalkLemmas.{by_number_taken}
use Rattle.std.specs.List.{cons_option}
use Rattle.rma_round.specs.Edge.{edges_at}
use Rattle.rma_round.proofs.rounds.Rounds.push_rank.Goals as goal

pub loop-i-preserved : goal.loop-i-preserved
loop-i-preserved c =
    let own = c.args.rank.now.calls in
    let i = c.loop-i.i in
    let call = call_of c.get.result in
    let there : slice_get own i ≡ Some call = rw (← c.calls-calls.ensures) c.get.ensures in
    let edges = edges_at (calls_of c.args.ranks.now) in
    record {
      edges = c.in_ok-push_some.ensures.edges
          ∙ ap (λ o. c.loop-i.links.edges ++ cons_option o []) c.edge_at-edge.ensures
          ∙ ap (λ (r : Rank). c.loop-i.links.edges ++ edges r i call) c.rank.ensures
          ∙ ap (λ l. l ++ edges c.args.rank.now.rank i call) c.loop-i.invariant.edges
          ∙ by_number_taken (edges c.args.rank.now.rank) own i call c.args.links.now.edges there;
      meets = c.in_ok-push_some.ensures.meets ∙ c.loop-i.invariant.meets;
    }
