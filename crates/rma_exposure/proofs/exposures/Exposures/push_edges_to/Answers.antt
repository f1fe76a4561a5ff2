use Rattle.std.proofs.Common.{ℕ, [], ◌++◌, Option, get_or, ap, ◌∙◌}
use Rattle.std.specs.List.{cons_option}
use Rattle.std.proofs.lemmas.Option.{slice_get-get_or}
use Rattle.rma_link.specs.declared.edge.Edge.{Edge}
use Rattle.rma_run.specs.Run.{calls_of}
use Rattle.rma_exposure.specs.Edge.{edge_from}
use Rattle.rma_run.proofs.WalkLemmas.{filter_map_taken}
use Rattle.rma_exposure.proofs.exposures.Exposures.push_edges_to.Goals as goal

pub loop-origin-preserved : goal.loop-origin-preserved
loop-origin-preserved c =
    let origins = c.numbers-origin-items.result.now in
    let i = c.loop-origin.origin-index in
    let edge : ℕ → Option Edge = edge_from (calls_of c.args.ranks.now) c.args.rank c.args.post c.args.epoch.now.window c.in-Some.expwait in
    let origin = get_or origins i 0 in
    record {
      edges = c.in_ok-push_some.ensures.edges
          ∙ ap (λ e. c.loop-origin.links.edges ++ cons_option e []) c.edge_from-edge.ensures
          ∙ ap (λ l. l ++ cons_option (edge origin) []) c.loop-origin.invariant.edges
          ∙ filter_map_taken edge origins i origin c.args.links.now.edges (slice_get-get_or origins i 0 c.loop-origin-test.true);
      meets = c.in_ok-push_some.ensures.meets ∙ c.loop-origin.invariant.meets;
    }
