use Rattle.std.proofs.Common.{◌≡◌, ◌++◌, ◌∷◌, [], take, ap, sym, ◌∙◌, append-nil}
use Rattle.std.specs.Prelude.{option_map}
use Rattle.std.specs.List.{cons_option}
use Rattle.rma_link.specs.declared.links.Links.{Links}
use Rattle.rma_message.specs.Matching.{edge_between}
use Rattle.rma_message.proofs.MatchLemmas.{edge_is, edges_more, first_left, found_numbered, popped}
use Rattle.rma_message.proofs.edge.push_edges.Goals as goal
use Rattle.rma_message.proofs.edge.push_edges.Goals.{in-Some+in_ok-push_edge, in_default}

pub edge-requires-clause-send : goal.edge-requires-clause-send
edge-requires-clause-send c =
    let own = c.end-item.result in
    let sends = c.args.sends.now in
    let before = take c.loop-end.end-index c.args.receives.now in
    found_numbered sends before own c.pop.result (c.pop.ensures.first ∙ first_left c.loop-end.queues.entries sends before own c.loop-end.invariant.left)
    c.requires.sends c.in-Some.call (sym c.in-Some.is)

-- the receive with its edge, if it has one
stepped : (c : goal.Joined-pop) →
    c.match-pop.links ≡ record c.loop-end.links { edges = c.loop-end.links.edges ++ cons_option (option_map (λ n. edge_between n c.end-item.result) c.pop.result) [] }
stepped c =
    let links : Links = c.loop-end.links in
    let own = c.end-item.result in
    elim c.match-pop.branch [
      | in-Some+in_ok-push_edge w ↦
          w.links-is
          ∙ w.in_ok-push_edge.ensures.ok
          ∙ ap (λ e. record links { edges = links.edges ++ e ∷ [] }) w.edge.ensures
          ∙ ap (λ o. record links { edges = links.edges ++ cons_option (option_map (λ n. edge_between n own) o) [] }) (sym w.in-Some.is)
      | in_default w ↦
          w.links-is
          ∙ ap (λ es. record links { edges = es }) (sym (append-nil links.edges))
          ∙ ap (λ o. record links { edges = links.edges ++ cons_option (option_map (λ n. edge_between n own) o) [] }) (sym w.in_default.is)
    ]

pub loop-end-preserved : goal.loop-end-preserved
loop-end-preserved c =
    let own = c.end-item.result in
    let i = c.loop-end.end-index in
    let sends = c.args.sends.now in
    let before = take i c.args.receives.now in
    let found = c.pop.ensures.first ∙ first_left c.loop-end.queues.entries sends before own c.loop-end.invariant.left in
    record {
      edges =
          edges_more sends c.args.receives.now i own c.args.links.now c.loop-end.links c.match-pop.links (option_map (λ n. edge_between n own) c.pop.result)
          c.loop-end-test.true c.end-item.is c.loop-end.invariant.edges (sym (edge_is sends before own c.pop.result found)) (stepped c);
      left = popped c.loop-end.queues.entries c.pop.new.queues.entries sends c.args.receives.now i own c.loop-end-test.true c.end-item.is c.loop-end.invariant.left c.pop.ensures.rest;
    }
