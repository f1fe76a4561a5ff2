use Rattle.std.proofs.Common.{List, ℕ, sym, subst, ◌∙◌}
use Rattle.rma_clock.specs.Reached.{points_of}
use Rattle.rma_clock.specs.inside.Table.{AreClocks}
use Rattle.rma_link.specs.declared.links.Links.{Links}
use Rattle.rma_run.specs.Run.{lens_of}
use Rattle.rma_walk.specs.Outcome.{IsOrder, IsOutcome, IsStuck}
use Rattle.rma_walk.specs.declared.walked.Walked.{Walked}
use Rattle.rma_order.specs.RunLinks.{links_of}
use Rattle.rma_order.proofs.SameLinks.{order_same, possible_same}
use Rattle.rma_happens_before.proofs.OrderLemmas.{clocks_same}
use Rattle.rma_happens_before.proofs.making.order_of.Goals as goal

pub returns-in-Order : goal.returns-in-Order
returns-in-Order c =
    let ranks = c.args.ranks.now in
    let links : Links = c.in_ok-links.links in
    let same = c.in_ok-links.ensures.same in
    let points = c.in-Order.points in
    let counted = c.deref.ensures.value ∙ c.in_ok-counts.ensures.counts in
    let counted_too = c.deref-in-Order.ensures.value ∙ c.in_ok-counts.ensures.counts in
    let outcome = subst (λ (w : Walked). IsOutcome c.deref.result.now links w) c.in-Order.is c.in_ok-points.ensures in
    let order = subst (λ (lens : List ℕ). IsOrder lens links points) counted outcome.1 in
    let clocks = subst (λ (lens : List ℕ). AreClocks (points_of lens) links c.in_ok-clocks-in-Order.clocks) counted_too c.in_ok-clocks-in-Order.ensures in
    record {
      possible = possible_same links (links_of ranks) same outcome.0;
      links = same;
      points = order_same links (links_of ranks) same (lens_of ranks) points order;
      clocks = clocks_same links (links_of ranks) same (points_of (lens_of ranks)) c.in_ok-clocks-in-Order.clocks clocks;
    }

pub returns : goal.returns
returns c =
    let ranks = c.args.ranks.now in
    let links : Links = c.in_ok-links.links in
    let same = c.in_ok-links.ensures.same in
    let firsts = c.in-Stuck.firsts in
    let counted = c.deref.ensures.value ∙ c.in_ok-counts.ensures.counts in
    let outcome = subst (λ (w : Walked). IsOutcome c.deref.result.now links w) c.in-Stuck.is c.in_ok-points.ensures in
    let stuck = subst (λ (lens : List ℕ). IsStuck lens links firsts) counted outcome in
    let read = subst (IsStuck (lens_of ranks) links) (sym c.as_slice.ensures) stuck in
    (c.in_ok-calls-in-Stuck.ensures.calls links same read, c.in_ok-calls-in-Stuck.ensures.some links same read)
