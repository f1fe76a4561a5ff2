use Rattle.std.proofs.Common.{List, sym, subst, ◌∙◌}
use Rattle.std.specs.Prelude.{All}
use Rattle.rma_link.specs.declared.edge.Edge.{Edge}
use Rattle.rma_order.specs.declared.impossible.ImpossibleCall.{ImpossibleCall}
use Rattle.rma_order.specs.Impossible.{AreImpossibleCalls}
use Rattle.rma_walk.specs.Step.{IsEdgeOn}
use Rattle.rma_order.proofs.StepLemmas.{none_in_step}
use Rattle.rma_order.proofs.impossible.impossible_calls.Goals as goal

pub returns-then-branch : goal.returns-then-branch
returns-then-branch c =
    let ranks = c.args.ranks.now in
    let edges = subst (λ (es : List Edge). All IsEdgeOn es) (c.as_slice.ensures ∙ c.in_ok-edges.ensures.edges) (c.in_ok-are_in_step.ensures.edges c.if-branch.true) in
    let step = c.in_ok-are_in_step.ensures.rounds c.if-branch.true ranks c.requires.matches.rounds in
    subst (λ (found : List ImpossibleCall). AreImpossibleCalls ranks found) (sym c.new.ensures) (none_in_step ranks c.requires.run.in_order step edges)
