use Rattle.rma_round.specs.declared.kind.Kind.TheVariants.{Collective, Free, Fence, Moving}
use Rattle.rma_round.proofs.RowLemmas.{IfOk_map}
use Rattle.rma_round.proofs.rounds.Rounds.are_in_step.Goals as goal

pub returns-then-not-branch-clause-differ : goal.returns-then-not-branch-clause-differ
returns-then-not-branch-clause-differ c = λ no calls are.
    let on = c.in_ok-are_in_step.ensures.differ c.if-not-branch.true Collective calls are.collectives_are in (Collective, on.0, on.1)

pub returns-then-not-branch-2-clause-differ : goal.returns-then-not-branch-2-clause-differ
returns-then-not-branch-2-clause-differ c = λ no calls are.
    let on = c.in_ok-are_in_step-2.ensures.differ c.if-not-branch-2.true Free calls are.frees_are in (Free, on.0, on.1)

pub returns-then-not-branch-3-clause-differ : goal.returns-then-not-branch-3-clause-differ
returns-then-not-branch-3-clause-differ c = λ no calls are.
    let on = c.in_ok-are_in_step-3.ensures.differ c.if-not-branch-3.true Fence calls are.fences_are in (Fence, on.0, on.1)

pub returns-clause-differ : goal.returns-clause-differ
returns-clause-differ c =
    IfOk_map c.are_in_step-4.result (λ yes is no calls are. let on = is no Moving calls are.movings_are in (Moving, on.0, on.1)) c.are_in_step-4.ensures.differ
