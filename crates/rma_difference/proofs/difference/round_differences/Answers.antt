use Rattle.std.proofs.Common.{length, ◌∙◌}
use Rattle.rma_difference.proofs.difference.round_differences.Goals as goal

pub returns-clause-collectives : goal.returns-clause-collectives
returns-clause-collectives c = c.faults.ensures ∙ c.in_ok-comms.ensures.rounds_are.collectives_are.have_joined.faults_are

pub returns-clause-fences : goal.returns-clause-fences
returns-clause-fences c = c.faults-2.ensures ∙ c.in_ok-comms.ensures.rounds_are.fences_are.have_joined.faults_are

pub returns-clause-movings : goal.returns-clause-movings
returns-clause-movings c = c.faults-3.ensures ∙ c.in_ok-comms.ensures.rounds_are.movings_are.have_joined.faults_are

pub returns-clause-balanced : goal.returns-clause-balanced
returns-clause-balanced c = λ balanced.
    c.are_balanced-is_balanced.ensures balanced c.args.ranks.now (length c.args.ranks.now) c.in_ok-members.ensures c.in_ok-comms.ensures.rounds_are
