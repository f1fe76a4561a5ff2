use Rattle.rma_rules.proofs.ForbidsLemmas.{forbids_once}
use Rattle.rma_rules.proofs.laws.conflicts_have_one_rule.Goals as goal

pub returns : goal.returns
returns c = forbids_once
