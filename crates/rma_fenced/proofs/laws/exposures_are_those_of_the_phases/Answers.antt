use Rattle.std.proofs.Common.{[]}
use Rattle.rma_fenced.proofs.FenceLemmas.{same_fenced}
use Rattle.rma_fenced.proofs.laws.exposures_are_those_of_the_phases.Goals as goal

pub returns : goal.returns
returns c = λ phases others windows rank sound same. same_fenced phases others windows rank same [] sound
