use Rattle.std.proofs.Common.{arith}
use Rattle.std.proofs.lemmas.Int.{ints}
use Rattle.rma_rules.proofs.StepLemmas.{meet}
use Rattle.rma_rules.proofs.walk.runs_meet.Goals as goal

pub returns-then-x-end : goal.returns-then-x-end
returns-then-x-end c =
    let told = meet c.args.x c.args.y c.requires.x.1 c.requires.y.1 in
    (λ test. told.0 (grind (arith, ints), grind (arith, ints)), λ shared. let both = told.1 shared in grind (arith, ints))
