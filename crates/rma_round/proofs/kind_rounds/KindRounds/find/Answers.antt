use Rattle.std.proofs.Common.{ap, ◌∙◌}
use Rattle.rma_round.specs.inside.Rounds.{numbers_in}
use Rattle.rma_round.proofs.kind_rounds.KindRounds.find.Goals as goal

pub returns : goal.returns
returns c = λ kind calls are rank. ap (λ o. numbers_in o rank) c.get.ensures.value ∙ are.numbers_are c.args.name.now rank
