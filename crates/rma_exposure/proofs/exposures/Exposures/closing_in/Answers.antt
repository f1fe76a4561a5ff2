use Rattle.rma_run.specs.Run.{calls_of}
use Rattle.rma_run.proofs.CallLemmas.{calls_are_few}
use Rattle.rma_exposure.proofs.RunLemmas.{closing_below}
use Rattle.rma_exposure.proofs.exposures.Exposures.closing_in.Goals as goal

pub returns-clause-closing : goal.returns-clause-closing
returns-clause-closing c = c.closing_of.ensures (calls_of c.args.ranks.now) c.requires.represents

pub returns-clause-below : goal.returns-clause-below
returns-clause-below c =
    let calls = calls_of c.args.ranks.now in
    closing_below c.args.side (calls c.args.rank.0) c.args.number c.closing_of.result (c.closing_of.ensures calls c.requires.represents) (calls_are_few c.args.ranks.now c.args.rank.0 c.requires.run)
