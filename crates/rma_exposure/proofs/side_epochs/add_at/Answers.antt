use Rattle.std.proofs.Common.{sym}
use Rattle.rma_exposure.proofs.EpochLemmas.{OnOk_map}
use Rattle.rma_exposure.proofs.PlaceLemmas.{added_at, no_value}
use Rattle.rma_exposure.proofs.side_epochs.add_at.Goals as goal

pub returns-in-Some : goal.returns-in-Some
returns-in-Some c =
    OnOk_map c.add.result
    (λ opened window at.
    added_at c.args.windows.now c.args.place window c.in-Some.openings.now c.add.new.self c.in-Some.ensures.unique at (sym c.in-Some.ensures.value) c.args.number c.args.group.now opened)
    c.add.ensures

pub returns-in-None : goal.returns-in-None
returns-in-None c = λ window at. no_value c.args.windows.now.entries c.args.place window at c.in-None.ensures.value
