use Rattle.std.proofs.Common.{ℕ, Option, map, sym, ap, ◌∙◌}
use Rattle.rma_epoch.specs.inside.Epochs.{closed_with}
use Rattle.rma_epoch.proofs.EpochLemmas.{closing_none, closing_unlisted}
use Rattle.rma_epoch.proofs.placements.Placements.close.Goals as goal

pub returns-in_default-clause-epochs : goal.returns-in_default-clause-epochs
returns-in_default-clause-epochs c = λ up.
    let epochs = c.args.self.now.epochs.items in
    closing_none epochs c.args.number ∙ ap (λ (opener : Option ℕ). map (closed_with opener c.args.number) epochs) (sym c.in_default.is)

pub returns-in_default-2-clause-epochs : goal.returns-in_default-2-clause-epochs
returns-in_default-2-clause-epochs c = λ up.
    let epochs = c.args.self.now.epochs.items in
    c.in_ok-index.ensures.epochs
    ∙ closing_unlisted epochs up c.in-Some.opener c.args.number (sym (c.in_ok-index.ensures.index up) ∙ c.in_default-2.is)
    ∙ ap (λ (opener : Option ℕ). map (closed_with opener c.args.number) epochs) (sym c.in-Some.is)
