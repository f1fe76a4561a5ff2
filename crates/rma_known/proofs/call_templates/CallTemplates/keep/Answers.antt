use Rattle.std.proofs.Common.{◌≡◌, ⊎_elim, inl, inr, subst}
use Rattle.rma_known.specs.inside.Templates.{IsKnownAmong}
use Rattle.rma_known.proofs.TemplateLemmas.{known_put}
use Rattle.rma_known.proofs.call_templates.CallTemplates.keep.Goals as goal

pub returns-in-Ok : goal.returns-in-Ok
returns-in-Ok c = λ known there.
    ⊎_elim (λ (old : IsKnownAmong c.self.inside.slots.items known). inl (c.open.ensures known (subst (λ them. IsKnownAmong them known) c.self.view_is old))) (λ (same : known ≡ c.args.template.known). inr same)
    (known_put c.self.inside.slots.items c.args.at c.args.template known (subst (λ them. IsKnownAmong them known) c.put.ensures there))

pub returns-in-Err : goal.returns-in-Err
returns-in-Err c = λ known there. inl (c.open.ensures known there)
