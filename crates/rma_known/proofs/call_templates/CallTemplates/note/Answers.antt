use Rattle.std.proofs.Common.{◌≡◌, ⊎_elim, inl, inr, ◌∙◌}
use Rattle.rma_known.specs.inside.Templates.{IsKnownAmong}
use Rattle.rma_known.proofs.call_templates.CallTemplates.note.Goals as goal

pub returns-then-not-comes_again : goal.returns-then-not-comes_again
returns-then-not-comes_again c = rw (← c.self.view_is) (λ known there. inl there)

pub returns-in-Ok-Some : goal.returns-in-Ok-Some
returns-in-Ok-Some c =
    rw (← c.self.view_is)
    (λ known there.
    ⊎_elim (λ (old : IsKnownAmong c.self.inside.slots.items known). inl old) (λ (same : known ≡ c.in-Ok-Some.template.known). inr (same ∙ rw c.in-Ok-Some.field-0-is at c.in-Ok-Some.ensures))
    (c.keep.ensures known there))

pub returns-in-Ok-None : goal.returns-in-Ok-None
returns-in-Ok-None c = rw (← c.self.view_is) (λ known there. inl there)

pub returns-in-Err : goal.returns-in-Err
returns-in-Err c = rw (← c.self.view_is) (λ known there. inl there)
