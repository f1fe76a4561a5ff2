use Rattle.rma_known.proofs.call_templates.CallTemplates.open.Goals as goal

pub returns-in_ok-self-inside : goal.returns-in_ok-self-inside
returns-in_ok-self-inside c = λ known there. absurd (c.in_ok-self-inside.ensures known there)
