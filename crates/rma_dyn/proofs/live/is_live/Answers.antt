use Rattle.rma_dyn.proofs.live.is_live.Goals as goal

pub returns-then-own-number : goal.returns-then-own-number
returns-then-own-number c = (λ test. record { size = _; attaches = c.in-Some.is; before = c.if-own-number.true; still = c.is_still.ensures.0 test }, λ live. c.is_still.ensures.1 live.still)
