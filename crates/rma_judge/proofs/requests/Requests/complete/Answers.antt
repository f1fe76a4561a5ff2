use Rattle.rma_judge.proofs.requests.Requests.complete.Goals.{in-Some-swap_remove, in-None-swap_remove}
use Rattle.rma_judge.proofs.requests.Requests.complete.Goals as goal

pub returns-clause-number : goal.returns-clause-number
returns-clause-number c = elim c.match-swap_remove.branch [
  | in-Some-swap_remove w ↦ rw (w.result-is, ← c.self.view_is, ← c.swap_remove.ensures.value, w.in-Some-swap_remove.is) w.number_of.ensures.number
  | in-None-swap_remove w ↦ rw (w.result-is, ← c.self.view_is, ← c.swap_remove.ensures.value, w.in-None-swap_remove.is)
]
