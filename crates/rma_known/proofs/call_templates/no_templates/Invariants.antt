use Rattle.std.proofs.Common.{◌≡◌, All, None}
use Rattle.rma_known.proofs.call_templates.no_templates.Given as goal

abbrev pub invariant-loop : goal.invariant-loop
invariant-loop l = All (λ slot. slot ≡ None) l.slots.items
