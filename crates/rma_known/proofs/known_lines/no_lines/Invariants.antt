use Rattle.std.proofs.Common.{◌≡◌, All, None}
use Rattle.rma_known.proofs.known_lines.no_lines.Given as goal

abbrev pub invariant-loop : goal.invariant-loop
invariant-loop l = All (λ slot. slot ≡ None) l.slots.items
