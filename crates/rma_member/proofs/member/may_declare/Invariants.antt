use Rattle.std.proofs.Common.{◌≡◌, ◌<◌, ℕ, Some, slice_get}
use Rattle.rma_call.specs.declared.what.What.{What}
use Rattle.rma_member.specs.inside.Nothing.{DeclaresNothing}
use Rattle.rma_member.proofs.member.may_declare.Given as goal

-- what calls do that have the numbers before declares nothing
abbrev pub invariant-loop-number : goal.invariant-loop-number
invariant-loop-number l = (number : ℕ) → number < l.number → (what : What) → slice_get l.calls.whats number ≡ Some what → DeclaresNothing what
