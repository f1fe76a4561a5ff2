use Rattle.std.proofs.Common.{◌≡◌, ◌<◌, ℕ, Some, slice_get}
use Rattle.std.specs.Prelude.{IfSome}
use Rattle.rma_call.specs.Call.{Call}
use Rattle.rma_agreement.specs.Argument.{arguments_of}
use Rattle.rma_agreement.specs.inside.Agreement.{IsAlike, arguments_in}
use Rattle.rma_agreement.proofs.agreement.lists_agree.Given as goal

-- the calls of the rounds so far agree
abbrev pub invariant-loop-k : goal.invariant-loop-k
invariant-loop-k l = record {
  known : IfSome l.known (IsAlike l.first_calls.whats l.calls.whats);
  agree : (number index : ℕ) (call : Call) → number < l.k → slice_get l.own number ≡ Some index → slice_get l.calls.calls index ≡ Some call → arguments_of 0 call.what ≡ arguments_in l.first_calls.calls l.first number;
}
