use Rattle.std.proofs.Common.{◌≡◌, []}
use Rattle.std.specs.Prelude.{All}
use Rattle.rma_message.proofs.matched.are_empty.Given as goal

-- where the queues that are left are empty, all are
abbrev pub invariant-loop-calls : goal.invariant-loop-calls
invariant-loop-calls l = All (λ e. e.1.items ≡ []) l.calls-iterator → All (λ e. e.1.items ≡ []) l.queues.entries
