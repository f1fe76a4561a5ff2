use Rattle.std.proofs.Common.{◌≡◌, ◌<◌, ℕ, get_or}
use Rattle.rma_bytes.specs.declared.run.Run.{Run}
use Rattle.rma_chain.proofs.deed.are_same_runs.Given as goal

abbrev pub invariant-runs : goal.invariant-runs
invariant-runs l = (k : ℕ) → k < l.i → (d : Run) → get_or l.a k d ≡ get_or l.b k d
