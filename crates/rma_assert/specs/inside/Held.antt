-- Lock epochs by window.
use Rattle.std.specs.Prelude.{◌≡◌, ◌≤◌, ℕ, List, Some, slice_get}
use Rattle.rma_rules.specs.declared.span.LockSpan.{LockSpan}

-- a list of lock epochs is by window
abbrev pub WindowsRise : List LockSpan → Type 0
WindowsRise list = (i j : ℕ) (a b : LockSpan) → i ≤ j → slice_get list i ≡ Some a → slice_get list j ≡ Some b → a.window.0 ≤ b.window.0
