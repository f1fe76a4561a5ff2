-- The elements of accumulates, and where two accumulates agree (MPI 4.0, "One-Sided Communications", accumulate functions).
use Rattle.std.specs.Prelude.{◌≡◌, ◌*◌, ◌⊎◌, ℕ, ℤ, pos, ◌+ℤ◌, ◌≤ℤ◌, ◌<ℤ◌, List, Some, Contains, true}
use Rattle.rma_base.specs.declared.window.AccOps.TheVariants.{SameOpNoOp}
use Rattle.rma_datatype.specs.declared.basic.Basic.{Basic}
use Rattle.rma_datatype.specs.Basic.{basic_size}
use Rattle.rma_bytes.specs.declared.run.Run.{Run}
use Rattle.rma_bytes.specs.Runs.{HasByte, IsByteOf}
use Rattle.rma_window.specs.declared.window_id.WindowId.{WindowId}
use Rattle.rma_window.specs.Windows.{Window, window_of}
use Rattle.rma_rules.specs.declared.kind.Operation.{Operation}
use Rattle.rma_rules.specs.declared.kind.Operation.TheVariants.{CompareAndSwap}
use Rattle.rma_rules.specs.declared.kind.Kind.TheVariants.{Accumulate}
use Rattle.rma_rules.specs.Access.{Access}
use Rattle.rma_rules.specs.Kind.{is_no_op}

-- b is a byte of the element that starts at `start`: elements are the successive pieces of so many bytes of a run, from its start
abbrev pub IsInElement : List Run → ℕ → ℤ → ℤ → Type 0
IsInElement runs size start b =
    (run : Run) × Contains runs run × IsByteOf run b × (k : ℕ) × (start ≡ run.start +ℤ pos (k * size)) × (start ≤ℤ b) × (b <ℤ (start +ℤ pos size))

-- the window of an access lets accumulates with no operation meet others
unfoldable pub AllowsNoOp : List Window → Access → Type 0
AllowsNoOp windows a = (id : WindowId) × (window : Window) × (a.window ≡ Some id) × (window_of windows id ≡ Some window) × (window.ops ≡ SameOpNoOp)

-- two operations may meet: they are equal, or one compares and swaps, or one is no operation and the window lets it meet others
abbrev pub MayMeet : List Window → Access → Operation → Operation → Type 0
MayMeet windows a one two =
    (one ≡ two) ⊎ ((one ≡ CompareAndSwap) ⊎ ((two ≡ CompareAndSwap) ⊎ (AllowsNoOp windows a × ((is_no_op one ≡ true) ⊎ (is_no_op two ≡ true)))))

-- the operations of two accumulates on one window may meet
unfoldable pub OperationsAgree : List Window → Access → Access → Type 0
OperationsAgree windows a b = (one : Operation) × (two : Operation) × (a.kind ≡ Accumulate one) × (b.kind ≡ Accumulate two) × MayMeet windows a one two

-- at this byte both have an element of the same start and the same basic datatype
abbrev pub ElementsAgree : Access → Access → ℤ → Type 0
ElementsAgree a b byte =
    (element : Basic) × (start : ℤ) × (a.element ≡ Some element) × (b.element ≡ Some element)
    × IsInElement a.runs (basic_size element) start byte × IsInElement b.runs (basic_size element) start byte

-- two accumulates on one window have a byte in common at which they do not agree
unfoldable pub Disagree : List Window → Access → Access → Type 0
Disagree windows a b = (byte : ℤ) × HasByte a.runs byte × HasByte b.runs byte × ¬ (ElementsAgree a b byte × OperationsAgree windows a b)
