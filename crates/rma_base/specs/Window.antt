-- The words of a window's memory model and of its accumulate operations (MPI 4.0, "One-Sided Communications").
use Rattle.std.specs.Prelude.{ℕ, List, codes}
use Rattle.rma_base.specs.declared.window.WinModel.{WinModel}
use Rattle.rma_base.specs.declared.window.WinModel.TheVariants.{Separate, Unified}
use Rattle.rma_base.specs.declared.window.AccOps.{AccOps}
use Rattle.rma_base.specs.declared.window.AccOps.TheVariants.{SameOp, SameOpNoOp}

-- the word of a memory model
abbrev pub model_word : WinModel → List ℕ
model_word Separate = codes "separate"
model_word Unified = codes "unified"

-- the word of what operations may meet
abbrev pub ops_word : AccOps → List ℕ
ops_word SameOp = codes "same_op"
ops_word SameOpNoOp = codes "same_op_no_op"
