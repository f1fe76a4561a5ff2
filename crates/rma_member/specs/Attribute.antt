-- What communicators and windows are declared with (MPI 4.0, "Groups, Contexts, Communicators, and Caching" and
-- "One-Sided Communications").
use Rattle.std.specs.Prelude.{ℕ, List, Bool, true, false, Option, Some, None, nat_eq, ◌&&◌}
use Rattle.std.specs.Bool.{beq}
use Rattle.std.specs.Cmp.Lexicographic.{pointwise}
use Rattle.rma_base.specs.declared.window.WinModel.{WinModel}
use Rattle.rma_base.specs.declared.window.WinModel.TheVariants.{Separate, Unified}
use Rattle.rma_base.specs.declared.window.AccOps.{AccOps}
use Rattle.rma_base.specs.declared.window.AccOps.TheVariants.{SameOp, SameOpNoOp}
use Rattle.rma_call.specs.declared.what.What.{What}
use Rattle.rma_call.specs.declared.what.What.TheVariants.{Sync}
use Rattle.rma_call.specs.declared.what.SyncCall.TheVariants.{Frame, Window}
use Rattle.rma_call.specs.declared.frame.FrameCall.TheVariants.{Comm}
use Rattle.rma_call.specs.declared.window.WindowCall.TheVariants.{Create}
use Rattle.rma_member.specs.declared.attribute.WindowAttributes.{WindowAttributes}

-- the communicator that a call declares, and its ranks
abbrev pub declared : What → Option (List ℕ × List ℕ)
declared (Sync (Frame (Comm comm ranks))) = Some (comm, ranks)
declared _ = None

-- whether two declarations list the same ranks
abbrev pub same_ranks : List ℕ → List ℕ → Bool
same_ranks first own = pointwise nat_eq own first

-- the window that a call creates, and what it is created with
abbrev pub created : What → Option (List ℕ × WindowAttributes)
created (Sync (Window (Create window comm base size unit model ops dynamic))) = Some (window, record { comm = comm; model = model; ops = ops; dynamic = dynamic })
created _ = None

-- whether two memory models are the same
abbrev pub same_model : WinModel → WinModel → Bool
same_model Separate Separate = true
same_model Separate Unified = false
same_model Unified Separate = false
same_model Unified Unified = true

-- whether the same accumulate operations may overlap
abbrev pub same_ops : AccOps → AccOps → Bool
same_ops SameOp SameOp = true
same_ops SameOp SameOpNoOp = false
same_ops SameOpNoOp SameOp = false
same_ops SameOpNoOp SameOpNoOp = true

-- whether two creations have the same communicator, memory model and accumulate operations, and both or none is dynamic
abbrev pub same_attributes : WindowAttributes → WindowAttributes → Bool
same_attributes first own = pointwise nat_eq own.comm first.comm && same_model first.model own.model && same_ops first.ops own.ops && beq own.dynamic first.dynamic
