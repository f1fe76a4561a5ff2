-- What calls assert (MPI 4.0, "One-Sided Communications", assertions).
use Rattle.rma_call.specs.Assertion.{no_assertions}
use Rattle.rma_call.specs.declared.assertion.Assertions.{Assertions}
use Rattle.rma_call.specs.declared.epoch.EpochCall.TheVariants.{Fence, Post, Start, Lock, LockAll}
use Rattle.rma_call.specs.declared.what.SyncCall.TheVariants.{Epoch}
use Rattle.rma_call.specs.declared.what.What.{What}
use Rattle.rma_call.specs.declared.what.What.TheVariants.{Sync}

-- the assertions of what a call does: those of a fence, a post, a start, a lock or a lockall; no other call makes any
abbrev pub assertions_of : What → Assertions
assertions_of (Sync (Epoch (Fence window assertions))) = assertions
assertions_of (Sync (Epoch (Post window origins assertions))) = assertions
assertions_of (Sync (Epoch (Start window targets assertions))) = assertions
assertions_of (Sync (Epoch (Lock window target kind assertions))) = assertions
assertions_of (Sync (Epoch (LockAll window assertions))) = assertions
assertions_of _ = no_assertions
