-- What accesses do, as the rules on conflicts tell them apart (MPI 4.0, "One-Sided Communications", semantics and correctness).
use Rattle.std.specs.Prelude.{Bool, true, false, not}
use Rattle.rma_datatype.specs.declared.operation.Op.TheVariants.{NoOp}
use Rattle.rma_rules.specs.declared.kind.Operation.{Operation}
use Rattle.rma_rules.specs.declared.kind.Operation.TheVariants.{Combine}
use Rattle.rma_rules.specs.declared.kind.Kind.{Kind}
use Rattle.rma_rules.specs.declared.kind.Kind.TheVariants.{Load, Store, Poll, BufferRead, BufferWrite, Get, Put, Accumulate}

-- an access of a rank to its own memory, outside any buffer of a call
abbrev pub is_local : Kind → Bool
is_local Load = true
is_local Store = true
is_local Poll = true
is_local _ = false

-- what a call does at its target
abbrev pub is_target : Kind → Bool
is_target Get = true
is_target Put = true
is_target (Accumulate operation) = true
is_target _ = false

-- a local access, or the use of a buffer by a call
abbrev pub is_own : Kind → Bool
is_own kind = not (is_target kind)

-- a load; the call that reads a buffer loads it
abbrev pub is_load : Kind → Bool
is_load Load = true
is_load BufferRead = true
is_load _ = false

-- a load that waits for what another rank writes
abbrev pub is_poll : Kind → Bool
is_poll Poll = true
is_poll _ = false

-- a store; the call that writes a buffer stores there
abbrev pub is_store : Kind → Bool
is_store Store = true
is_store BufferWrite = true
is_store _ = false

-- a get
abbrev pub is_get : Kind → Bool
is_get Get = true
is_get _ = false

-- a put
abbrev pub is_put : Kind → Bool
is_put Put = true
is_put _ = false

-- an accumulate, with any operation
abbrev pub is_accumulate : Kind → Bool
is_accumulate (Accumulate operation) = true
is_accumulate _ = false

-- the operation that leaves the target as it is
abbrev pub is_no_op : Operation → Bool
is_no_op (Combine NoOp) = true
is_no_op _ = false

-- an accumulate with that operation
abbrev pub has_no_op : Kind → Bool
has_no_op (Accumulate operation) = is_no_op operation
has_no_op _ = false

-- what writes at a target: a put, or an accumulate with any other operation
abbrev pub is_update : Kind → Bool
is_update Put = true
is_update (Accumulate operation) = not (is_no_op operation)
is_update _ = false
