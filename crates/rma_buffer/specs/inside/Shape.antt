-- Which buffers the calls of a kind have.
use Rattle.std.specs.Prelude.{◌≡◌, None, IfSome}
use Rattle.rma_call.specs.declared.rma.RmaKind.{RmaKind}
use Rattle.rma_call.specs.declared.rma.RmaKind.TheVariants.{Put, Get, Accumulate, GetAccumulate, FetchAndOp, CompareAndSwap}
use Rattle.rma_type.specs.declared.id.TypeId.{TypeId}
use Rattle.rma_buffer.specs.declared.operand.Operand.{Operand}
use Rattle.rma_buffer.specs.declared.operand.Operands.{Operands}

-- a buffer of one element of this datatype
abbrev pub IsOne : TypeId → Operand → Type 0
IsOne datatype it = (it.datatype ≡ datatype) × (it.count ≡ 1)

-- all buffers are of one element of one datatype
abbrev pub IsSingle : Operands → Type 0
IsSingle it =
    IsOne it.target.datatype it.target × IsOne it.target.datatype it.origin
    × IfSome it.result (IsOne it.target.datatype) × IfSome it.compare (IsOne it.target.datatype)

-- the call has the buffers of its kind
abbrev pub IsShaped : RmaKind → Operands → Type 0
IsShaped Put it = (it.result ≡ None) × (it.compare ≡ None)
IsShaped Get it = (it.result ≡ None) × (it.compare ≡ None)
IsShaped (Accumulate op) it = (it.result ≡ None) × (it.compare ≡ None)
IsShaped (GetAccumulate op) it = it.compare ≡ None
IsShaped (FetchAndOp op) it = IsSingle it
IsShaped CompareAndSwap it = IsSingle it
