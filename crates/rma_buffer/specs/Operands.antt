-- The buffers of a line, with the datatypes that their names represent when the line comes (MPI 4.0, "One-Sided
-- Communications").
use Rattle.std.specs.Prelude.{ℕ, ◌<◌, ◌≤◌, ◌*◌, min, List, Option, Some, None, option_map}
use Rattle.std.specs.Option.{option_and_then}
use Rattle.rma_base.specs.Limits.{address_limit}
use Rattle.rma_call.specs.declared.rma.RmaKind.{RmaKind}
use Rattle.rma_call.specs.declared.rma.RmaKind.TheVariants as kind
use Rattle.rma_form.specs.declared.event.rma_line.Access.{Access}
use Rattle.rma_form.specs.declared.event.rma_line.Access.TheVariants.{Put, Get, Accumulate, GetAccumulate, FetchAndOp, CompareAndSwap}
use Rattle.rma_form.specs.declared.event.rma_line.Buffer.{Buffer}
use Rattle.rma_form.specs.declared.event.rma_line.Transfer.{Transfer}
use Rattle.rma_type.specs.declared.id.TypeId.{TypeId}
use Rattle.rma_type.specs.Names.{id_of}
use Rattle.rma_type.specs.Table.{typemap_in}
use Rattle.rma_typemap.specs.Typemap.{Typemap}
use Rattle.rma_typemap.specs.Bounds.{entry_count}
use Rattle.rma_buffer.specs.declared.operand.Operand.{Operand}
use Rattle.rma_buffer.specs.declared.operand.Operands.{Operands}

-- what a call does
abbrev pub kind_of : Access → RmaKind
kind_of (Put transfer) = kind.Put
kind_of (Get transfer) = kind.Get
kind_of (Accumulate op transfer) = kind.Accumulate op
kind_of (GetAccumulate op transfer into) = kind.GetAccumulate op
kind_of (FetchAndOp op datatype at into) = kind.FetchAndOp op
kind_of (CompareAndSwap datatype at compared into) = kind.CompareAndSwap

-- the buffers of a call, as its line states them: at the target, whose addresses count from where the access starts, at the
-- origin, that of the result, and that with which the target is compared
pub record Buffers : Type 0 where
  pub target : Buffer
  pub origin : Buffer
  pub result : Option Buffer
  pub compare : Option Buffer

-- one element
abbrev pub element_at : ℕ → List ℕ → Buffer
element_at at datatype = record { address = at; count = 1; datatype = datatype }

-- what a transfer has at the target
abbrev pub target_of : Transfer → Buffer
target_of it = record { address = 0; count = it.target_count; datatype = it.target_type }

-- the buffers of a call
abbrev pub buffers_of : Access → Buffers
buffers_of (Put it) = record { target = target_of it; origin = it.origin; result = None; compare = None }
buffers_of (Get it) = record { target = target_of it; origin = it.origin; result = None; compare = None }
buffers_of (Accumulate op it) = record { target = target_of it; origin = it.origin; result = None; compare = None }
buffers_of (GetAccumulate op it into) = record { target = target_of it; origin = it.origin; result = Some into; compare = None }
buffers_of (FetchAndOp op datatype at into) = record { target = element_at 0 datatype; origin = element_at at datatype; result = Some (element_at into datatype); compare = None }
buffers_of (CompareAndSwap datatype at compared into) = record {
  target = element_at 0 datatype;
  origin = element_at at datatype;
  result = Some (element_at into datatype);
  compare = Some (element_at compared datatype);
}

-- a buffer with the datatype that its name represents. No line states an address beyond the space, which would count as its end.
abbrev pub operand_at : List (List ℕ × TypeId) → ℕ → ℕ → List ℕ → Option Operand
operand_at live address count datatype = option_map (λ id. record { datatype = id; address = min address address_limit; count = count }) (id_of live datatype)

abbrev pub operand_of : List (List ℕ × TypeId) → Buffer → Option Operand
operand_of live it = operand_at live it.address it.count it.datatype

-- a buffer that may be there, if it is there, with its datatype; nothing where the name of that is not live
abbrev pub operand_if : List (List ℕ × TypeId) → Option Buffer → Option (Option Operand)
operand_if live None = Some None
operand_if live (Some it) = option_map Some (operand_of live it)

-- the buffers of a call with their datatypes; nothing where a name of one is not live
abbrev pub operands_in : List (List ℕ × TypeId) → Buffers → Option Operands
operands_in live it =
    option_and_then (λ target. option_and_then (λ origin. option_and_then (λ result. option_map
    (λ compare. record { target = target; origin = origin; result = result; compare = compare })
    (operand_if live it.compare)) (operand_if live it.result)) (operand_of live it.origin)) (operand_of live it.target)

abbrev pub operands_of : List (List ℕ × TypeId) → Access → Option Operands
operands_of live access = operands_in live (buffers_of access)

-- the datatype is one of so many, and the address lies in the space
abbrev pub IsOf : ℕ → Operand → Type 0
IsOf types it = (it.datatype.0 < types) × (it.address ≤ address_limit)

-- so are those of one that may be there
abbrev pub IsOfIf : ℕ → Option Operand → Type 0
IsOfIf types None = Unit {0}
IsOfIf types (Some it) = IsOf types it

-- so are those of all
pub record AreOf (types : ℕ) (it : Operands) : Type 0 where
  pub target : IsOf types it.target
  pub origin : IsOf types it.origin
  pub result : IsOfIf types it.result
  pub compare : IsOfIf types it.compare

-- how many elements a buffer has
abbrev pub entries_in : List Typemap → Operand → ℕ
entries_in maps it = it.count * entry_count (typemap_in maps it.datatype)
