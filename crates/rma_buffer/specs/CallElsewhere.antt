-- The call of an access elsewhere.
use Rattle.std.specs.Prelude.{◌≡◌, ℕ, List, Some, None}
use Rattle.rma_call.specs.declared.rma.RmaCall.{RmaCall}
use Rattle.rma_call.specs.declared.local.LocalCall.{LocalCall}
use Rattle.rma_form.specs.declared.event.rma_line.RmaLine.{RmaLine}
use Rattle.rma_form.specs.declared.event.local_line.LocalLine.{LocalLine}
use Rattle.rma_type.specs.Table.{Table}
use Rattle.rma_buffer.specs.declared.operand.Operand.{Operand}
use Rattle.rma_buffer.specs.declared.operand.Operands.{Operands}
use Rattle.rma_buffer.specs.Calls.{local_call_of, rma_call_of}
use Rattle.rma_buffer.specs.Elsewhere.{line_at, local_at}
use Rattle.rma_buffer.specs.Operands.{kind_of, operand_of, operands_of}
use Rattle.rma_buffer.specs.Rules.{buffers_reason, memory_reason}

-- the call of a line among these datatypes, whose buffers are good
pub record IsRmaCallOf (types : Table) (line : RmaLine) (call : RmaCall) : Type 0 where
  pub operands : Operands
  pub are : operands_of types.live line.access ≡ Some operands
  pub is : call ≡ rma_call_of types.origins line operands
  pub good : buffers_reason types.origins types.committed (kind_of line.access) line.target operands ≡ None

-- the local access of a line among these datatypes, whose memory is good
pub record IsLocalCallOf (types : Table) (line : LocalLine) (call : LocalCall) : Type 0 where
  pub memory : Operand
  pub is_memory : operand_of types.live line.buffer ≡ Some memory
  pub is : call ≡ local_call_of types.origins line.access memory
  pub good : memory_reason types.origins memory ≡ None

-- whatever line a call is of that is made where these numbers say: the line that is made elsewhere has that call
abbrev pub IsRmaCallElsewhere : RmaCall → List ℕ → List ℕ → RmaCall → Type 0
IsRmaCallElsewhere call from to moved = (types : Table) (line : RmaLine) → line_at line from ≡ line → IsRmaCallOf types line call → IsRmaCallOf types (line_at line to) moved

-- the same of a local access
abbrev pub IsLocalCallElsewhere : LocalCall → List ℕ → List ℕ → LocalCall → Type 0
IsLocalCallElsewhere call from to moved = (types : Table) (line : LocalLine) → local_at line from ≡ line → IsLocalCallOf types line call → IsLocalCallOf types (local_at line to) moved
