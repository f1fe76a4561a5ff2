-- The calls that lines make of their buffers.
use Rattle.std.specs.Prelude.{ℕ, List, Option, Some, None, is_none, option_map, if◌then◌else◌}
use Rattle.rma_base.specs.declared.rank.Rank.{Rank}
use Rattle.rma_bytes.specs.Layout.{Layout}
use Rattle.rma_call.specs.declared.rma.RmaCall.{RmaCall}
use Rattle.rma_call.specs.declared.rma.RmaKind.{RmaKind}
use Rattle.rma_call.specs.declared.local.LocalAccess.{LocalAccess}
use Rattle.rma_call.specs.declared.local.LocalCall.{LocalCall}
use Rattle.rma_form.specs.declared.event.rma_line.RmaLine.{RmaLine}
use Rattle.rma_type.specs.declared.origin.Origin.{Origin}
use Rattle.rma_type.specs.Table.{typemaps}
use Rattle.rma_typemap.specs.Typemap.{Typemap}
use Rattle.rma_buffer.specs.declared.operand.Operand.{Operand}
use Rattle.rma_buffer.specs.declared.operand.Operands.{Operands}
use Rattle.rma_buffer.specs.Layouts.{layout_of}
use Rattle.rma_buffer.specs.Operands.{entries_in, kind_of}
use Rattle.rma_buffer.specs.Rules.{touched_count, touched_in, uses_origin}

-- how many elements a call touches in each of its buffers: none without a target
abbrev pub moved_count : List Typemap → RmaKind → Option Rank → Operands → ℕ
moved_count maps kind target it = if is_none target then 0 else touched_count maps kind it

-- the bytes of the first elements of a buffer
abbrev pub layout_in : List Typemap → ℕ → Operand → Layout
layout_in maps m it = layout_of (touched_in maps m it)

-- the call of a line, with these buffers
unfoldable pub rma_call_of : List Origin → RmaLine → Operands → RmaCall
rma_call_of origins line it =
    let maps = typemaps origins in
    let kind = kind_of line.access in
    let m = moved_count maps kind line.target it in
    record {
      window = line.window;
      target = line.target;
      kind = kind;
      displacement = line.displacement;
      at_target = layout_in maps m it.target;
      origin = if uses_origin kind then Some (layout_in maps m it.origin) else None;
      result = option_map (layout_in maps m) it.result;
      compare = option_map (layout_in maps m) it.compare;
    }

-- the local access of a line, with this memory: it touches all its elements
unfoldable pub local_call_of : List Origin → LocalAccess → Operand → LocalCall
local_call_of origins access it =
    let maps = typemaps origins in
    record { access = access; layout = layout_in maps (entries_in maps it) it }
