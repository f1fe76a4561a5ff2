-- What the calls of events do.
use Rattle.std.specs.Prelude.{Option, Some, None, option_map}
use Rattle.rma_buffer.specs.Calls.{local_call_of, rma_call_of}
use Rattle.rma_buffer.specs.Operands.{operand_of, operands_of}
use Rattle.rma_call.specs.declared.what.What.{What}
use Rattle.rma_call.specs.declared.what.What.TheVariants as what
use Rattle.rma_form.specs.declared.event.Event.{Event}
use Rattle.rma_form.specs.declared.event.Event.TheVariants as event
use Rattle.rma_type.specs.Table.{Table}

-- what the call of an event does among these datatypes, where it is a call
abbrev pub what_in : Table → Event → Option What
what_in types (event.Call call request) = Some (what.Sync call)
what_in types (event.Rma line request) = option_map (λ operands. what.Rma (rma_call_of types.origins line operands)) (operands_of types.live line.access)
what_in types (event.Local line) = option_map (λ memory. what.Local (local_call_of types.origins line.access memory)) (operand_of types.live line.buffer)
what_in types _ = None
