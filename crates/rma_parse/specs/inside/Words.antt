-- What is made of what was read of a line.
use Rattle.std.specs.Prelude.{Option, Some, Result, Ok}
use Rattle.rma_base.specs.declared.form_reason.FormReason.{FormReason}
use Rattle.rma_form.specs.declared.event.Stated.{Stated}
use Rattle.rma_field.specs.Steps.{◌>>=◌}

-- what a line states that is neither blank nor a comment
abbrev pub as_found : Result Stated FormReason → Result (Option Stated) FormReason
as_found read = read >>= λ stated. Ok (Some stated)
