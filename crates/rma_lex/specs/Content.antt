-- What a line that was handed out is.
use Rattle.std.specs.Prelude.{ℕ, List, Result, Ok, Err}
use Rattle.rma_base.specs.declared.form_reason.FormReason.{FormReason}
use Rattle.rma_lex.specs.declared.cutter.Line.{Line}
use Rattle.rma_lex.specs.declared.cutter.LexFault.{LexFault}

-- its text, or why it is bad
abbrev pub content : Result Line LexFault → Result (List ℕ) FormReason
content (Ok line) = Ok line.text.now
content (Err fault) = Err fault.reason

-- its number
abbrev pub number : Result Line LexFault → ℕ
number (Ok line) = line.no.0
number (Err fault) = fault.no.0
