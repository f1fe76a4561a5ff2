-- How the program ends.
use Rattle.std.specs.Prelude.{ℕ}
use Rattle.rma_audit.specs.declared.status.Status.{Status}
use Rattle.rma_audit.specs.declared.status.Status.TheVariants.{Clean, Findings, Usage, ReadFault, WriteFault, TooLarge, Memory}

-- the exit number of an answer
abbrev pub exit_number_of : Status → ℕ
exit_number_of Clean = 0
exit_number_of Findings = 1
exit_number_of Usage = 2
exit_number_of (ReadFault recorded) = 3
exit_number_of WriteFault = 4
exit_number_of (TooLarge bytes) = 5
exit_number_of Memory = 6
