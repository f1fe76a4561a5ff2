-- A command as the code keeps it.
use Rattle.std.specs.Prelude.{map, string_bytes}
use Rattle.rma_command.specs.Words as words
use Rattle.rma_command.specs.declared.command.Audit.{Audit}
use Rattle.rma_command.specs.declared.command.Strict.{Strict}
use Rattle.rma_command.specs.declared.command.Explain.{Explain}
use Rattle.rma_command.specs.declared.command.Command.{Command}
use Rattle.rma_command.specs.declared.command.Command.TheVariants as commands

-- what an audit asks for
abbrev pub audit_of : Audit → words.Audit
audit_of audit = record { limit = audit.limit; json = audit.json; names = map string_bytes audit.names.now }

-- what a strict audit asks for
abbrev pub strict_of : Strict → words.Strict
strict_of strict = record { limit = strict.limit; names = map string_bytes strict.names.now }

-- what an explanation asks for
abbrev pub explain_of : Explain → words.Explain
explain_of explain = record { number = explain.number; names = map string_bytes explain.names.now }

-- what a command asks for
abbrev pub asked : Command → words.Command
asked (commands.Audit audit) = words.Audits (audit_of audit)
asked (commands.Strict strict) = words.AuditsStrictly (strict_of strict)
asked (commands.Explain explain) = words.Explains (explain_of explain)
asked (commands.Trial trial) = words.Tries trial
