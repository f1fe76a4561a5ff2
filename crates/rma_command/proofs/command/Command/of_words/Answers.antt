use Rattle.std.proofs.Common.{◌≡◌, ℕ, List, Option, Some, None, MatchOption, option_map, map, string_bytes, sym, ◌∙◌}
use Rattle.std.proofs.lemmas.Option.{none-some}
use Rattle.rma_command.specs.Words.{AskFor, AreFaulty}
use Rattle.rma_command.specs.Asked.{asked}
use Rattle.rma_command.specs.inside.Words.{command_of}
use Rattle.rma_command.specs.declared.command.Command.{Command}
use Rattle.rma_command.proofs.CommandLemmas.{command_is_read, read_is_command}
use Rattle.rma_command.proofs.command.Command.of_words.Goals as goal

pub returns : goal.returns
returns c = by c.command_of.result c.command_of.ensures
  where
    words : List (List ℕ)
    words = map string_bytes c.args.words.now

    by : (result : Option Command) → option_map asked result ≡ command_of words → MatchOption result (AreFaulty words) (λ command. AskFor words (asked command))
    by None is = λ command h. none-some command (is ∙ command_is_read words command h)
    by (Some command) is = read_is_command words (asked command) (sym is)
