use Rattle.std.proofs.Common.{◌≡◌, Some, sym, ◌∙◌}
use Rattle.rma_command.proofs.CommandLemmas.{command_is_read}
use Rattle.rma_command.proofs.laws.words_ask_for_one_command.Goals as goal

pub returns : goal.returns
returns c = λ words command other h g. let same : Some command ≡ Some other = sym (command_is_read words command h) ∙ command_is_read words other g in cc
