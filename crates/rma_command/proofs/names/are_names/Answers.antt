use Rattle.std.proofs.Common.{string_bytes, sym, ◌∙◌}
use Rattle.rma_command.specs.inside.Words.{is_name}
use Rattle.rma_command.proofs.NameLemmas.{one_fails}
use Rattle.rma_command.proofs.names.are_names.Goals as goal

pub returns-then-not-is_name : goal.returns-then-not-is_name
returns-then-not-is_name c = one_fails string_bytes is_name c.args.words.now c.loop-word.word-index c.word-item.result c.loop-word-test.true c.word-item.is (sym c.is_name.ensures ∙ c.if-not-is_name.true)
