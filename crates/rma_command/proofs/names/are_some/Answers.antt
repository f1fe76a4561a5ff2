use Rattle.std.proofs.Common.{string_bytes, sym, ◌∙◌}
use Rattle.rma_command.specs.inside.Words.{is_some}
use Rattle.rma_command.proofs.NameLemmas.{one_fails}
use Rattle.rma_command.proofs.names.are_some.Goals as goal

pub returns-then-not-is_some : goal.returns-then-not-is_some
returns-then-not-is_some c = one_fails string_bytes is_some c.args.words.now c.loop-word.word-index c.word-item.result c.loop-word-test.true c.word-item.is (sym c.is_some.ensures ∙ c.if-not-is_some.true)
