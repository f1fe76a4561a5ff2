use Rattle.std.proofs.Common.{◌≡◌, ◌++◌, length, drop}
use Rattle.rma_lex.specs.Field.{fields, texts}
use Rattle.rma_field.specs.Texts.{texts_at}
use Rattle.rma_parse.proofs.words.take_all.Given as goal

abbrev pub invariant-words : goal.invariant-words
invariant-words l = texts_at l.many.items ++ texts l.rest ≡ drop 1 (texts (fields l.line))

abbrev pub decreases-words : goal.decreases-words
decreases-words l = length l.rest
