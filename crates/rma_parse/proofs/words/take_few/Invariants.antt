use Rattle.std.proofs.Common.{◌≡◌, ◌++◌, length}
use Rattle.rma_lex.specs.Field.{texts}
use Rattle.rma_field.specs.Texts.{texts_at}
use Rattle.rma_parse.proofs.words.take_few.Given as goal

abbrev pub invariant-words : goal.invariant-words
invariant-words l = texts_at l.few.items ++ texts l.rest ≡ texts l.initial.rest

abbrev pub decreases-words : goal.decreases-words
decreases-words l = length l.rest
