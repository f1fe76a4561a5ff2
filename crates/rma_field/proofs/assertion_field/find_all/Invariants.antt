use Rattle.std.proofs.Common.{take}
use Rattle.rma_field.specs.Texts.{texts_at}
use Rattle.rma_field.specs.inside.Found.{IsFound}
use Rattle.rma_field.proofs.assertion_field.find_all.Given as goal

abbrev pub invariant-loop-word : goal.invariant-loop-word
invariant-loop-word l = IsFound l.allowed (texts_at (take l.word-index l.words)) l.found
