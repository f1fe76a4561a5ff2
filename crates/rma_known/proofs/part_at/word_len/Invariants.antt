use Rattle.std.proofs.Common.{◌≡◌, take, true}
use Rattle.std.specs.List.{list_all}
use Rattle.rma_lex.specs.Field.{is_field}
use Rattle.rma_known.proofs.part_at.word_len.Given as goal

-- no byte before is a blank
abbrev pub invariant-loop-i : goal.invariant-loop-i
invariant-loop-i l = list_all is_field (take l.i l.text) ≡ true
