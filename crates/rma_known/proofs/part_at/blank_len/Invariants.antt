use Rattle.std.proofs.Common.{◌≡◌, take, true}
use Rattle.std.specs.List.{list_all}
use Rattle.rma_lex.specs.Field.{is_blank}
use Rattle.rma_known.proofs.part_at.blank_len.Given as goal

-- each byte before is a blank
abbrev pub invariant-loop-i : goal.invariant-loop-i
invariant-loop-i l = list_all is_blank (take l.i l.text) ≡ true
