use Rattle.std.proofs.Common.{◌-◌, length, not, eqb, ap, sym, ◌∙◌, arith}
use Rattle.std.proofs.lemmas.Option.{slice_get_within, get_or_from_slice_get}
use Rattle.rma_lex.proofs.LineLemmas.{has_open_end_last}
use Rattle.rma_lex.proofs.cutter.has_open_end.Goals as goal

pub returns-in-Some : goal.returns-in-Some
returns-in-Some c =
    let text = c.args.text.now in
    let byte = c.in-Some.byte.now in
    let there = sym c.in-Some.ensures.value in
    let within = slice_get_within text (length text - 1) byte there in
    ap (λ b. not (eqb b 10)) (sym (get_or_from_slice_get text (length text - 1) byte 0 there)) ∙ sym (has_open_end_last text 0 (omega arith))
