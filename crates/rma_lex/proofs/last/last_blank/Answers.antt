use Rattle.std.proofs.Common.{arith, refl, subst, length}
use Rattle.rma_lex.specs.inside.Blank.{blank_at}
use Rattle.rma_lex.specs.inside.Mask.{Marks}
use Rattle.rma_lex.proofs.LastLemmas.{behind, all_behind}
use Rattle.rma_lex.proofs.last.last_blank.Goals as goal

pub returns-in-Some-clause-behind : goal.returns-in-Some-clause-behind
returns-in-Some-clause-behind c = behind c.args.line.now _ _ c.blanks_from.ensures (omega arith) c.in-Some.bit c.in-Some.ensures.highest

pub returns-in-None-clause-none : goal.returns-in-None-clause-none
returns-in-None-clause-none c _ =
    let line = c.args.line.now in
    all_behind line 0 c.blanks_from.result (subst (λ from. Marks (blank_at line) from c.blanks_from.result from (length line)) c.if-from-eq0.true c.blanks_from.ensures) (omega arith) (c.in-None.ensures.none refl)
