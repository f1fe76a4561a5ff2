use Rattle.std.proofs.Common.{◌≡◌, sym, rules, true, false, eqb}
use Rattle.std.proofs.lemmas.Bool.{ne_eqb}
use Rattle.rma_lex.proofs.TextLemmas.{without_return_return, without_return_other}
use Rattle.rma_lex.proofs.text.without_return.Goals as goal

pub returns-in-Some : goal.returns-in-Some
returns-in-Some c =
    let return : eqb c.in-Some.last.now 13 ≡ true = search rules in
    rw c.in-Some.ensures.cases.0 (sym (without_return_return c.in-Some.rest.now c.in-Some.last.now return))

pub returns-in_default : goal.returns-in_default
returns-in_default c =
    let other : eqb c.in-Some.last.now 13 ≡ false = ne_eqb c.in-Some.last.now 13 c.if-last-eq13.false in
    rw c.in-Some.ensures.cases.0 (sym (without_return_other c.in-Some.rest.now c.in-Some.last.now other))
