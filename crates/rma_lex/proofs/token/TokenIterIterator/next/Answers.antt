use Rattle.std.proofs.Common.{◌<◌, length, rules, ap, arith}
use Rattle.rma_lex.proofs.FieldLemmas.{fields_from_next}
use Rattle.rma_lex.proofs.token.TokenIterIterator.next.Goals as goal

pub invariant_of-self : goal.invariant_of-self
invariant_of-self c =
    let edges = c.self.inside.edges in
    let blanks = rw c.go_on.ensures.line at c.go_on-2.ensures.next in
    let within : edges.place < length edges.line.now = omega (arith, c.self.invariant.0.placed) in
    let step = fields_from_next edges.line.now edges.place _ _ c.go_on.ensures.next blanks within (c.self.invariant.1 within) in
    (c.go_on-2.ensures.reaches, rw (c.go_on-2.ensures.line, c.go_on.ensures.line) step.0)

pub returns-clause-steps : goal.returns-clause-steps
returns-clause-steps c =
    let edges = c.self.inside.edges in
    let blanks = rw c.go_on.ensures.line at c.go_on-2.ensures.next in
    let within : edges.place < length edges.line.now = omega (arith, c.self.invariant.0.placed) in
    let step = fields_from_next edges.line.now edges.place _ _ c.go_on.ensures.next blanks within (c.self.invariant.1 within) in
    rw (← c.self.view_is, c.go_on-2.ensures.line, c.go_on.ensures.line) step.1

pub returns-clause-goes : goal.returns-clause-goes
returns-clause-goes c =
    let fewer = ap length (returns-clause-steps c) in
    search rules
