use Rattle.std.proofs.Common.{false, ◌≡◌, ◌<◌, List, ℕ, length, drop, ap, sym, subst, ◌∙◌, inl, inr, arith}
use Rattle.rma_lex.specs.inside.Blank.{blank_at}
use Rattle.rma_lex.specs.Field.{fields, fields_from}
use Rattle.rma_lex.specs.inside.Reached.{Reaches}
use Rattle.rma_lex.specs.declared.edge.Edges.{Edges}
use Rattle.rma_lex.proofs.FieldLemmas.{fields_begun, length_fields_from}
use Rattle.rma_lex.proofs.token.tokens.Goals as goal
use Rattle.rma_lex.proofs.token.tokens.Goals.{then-begins_blank, else-begins_blank}

-- at the first field, or at the end
record Begun (line : List ℕ) (edges : Edges) : Type 0 where
  reaches : Reaches edges
  same : edges.line.now ≡ line
  field : edges.place < length line → blank_at line edges.place ≡ false
  all : fields_from edges.place (drop edges.place line) ≡ fields line

begun : (c : goal.Joined-begins_blank) → Begun c.args.line.now c.if-begins_blank.edges
begun c =
    let line = c.args.line.now in
    let new = c.new-edges in
    elim c.if-begins_blank.branch [
      | then-begins_blank w ↦
          let same = w.go_on.ensures.line ∙ new.ensures.line in
          let next = rw (new.ensures.place, new.ensures.line) at w.go_on.ensures.next in
          let step = fields_begun line w.go_on.new.self.place (inl (sym c.begins_blank.ensures ∙ w.if-begins_blank.true, next)) in
          subst (Begun line) (sym w.edges-is) (record { reaches = w.go_on.ensures.reaches; same = same; field = step.0; all = step.1 })
      | else-begins_blank w ↦
          let step = fields_begun line new.result.place (inr (sym c.begins_blank.ensures ∙ w.if-begins_blank.false, new.ensures.place)) in
          subst (Begun line) (sym w.edges-is) (record { reaches = new.ensures.reaches; same = new.ensures.line; field = step.0; all = step.1 })
    ]

pub invariant_of-result : goal.invariant_of-result
invariant_of-result c = let at = begun c in (at.reaches, rw at.same at.field)

pub returns-clause-fields : goal.returns-clause-fields
returns-clause-fields c = let at = begun c in rw at.same at.all

pub returns-clause-bound : goal.returns-clause-bound
returns-clause-bound c = omega (arith, ap length (returns-clause-fields c), length_fields_from 0 c.args.line.now, c.new-edges.ensures.bound)
