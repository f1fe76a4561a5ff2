use Rattle.std.proofs.Common.{◌≡◌, Some, sym, ap, is_none, ◌∙◌}
use Rattle.std.specs.Option.{option_and_then}
use Rattle.rma_buffer.specs.Operands.{operand_of}
use Rattle.rma_buffer.specs.Rules.{memory_reason}
use Rattle.rma_judge.specs.inside.BookState.{BookState}
use Rattle.rma_judge.proofs.AccessLemmas.{local_good}
use Rattle.rma_judge.proofs.book.Book.local.Goals as goal

pub returns-in-Ok-clause-judged : goal.returns-in-Ok-clause-judged
returns-in-Ok-clause-judged c =
    let book = c.args.self.now in
    let memory = c.in-Some-of.memory in
    let found : operand_of book.types.live c.args.line.now.buffer ≡ Some memory =
    sym (ap (λ (b : BookState). operand_of b.types.live c.args.line.now.buffer) c.self.view_is) ∙ sym (rw c.types.ensures at c.of.ensures.is) ∙ c.in-Some-of.is in
    let good = c.in-Ok.ensures.taken in
    rw c.memory.ensures.same (local_good book c.args.line.now (sym c.later_reason.ensures ∙ c.in_default.is) (ap is_none found)
    (ap (option_and_then (memory_reason book.types.origins)) found ∙ good))
