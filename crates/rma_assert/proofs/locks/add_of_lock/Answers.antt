use Rattle.std.proofs.Common.{sym, ◌∙◌}
use Rattle.std.proofs.lemmas.Option.{none-some}
use Rattle.rma_run.specs.Run.{calls_of}
use Rattle.rma_assert.proofs.LockLemmas.{not_said}
use Rattle.rma_assert.proofs.locks.add_of_lock.Goals as goal

pub add_beside-requires-clause-kind : goal.add_beside-requires-clause-kind
add_beside-requires-clause-kind g c = ((c.nocheck_of.ensures c.in-Some.kind).0 c.in-Some.is).0

pub add_beside-requires-clause-says : goal.add_beside-requires-clause-says
add_beside-requires-clause-says g c = ((c.nocheck_of.ensures c.in-Some.kind).0 c.in-Some.is).1

pub returns-in-None : goal.returns-in-None
returns-in-None g c = λ links are.
    not_said links (calls_of c.args.ranks.now) c.args.locks.now c.args.own.now (λ kind is says. none-some kind (sym c.in-None.is ∙ (c.nocheck_of.ensures kind).1 (is, says))) c.args.found.now.items
