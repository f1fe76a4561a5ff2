use Rattle.std.proofs.Common.{[]}
use Rattle.std.proofs.lemmas.List.Elements.{All-nil, All-cons}
use Rattle.std.proofs.lemmas.Result.{IfOk-weaker}
use Rattle.rma_bytes.specs.Runs.{IsInBounds}
use Rattle.rma_rules.proofs.BytesLemmas.{in_bounds}
use Rattle.rma_history.proofs.ReachLemmas.{first_before_last, lies_between}
use Rattle.rma_history.proofs.reach.all_between.Goals as goal

pub between-requires-clause-first : goal.between-requires-clause-first
between-requires-clause-first c = in_bounds c.args.bytes.now _ c.get-first.result c.len.ensures.canonical c.get-first.ensures

pub between-requires-clause-last : goal.between-requires-clause-last
between-requires-clause-last c = in_bounds c.args.bytes.now _ c.get-last.result c.len.ensures.canonical c.get-last.ensures

pub between-requires-clause-in_order : goal.between-requires-clause-in_order
between-requires-clause-in_order c =
    first_before_last c.args.bytes.now c.get-first.result c.get-last.result c.len.ensures.canonical c.get-first.ensures (rw (← c.len.ensures.value) c.get-last.ensures)

pub from_blocks-requires-2 : goal.from_blocks-requires-2
from_blocks-requires-2 c =
    let first = in_bounds c.args.bytes.now _ c.get-first.result c.len.ensures.canonical c.get-first.ensures in
    let last = in_bounds c.args.bytes.now _ c.get-last.result c.len.ensures.canonical c.get-last.ensures in
    All-cons IsInBounds c.between.result [] (rw c.between.ensures.start first.0, rw c.between.ensures.end last.1) (All-nil IsInBounds)

pub returns : goal.returns
returns c =
    IfOk-weaker c.from_blocks-2.result _ _
    (λ runs same b has.
    (same b).1 (lies_between c.args.bytes.now c.get-first.result c.get-last.result c.len.ensures.canonical c.get-first.ensures (rw (← c.len.ensures.value) c.get-last.ensures)
    c.between.result c.between.ensures.start c.between.ensures.end b has))
    c.from_blocks-2.ensures.bytes
