use Rattle.std.proofs.Common.{ap, map, ◌∙◌}
use Rattle.rma_stream.specs.Strict.{assertion_finding}
use Rattle.rma_epoch.proofs.LiveLemmas.{IfOk_map}
use Rattle.rma_order.specs.RunLinks.{links_of}
use Rattle.rma_stream.proofs.ListedLemmas.{may_be_asked}
use Rattle.rma_stream.proofs.strict.assertion_findings.Goals as goal

pub broken_assertions-requires-clause-locks : goal.broken_assertions-requires-clause-locks
broken_assertions-requires-clause-locks c = (may_be_asked c.args.calls.now c.args.accesses.now.lists c.requires.good.run c.requires.accesses.lists).1.locks

pub broken_assertions-requires-clause-clocks : goal.broken_assertions-requires-clause-clocks
broken_assertions-requires-clause-clocks c = (links_of c.args.calls.now, c.requires.order.clocks)

pub returns : goal.returns
returns c = IfOk_map c.of_assertions.result
    (λ found is. record {
      lists = c.args.accesses.now.lists;
      lists_are = c.requires.accesses.lists;
      broken = c.in_ok-broken.broken.items;
      broken_are = c.in_ok-broken.ensures (links_of c.args.calls.now) c.requires.order.clocks;
      found_are = is ∙ ap (map assertion_finding) c.deref.ensures.value;
    }) c.of_assertions.ensures
