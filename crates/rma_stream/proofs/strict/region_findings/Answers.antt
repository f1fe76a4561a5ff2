use Rattle.std.proofs.Common.{ap, map, ◌∙◌}
use Rattle.rma_stream.specs.Strict.{region_finding}
use Rattle.rma_epoch.proofs.LiveLemmas.{IfOk_map}
use Rattle.rma_order.specs.RunLinks.{links_of}
use Rattle.rma_stream.proofs.strict.region_findings.Goals as goal

pub region_faults-requires-clause-clocks : goal.region_faults-requires-clause-clocks
region_faults-requires-clause-clocks c = (links_of c.args.calls.now, c.requires.order.clocks)

pub returns : goal.returns
returns c = IfOk_map c.of_regions.result
    (λ found is. (c.in_ok-faults.faults.items, c.in_ok-faults.ensures (links_of c.args.calls.now) c.requires.order.clocks, is ∙ ap (map region_finding) c.deref.ensures.value)) c.of_regions.ensures
