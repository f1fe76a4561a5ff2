use Rattle.std.proofs.Common.{◌++◌, List, ap, ◌∙◌}
use Rattle.rma_report.specs.declared.finding.Finding.{Finding}
use Rattle.rma_stream.proofs.faults.fault_findings.Goals as goal

pub epoch_findings-requires : goal.epoch_findings-requires
epoch_findings-requires c = let (ranks, good, epochs, accesses, order) = c.requires in (ranks, epochs)

pub add_pairs-requires : goal.add_pairs-requires
add_pairs-requires c = let (ranks, good, epochs, accesses, order) = c.requires in (ranks, good, accesses, epochs.windows, order)

pub returns : goal.returns
returns c = λ ranks good epochs accesses order.
    let (pairs, are, there) = c.in_ok-add_pairs.ensures ranks good accesses epochs.windows order in
    (pairs, are, there ∙ ap (λ (list : List Finding). list ++ pairs) (c.in_ok-list.ensures ranks epochs))
