use Rattle.std.proofs.Common.{List, map, ap, ◌∙◌}
use Rattle.rma_epoch.specs.declared.parts.Entry.{Entry}
use Rattle.rma_epoch.specs.Table.{Epochs}
use Rattle.rma_epoch.specs.inside.Parts.{shown}
use Rattle.rma_epoch.proofs.WindowlessLemmas.{table_of_none}
use Rattle.rma_epoch.proofs.whole.place_none.Goals as goal

pub returns-clause-table : goal.returns-clause-table
returns-clause-table c = λ windows.
    let own = c.new-table.result in
    let is = c.new-table.ensures in
    table_of_none windows c.args.calls.now own c.requires
    (ap (λ (e : Epochs). e.sound) is ∙ c.in_ok-count.ensures)
    (ap (λ (e : Epochs). e.epochs) is ∙ c.new-2.ensures.epochs)
    (ap (λ (e : Epochs). e.placed) is ∙ c.new-2.ensures.placed)
    (ap (λ (e : Epochs). e.parts) is ∙ c.new-parts.ensures ∙ ap (λ (es : List Entry). map (shown c.new.result.parts.entries) es) c.new.ensures.entries)
