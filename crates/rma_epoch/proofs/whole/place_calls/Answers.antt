use Rattle.std.proofs.Common.{[], sym, subst, ◌∙◌, refl}
use Rattle.rma_epoch.specs.Table.{AreParts, InOrder, sound_calls}
use Rattle.rma_epoch.proofs.LiveLemmas.{IfOk_map}
use Rattle.rma_epoch.proofs.PartLemmas.{parts_told}
use Rattle.rma_epoch.proofs.TableLemmas.{placed_in_order}
use Rattle.rma_epoch.proofs.WindowlessLemmas.{no_fault_from}
use Rattle.rma_epoch.proofs.whole.place_calls.Goals as goal

pub returns-then-are_on_no_window-clause-fault : goal.returns-then-are_on_no_window-clause-fault
returns-then-are_on_no_window-clause-fault c =
    IfOk_map c.place_none.result
    (λ outcome none. none ∙ sym (no_fault_from c.args.windows.now [] c.args.calls.now.calls c.args.end (λ some. refl) (c.are_on_no_window.ensures c.if-are_on_no_window.true)))
    c.place_none.ensures.fault

pub take_sound-requires-clause-no_epochs : goal.take_sound-requires-clause-no_epochs
take_sound-requires-clause-no_epochs c = c.on-live.ensures.no_epochs c.args.windows.now

pub new-requires : goal.new-requires
new-requires c = c.in_ok-places.ensures.remembered.in_space

pub into_table-table-requires : goal.into_table-table-requires
into_table-table-requires c = subst InOrder (sym c.in_ok-fault.ensures.epochs.placed_are) (placed_in_order c.args.windows.now (sound_calls c.args.windows.now c.args.calls.now.calls))

pub returns-clause-table : goal.returns-clause-table
returns-clause-table c =
    let windows = c.args.windows.now in
    let calls = c.args.calls.now in
    let sound = sound_calls windows calls.calls in
    record {
      sound = c.into_table-table.ensures.sound sound c.in_ok-fault.ensures.taken;
      epochs = c.into_table-table.ensures.epochs windows sound c.in_ok-fault.ensures.epochs;
      placed = c.into_table-table.ensures.placed windows sound c.in_ok-fault.ensures.epochs;
      parts = subst (AreParts windows calls) (sym (c.into_table-table.ensures.parts ∙ c.new.ensures)) (parts_told windows calls c.places.new.parts c.in_ok-places.ensures.parts_len c.in_ok-places.ensures.parts);
    }
