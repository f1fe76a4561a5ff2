use Rattle.std.proofs.Common.{rules}
use Rattle.std.proofs.lemmas.List.Sorted.{answers_always}
use Rattle.rma_epoch.specs.declared.epoch.Placed.{Placed}
use Rattle.rma_epoch.proofs.EpochLemmas.{found_access, missed_access}
use Rattle.rma_epoch.proofs.placements.epoch_of.Goals as goal

pub returns-in-Ok : goal.returns-in-Ok
returns-in-Ok c = λ up.
    let by_key = c.in-Ok.ensures.position (λ (placed : Placed). placed.call) (answers_always _ _ _ (λ f a r g called. search rules)) in
    found_access c.args.placed.now up c.args.call c.in-Ok.place (record { call = 0; epoch = 0 }) c.in-Ok.ensures.bound by_key

pub returns-in-Err : goal.returns-in-Err
returns-in-Err c = λ up.
    let by_key = c.in-Err.ensures.position (λ (placed : Placed). placed.call) (answers_always _ _ _ (λ f a r g called. search rules)) in
    missed_access c.args.placed.now up c.args.call c.in-Err.field-0 c.in-Err.ensures.bound by_key
