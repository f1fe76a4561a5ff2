use Rattle.std.proofs.Common.{Some, cond, ap, length, ◌∙◌, refl, subst, sym}
use Rattle.std.specs.Prelude.{nat_eq}
use Rattle.std.specs.Map.{lookup}
use Rattle.rma_exposure.specs.Opening.{Opening}
use Rattle.rma_exposure.specs.inside.Epochs.{kept, IsOpened}
use Rattle.rma_exposure.proofs.EpochLemmas.{AreEpochs_added, unclosed, keys_pushed, no_opener_yet}
use Rattle.rma_exposure.proofs.side_epochs.SideEpochs.add.Goals as goal

pub returns-clause-epochs : goal.returns-clause-epochs
returns-clause-epochs c = λ side calls call len opens closes are.
    let old = c.args.self.now in
    let opening : Opening = record { window = c.args.window.now; group = c.args.group.now } in
    AreEpochs_added side calls call opening old (record old { windows = c.add.new.windows; openers = c.insert.new.self }) opens closes
    (λ name same. subst (λ n. IsOpened n c.args.group.now (kept old.windows.entries name) (kept c.add.new.windows.entries name)) (sym len) (c.in_ok-place.ensures.own name same))
    c.in_ok-place.ensures.others
    (λ number.
    c.in_ok-insert.ensures.updates.0 number
    ∙ ap (λ epoch. cond (nat_eq c.args.number number) (Some epoch) (lookup (nat_eq number) old.openers.entries)) c.in_ok-epoch.ensures
    ∙ ap (λ n. cond (nat_eq n number) (Some (unclosed opening)) (lookup (nat_eq number) old.openers.entries)) (sym len))
    (keys_pushed old.openers (length calls) c.args.number c.in_ok-epoch.epoch c.insert.new.self.entries len (no_opener_yet side calls old are) c.in_ok-insert.ensures.entries)
    are refl
