use Rattle.std.proofs.Common.{◌≡◌, ◌↔◌, Option, Some, sym, subst}
use Rattle.rma_concurrent.specs.inside.Places.{HasMore}
use Rattle.rma_dyn.specs.declared.fault.RegionFault.{RegionFault}
use Rattle.rma_dyn.specs.Fault.{IsUnknown}
use Rattle.rma_dyn.proofs.GatherLemmas.{more_no, more_one}
use Rattle.rma_dyn.proofs.detaches.add_detach.Goals as goal

pub returns-in_ok-push : goal.returns-in_ok-push
returns-in_ok-push c =
    let P = IsUnknown c.args.list.now c.args.own.now in
    subst (HasMore P c.args.found.now.items) (sym c.in_ok-push.ensures.items)
    (more_one P c.args.found.now.items c.in-Some.fault (subst (λ (o : Option RegionFault). (y : RegionFault) → (o ≡ Some y) ↔ P y) c.in-Some.is c.fault_of.ensures))

pub returns-in_default : goal.returns-in_default
returns-in_default c =
    let P = IsUnknown c.args.list.now c.args.own.now in
    more_no P c.args.found.now.items (subst (λ (o : Option RegionFault). (y : RegionFault) → (o ≡ Some y) ↔ P y) c.in_default.is c.fault_of.ensures)
