use Rattle.std.proofs.Common.{◌≡◌, ◌↔◌, Option, Some, sym, subst}
use Rattle.rma_concurrent.specs.inside.Places.{HasMore}
use Rattle.rma_dyn.specs.declared.fault.RegionFault.{RegionFault}
use Rattle.rma_dyn.specs.Fault.{IsAtAccess}
use Rattle.rma_dyn.proofs.GatherLemmas.{more_no, more_one}
use Rattle.rma_dyn.proofs.regions.add_access.Goals as goal

pub returns-in_ok-push : goal.returns-in_ok-push
returns-in_ok-push g c = λ links are.
    let P = IsAtAccess links c.args.windows.now c.args.known.now.list.items c.args.access.now in
    let told = rw c.as_slice-list.ensures.value at (c.fault_of.ensures links are) in
    subst (HasMore P c.args.found.now.items) (sym c.in_ok-push.ensures.items)
    (more_one P c.args.found.now.items c.in-Some.fault (subst (λ (o : Option RegionFault). (y : RegionFault) → (o ≡ Some y) ↔ P y) c.in-Some.is told))

pub returns-in_default : goal.returns-in_default
returns-in_default g c = λ links are.
    let P = IsAtAccess links c.args.windows.now c.args.known.now.list.items c.args.access.now in
    let told = rw c.as_slice-list.ensures.value at (c.fault_of.ensures links are) in
    more_no P c.args.found.now.items (subst (λ (o : Option RegionFault). (y : RegionFault) → (o ≡ Some y) ↔ P y) c.in_default.is told)
