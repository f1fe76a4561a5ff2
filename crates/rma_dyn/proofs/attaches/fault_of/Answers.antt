use Rattle.std.proofs.Common.{◌≡◌, ◌↔◌, Option, Some, sym, subst}
use Rattle.rma_dyn.specs.declared.fault.RegionFault.{RegionFault}
use Rattle.rma_dyn.specs.Fault.{IsOverlap}
use Rattle.rma_dyn.proofs.FirstLemmas.{first_fault, no_overlap}
use Rattle.rma_dyn.proofs.attaches.fault_of.Goals as goal

pub returns-in-Some : goal.returns-in-Some
returns-in-Some c =
    let P = IsOverlap c.args.list.now c.args.own.now in
    subst (λ (o : Option RegionFault). (fault : RegionFault) → (o ≡ Some fault) ↔ P fault) (sym c.fault_by.ensures) (first_fault c.args.list.now c.requires.asked.once c.args.own.now c.requires.there _ c.first_overlap.ensures)

pub returns-in-None : goal.returns-in-None
returns-in-None c = no_overlap c.args.list.now c.args.own.now c.in-None.is
