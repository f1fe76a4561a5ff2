use Rattle.std.proofs.Common.{List, subst}
use Rattle.rma_concurrent.specs.Listed.{AreAll}
use Rattle.rma_concurrent.proofs.ListLemmas.{IfOk_map}
use Rattle.rma_span.specs.Span.{accesses}
use Rattle.rma_window.specs.Windows.{Window}
use Rattle.rma_dyn.specs.Change.{changes}
use Rattle.rma_dyn.specs.Fault.{IsRegionFault, fault_order}
use Rattle.rma_dyn.proofs.AllLemmas.{all_regions}
use Rattle.rma_dyn.proofs.all.region_faults.Goals as goal

pub returns : goal.returns
returns g c =
    let ranks = c.args.ranks.now in
    let windows = c.args.windows.now in
    let second = rw c.as_slice-list.ensures.value at c.in_ok-add_detaches.ensures in
    let third = rw c.as_slice-list.ensures.value at c.in_ok-add_attaches.ensures in
    IfOk_map c.in_order.result
    (λ out so links are.
    subst (λ (ws : List Window). AreAll fault_order (IsRegionFault links ws (changes ws ranks) (accesses ranks)) out.items) c.requires.windows
    (all_regions links windows ranks c.in_ok-known.known.list.items (changes windows ranks) c.in_ok-known.ensures.all c.in_ok-found.found.items c.add_detaches.new.found.items c.add_attaches.new.found.items out.items
    (c.in_ok-found.ensures links are) second third so))
    c.in_order.ensures
