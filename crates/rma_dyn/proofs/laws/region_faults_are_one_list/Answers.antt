use Rattle.rma_concurrent.proofs.ListLemmas.{all_once}
use Rattle.rma_span.specs.Span.{accesses}
use Rattle.rma_window.specs.Creation.{creations}
use Rattle.rma_window.specs.Windows.{windows_by}
use Rattle.rma_dyn.specs.Change.{changes}
use Rattle.rma_dyn.specs.Fault.{IsRegionFault, fault_order}
use Rattle.rma_dyn.proofs.OrderLemmas.{fault_is_order}
use Rattle.rma_dyn.proofs.laws.region_faults_are_one_list.Goals as goal

pub returns : goal.returns
returns c = λ links ranks list other one two.
    all_once fault_order fault_is_order (IsRegionFault links (windows_by (creations ranks)) (changes (windows_by (creations ranks)) ranks) (accesses ranks)) list other one two
