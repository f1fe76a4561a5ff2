use Rattle.std.proofs.Common.{◌≡◌, rules}
use Rattle.std.specs.Ordering.{is_lt}
use Rattle.std.proofs.lemmas.Fn.{always_returns_same}
use Rattle.std.proofs.lemmas.List.Sorted.{ranks_by}
use Rattle.rma_dyn.specs.declared.fault.RegionFault.{RegionFault}
use Rattle.rma_dyn.specs.Fault.{fault_order}
use Rattle.rma_dyn.proofs.OrderLemmas.{fault_is_order}
use Rattle.rma_dyn.proofs.order.sort.Goals as goal

pub returns-clause-sorted : goal.returns-clause-sorted
returns-clause-sorted c = c.sort_unstable_by.ensures.sorted (λ a b. is_lt (fault_order a b)) (ranks_by fault_is_order.total (λ (a : RegionFault). a)) (always_returns_same _ (λ a r. is_lt r ≡ is_lt (fault_order a.0.now a.1.0.now)) _ (λ a r f k. search rules))
