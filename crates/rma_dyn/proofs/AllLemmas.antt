-- All faults of a run.
use Rattle.std.proofs.Common.{inl, inr, List, [], ⊎_elim}
use Rattle.std.specs.List.Sorted.{IsPermutation}
use Rattle.rma_call.specs.Call.{RankCalls}
use Rattle.rma_link.specs.declared.links.Links.{Links}
use Rattle.rma_run.proofs.ContainLemmas.{has_none}
use Rattle.rma_span.specs.Span.{accesses}
use Rattle.rma_window.specs.Windows.{Window}
use Rattle.rma_concurrent.specs.Listed.{AreAll}
use Rattle.rma_concurrent.specs.inside.Places.{HasMore, IsInOrder, IsOf}
use Rattle.rma_concurrent.proofs.ListLemmas.{contained}
use Rattle.rma_dyn.specs.declared.change.Change.{Change}
use Rattle.rma_dyn.specs.declared.fault.RegionFault.{RegionFault}
use Rattle.rma_dyn.specs.Fault.{IsOverlap, IsRegionFault, IsUnknown, fault_order}
use Rattle.rma_dyn.specs.inside.Run.{IsOfRank}
use Rattle.rma_dyn.proofs.FirstLemmas.{at_attach, of_attach}
use Rattle.rma_dyn.proofs.GatherLemmas.{at_some, of_some_rank}
use Rattle.rma_dyn.proofs.LiveLemmas.{at_detach, of_detach}

module _ (links : Links) (windows : List Window) (ranks : List RankCalls) (list all : List Change) (same : IsPermutation all list) where
  pub all_regions : (one two three out : List RegionFault) → HasMore (IsOf (IsOfRank links windows list ranks) ranks) [] one → HasMore (IsOf (IsUnknown list) list) one two → HasMore (IsOf (IsOverlap list) list) two three
      → IsInOrder fault_order three out → AreAll fault_order (IsRegionFault links windows all (accesses ranks)) out
  all_regions one two three out first second third so = record {
    only = λ x has.
        ⊎_elim
        (λ before.
        ⊎_elim (λ earlier. ⊎_elim (λ none. has_none x none) (λ is. inr (inr (at_some links windows ranks list all same is.element x (contained ranks is.place is.element is.there) is.is))) (first.only x earlier))
        (λ is. inr (inl (at_detach list all same x is))) (second.only x before))
        (λ is. inl (at_attach list all same x is)) (third.only x (so.only x has));
    all = λ x at.
        so.all x
        (⊎_elim (λ attach. third.all x (of_attach list all same x attach))
        (λ rest. third.kept x (⊎_elim (λ detach. second.all x (of_detach list all same x detach)) (λ access. second.kept x (first.all x (of_some_rank links windows ranks list all same x access))) rest)) at);
    ascend = so.ascend;
  }
