-- What is found of assertions and of the memory of dynamic windows is one list, whichever lists stand beside the accesses.
use Rattle.std.proofs.Common.{◌≡◌, ℕ, List, [], map, Some, None, inl, inr, refl, sym, ap, subst, ◌∙◌}
use Rattle.std.specs.Prelude.{Option, slice_get}
use Rattle.std.specs.Option.{option_map_or}
use Rattle.rma_call.specs.Call.{Call, RankCalls}
use Rattle.rma_link.specs.declared.links.Links.{Links}
use Rattle.rma_order.specs.RunLinks.{links_of}
use Rattle.rma_rules.specs.Spans.{Spans}
use Rattle.rma_rules.specs.declared.span.LockSpan.{LockSpan}
use Rattle.rma_run.specs.Run.{AreInOrder, calls_of}
use Rattle.rma_span.specs.Span.{accesses}
use Rattle.rma_window.specs.Creation.{creations}
use Rattle.rma_window.specs.Windows.{Window, windows_by}
use Rattle.rma_accesses.specs.Run.{AreListsOf}
use Rattle.rma_assert.specs.declared.assertion.BrokenAssertion.{BrokenAssertion}
use Rattle.rma_assert.specs.Broken.{AreBroken, IsBroken, IsFirst, assertion_order}
use Rattle.rma_assert.specs.Locks.{IsLockBroken}
use Rattle.rma_assert.specs.Stores.{IsByStore, IsNostoreBroken}
use Rattle.rma_assert.proofs.OrderLemmas.{assertion_is_order}
use Rattle.rma_concurrent.proofs.ListLemmas.{all_once}
use Rattle.rma_dyn.specs.Change.{changes}
use Rattle.rma_dyn.specs.Fault.{IsRegionFault, fault_order}
use Rattle.rma_dyn.proofs.OrderLemmas.{fault_is_order}
use Rattle.rma_report.specs.declared.finding.Finding.{Finding}
use Rattle.rma_stream.specs.Strict.{AreAssertions, AreRegions, AreStrict, assertion_finding, region_finding}
use Rattle.rma_stream.proofs.FindingLemmas.{one_or_else}
use Rattle.rma_stream.proofs.PairLemmas.{same_of_rank}

-- a rank that makes a call has a log
has_log : (ranks : List RankCalls) (rank number : ℕ) (call : Call) → slice_get (calls_of ranks rank) number ≡ Some call → (own : RankCalls) × (slice_get ranks rank ≡ Some own)
has_log ranks rank number call at = by (slice_get ranks rank) refl at
  where
    by : (own : Option RankCalls) → slice_get ranks rank ≡ own → slice_get (option_map_or (λ (r : RankCalls). r.calls) own []) number ≡ Some call → (own : RankCalls) × (slice_get ranks rank ≡ Some own)
    by None is there = absurd (let no : ⊥ = cc in no)
    by (Some own) is there = (own, is)

module _ (ranks : List RankCalls) (in_order : AreInOrder ranks) (lists others : Spans) (are : AreListsOf ranks lists) (also : AreListsOf ranks others) where
  -- what is shown beside the one lists is shown beside the others
  nostore_with : (windows : List Window) (found : BrokenAssertion) → IsNostoreBroken windows lists (calls_of ranks) (accesses ranks) found → IsNostoreBroken windows others (calls_of ranks) (accesses ranks) found
  nostore_with windows found (access, has, (window, (number, stored))) =
      let (own, there) = has_log ranks found.rank.0 number stored.asserting stored.asserting_is in
      let same = (same_of_rank ranks in_order lists others are.calls also.calls found.rank own there).publishing window in
      (access, has, (window, subst (λ (published : List ℕ). IsByStore windows found.rank (calls_of ranks found.rank.0) published window access found) same (number, stored)))

  lock_with : (links : Links) (found : BrokenAssertion) → IsLockBroken links (calls_of ranks) lists.locks found → IsLockBroken links (calls_of ranks) others.locks found
  lock_with links found is = subst (λ (locks : List LockSpan). IsLockBroken links (calls_of ranks) locks found) (are.locks ∙ sym also.locks) is

  pub broken_with : (links : Links) (found : BrokenAssertion) → IsBroken links ranks lists found → IsBroken links ranks others found
  broken_with links found (inl start) = inl start
  broken_with links found (inr (inl store)) = inr (inl (nostore_with (windows_by (creations ranks)) found store))
  broken_with links found (inr (inr (inl update))) = inr (inr (inl update))
  broken_with links found (inr (inr (inr lock))) = inr (inr (inr (lock_with links found lock)))

module _ (ranks : List RankCalls) (in_order : AreInOrder ranks) (lists others : Spans) (are : AreListsOf ranks lists) (also : AreListsOf ranks others) (links : Links) where
  first_with : (found : BrokenAssertion) → IsFirst (IsBroken links ranks lists) found → IsFirst (IsBroken links ranks others) found
  first_with found is = record {
    shown = broken_with ranks in_order lists others are also links found is.shown;
    first = λ other shown same. is.first other (broken_with ranks in_order others lists also are links other shown) same;
  }

all_with : (ranks : List RankCalls) → AreInOrder ranks → (lists others : Spans) → AreListsOf ranks lists → AreListsOf ranks others → (links : Links) (broken : List BrokenAssertion)
    → AreBroken links ranks lists broken → AreBroken links ranks others broken
all_with ranks in_order lists others are also links broken all = record {
  only = λ found has. first_with ranks in_order lists others are also links found (all.only found has);
  all = λ found is. all.all found (first_with ranks in_order others lists also are links found is);
  ascend = all.ascend;
}

one_assertions : (ranks : List RankCalls) → AreInOrder ranks → (found others : List Finding) → AreAssertions ranks found → AreAssertions ranks others → found ≡ others
one_assertions ranks in_order found others one two =
    let links = links_of ranks in
    let same : one.broken ≡ two.broken =
    all_once assertion_order assertion_is_order (IsFirst (IsBroken links ranks two.lists)) one.broken two.broken (all_with ranks in_order one.lists two.lists one.lists_are two.lists_are links one.broken one.broken_are) two.broken_are in
    one.found_are ∙ ap (map assertion_finding) same ∙ sym two.found_are

one_regions : (ranks : List RankCalls) (found others : List Finding) → AreRegions ranks found → AreRegions ranks others → found ≡ others
one_regions ranks found others (one, one_are, one_found) (two, two_are, two_found) =
    let windows = windows_by (creations ranks) in
    let same : one ≡ two = all_once fault_order fault_is_order (IsRegionFault (links_of ranks) windows (changes windows ranks) (accesses ranks)) one two one_are two_are in
    one_found ∙ ap (map region_finding) same ∙ sym two_found

pub one_strict : (ranks : List RankCalls) → AreInOrder ranks → (found others : List Finding) → AreStrict ranks found → AreStrict ranks others → found ≡ others
one_strict ranks in_order = one_or_else (AreAssertions ranks) (AreRegions ranks) (one_assertions ranks in_order) (λ none. one_regions ranks)
