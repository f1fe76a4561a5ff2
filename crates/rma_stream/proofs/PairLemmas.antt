-- What is found of pairs among the sound calls of a run is one list, whichever lists stand beside its accesses.
use Rattle.std.proofs.Common.{◌≡◌, ℕ, List, sym, ap, subst, ◌∙◌, inl, inr}
use Rattle.std.specs.Prelude.{Contains, Some, slice_get}
use Rattle.rma_base.specs.declared.point.Point.{Point}
use Rattle.rma_base.specs.declared.rank.Rank.{Rank}
use Rattle.rma_call.specs.Call.{RankCalls}
use Rattle.rma_run.specs.Run.{AreInOrder}
use Rattle.rma_link.specs.declared.links.Links.{Links}
use Rattle.rma_order.specs.RunLinks.{links_of}
use Rattle.rma_window.specs.Creation.{creations}
use Rattle.rma_window.specs.Windows.{Window, windows_by}
use Rattle.rma_window.specs.declared.window_id.WindowId.{WindowId}
use Rattle.rma_rules.specs.Access.{Access}
use Rattle.rma_rules.specs.Before.{Before, IsDoneBefore, IsMadeVisible, IsPublished}
use Rattle.rma_rules.specs.Spans.{Spans, publishing_of, visible_of}
use Rattle.rma_rules.specs.declared.rule.Rule.{Rule}
use Rattle.rma_rules.specs.declared.span.Exposure.{Exposure}
use Rattle.rma_rules.specs.declared.span.LockSpan.{LockSpan}
use Rattle.rma_rules.specs.declared.span.Post.{Post}
use Rattle.rma_span.specs.Span.{accesses}
use Rattle.rma_points.specs.Points.{AreRunCalls}
use Rattle.rma_accesses.specs.Run.{AreListsOf}
use Rattle.rma_finding.specs.declared.finding.FoundRace.{FoundRace}
use Rattle.rma_finding.specs.declared.finding.ExposedLock.{ExposedLock}
use Rattle.rma_finding.specs.declared.finding.DoubledPost.{DoubledPost}
use Rattle.rma_pairs.specs.Race.{Race}
use Rattle.rma_pairs.specs.Races.{AreRaces, IsFound, IsFoundOf}
use Rattle.rma_pairs.proofs.RaceLemmas.{are_one_list}
use Rattle.rma_concurrent.specs.Concurrent.{AreDoubled, AreExposed, IsDoubled, IsDoubledBy, IsExposed, IsExposedBy, lock_order, post_order}
use Rattle.rma_concurrent.specs.Listed.{AreAll, IsOfSome}
use Rattle.rma_concurrent.proofs.ListLemmas.{all_once}
use Rattle.rma_concurrent.proofs.OrderLemmas.{lock_is_order, post_is_order}
use Rattle.rma_report.specs.declared.finding.Finding.{Finding}
use Rattle.rma_stream.specs.Findings.{ArePairs, pair_findings}
use Rattle.rma_explain.proofs.MemoryLemmas.{memory_in_order}

-- ---- the calls of one rank

-- lists have the same calls of a rank
pub record HaveSame (lists others : Spans) (rank : Rank) : Type 0 where
  pub publishing : (window : WindowId) → publishing_of lists rank window ≡ publishing_of others rank window
  pub visible : (window : WindowId) → visible_of lists rank window ≡ visible_of others rank window

module _ (links : Links) (lists others : Spans) (rank : Rank) (window : WindowId) (done : Point) (same : HaveSame lists others rank) where
  made_visible : (call : ℕ) → IsMadeVisible links lists rank window done call → IsMadeVisible links others rank window done call
  unfolding IsMadeVisible
  made_visible call (v, among, less, order) = (v, subst (λ (l : List ℕ). Contains l v) (same.visible window) among, less, order)

  published : (b : Access) → IsPublished links lists rank window done b → IsPublished links others rank window done b
  unfolding IsPublished
  published b (v, among, order, start) = (v, subst (λ (l : List ℕ). Contains l v) (same.publishing window) among, order, start)

module _ (links : Links) (windows : List Window) (lists others : Spans) (a b : Access) (same : HaveSame lists others a.memory) where
  done_before : (done : Point) → IsDoneBefore links windows lists a b done → IsDoneBefore links windows others a b done
  unfolding IsDoneBefore
  done_before done (inl (window, needs, made)) = inl (window, needs, made_visible links lists others a.memory window done same b.call made)
  done_before done (inr (inl (window, needs, made))) = inr (inl (window, needs, published links lists others a.memory window done same b made))
  done_before done (inr (inr neither)) = inr (inr neither)

  before : Before links windows lists a b → Before links windows others a b
  unfolding Before
  before (done, is, order) = (done, is, done_before done order)

-- ---- races

module _ (links : Links) (windows : List Window) (lists others : Spans) (a b : Access) (same_a : HaveSame others lists a.memory) (same_b : HaveSame others lists b.memory) where
  race : (rule : Rule) → Race links windows lists a b rule → Race links windows others a b rule
  race rule is = record {
    conflict = is.conflict;
    together = is.together;
    not_before = λ order. is.not_before (before links windows others lists a b same_a order);
    not_after = λ order. is.not_after (before links windows others lists b a same_b order);
  }

  found_of : (found : FoundRace) → IsFoundOf links windows lists a b found → IsFoundOf links windows others a b found
  found_of found is = record {
    in_order = is.in_order;
    race = race found.rule is.race;
    common = is.common;
    first_is = is.first_is;
    first_site_is = is.first_site_is;
    second_is = is.second_is;
    second_site_is = is.second_site_is;
    memory_is = is.memory_is;
  }

module _ (ranks : List RankCalls) (in_order : AreInOrder ranks) (lists others : Spans) (are : AreRunCalls ranks lists) (also : AreRunCalls ranks others) where
  -- of a rank of the run
  pub same_of_rank : (rank : Rank) (own : RankCalls) → slice_get ranks rank.0 ≡ Some own → HaveSame lists others rank
  same_of_rank rank own there =
      let is : own.rank ≡ rank = ap (λ (r : ℕ). let it : Rank = record { 0 = r } in it) (in_order rank.0 own there) in
      let first = are rank.0 own there in
      let second = also rank.0 own there in
      subst (HaveSame lists others) is (record { publishing = λ window. first.publishing window ∙ sym (second.publishing window); visible = λ window. first.visible window ∙ sym (second.visible window) })

  -- of a rank whose memory an access touches
  have_same : (a : Access) → Contains (accesses ranks) a → HaveSame lists others a.memory
  have_same a has = let (own, there) = memory_in_order ranks in_order a has in same_of_rank a.memory own there

module _ (ranks : List RankCalls) (in_order : AreInOrder ranks) (links : Links) (windows : List Window) (lists others : Spans) (are : AreRunCalls ranks lists) (also : AreRunCalls ranks others) where
  pub found_in : (found : FoundRace) → IsFound links windows lists (accesses ranks) found → IsFound links windows others (accesses ranks) found
  found_in found is = record {
    a = is.a;
    b = is.b;
    has_a = is.has_a;
    has_b = is.has_b;
    is = found_of links windows lists others is.a is.b (have_same ranks in_order others lists also are is.a is.has_a) (have_same ranks in_order others lists also are is.b is.has_b) found is.is;
  }

-- races with the one lists are races with the others
races_with : (ranks : List RankCalls) → AreInOrder ranks → (links : Links) (windows : List Window) (lists others : Spans) → AreRunCalls ranks lists → AreRunCalls ranks others → (found : List FoundRace)
    → AreRaces links windows lists (accesses ranks) found → AreRaces links windows others (accesses ranks) found
races_with ranks in_order links windows lists others are also found races = record {
  only = λ race has. found_in ranks in_order links windows lists others are also race (races.only race has);
  all = λ race is. races.all race (found_in ranks in_order links windows others lists also are race is);
  ascend = races.ascend;
}

-- ---- epochs

module _ (ranks : List RankCalls) (lists others : Spans) (are : AreListsOf ranks lists) (also : AreListsOf ranks others) where
  same_exposures : lists.exposures ≡ others.exposures
  same_exposures = are.exposures ∙ sym also.exposures

  same_locks : lists.locks ≡ others.locks
  same_locks = are.locks ∙ sym also.locks

  same_posts : lists.posts ≡ others.posts
  same_posts = are.posts ∙ sym also.posts

  exposed_with : (links : Links) (windows : List Window) (found : List ExposedLock) → AreExposed links windows lists found → AreExposed links windows others found
  exposed_with links windows found all =
      subst (λ (exposures : List Exposure). AreAll lock_order (IsOfSome (IsExposedBy links windows) others.locks exposures) found) same_exposures
      (subst (λ (locks : List LockSpan). AreAll lock_order (IsOfSome (IsExposedBy links windows) locks lists.exposures) found) same_locks all)

  doubled_with : (windows : List Window) (found : List DoubledPost) → AreDoubled windows lists found → AreDoubled windows others found
  doubled_with windows found all =
      subst (λ (exposures : List Exposure). AreAll post_order (IsOfSome (IsDoubledBy windows) others.posts exposures) found) same_exposures
      (subst (λ (posts : List Post). AreAll post_order (IsOfSome (IsDoubledBy windows) posts lists.exposures) found) same_posts all)

-- ---- what is found

pub one_pairs : (ranks : List RankCalls) (found others : List Finding) → AreInOrder ranks → ArePairs ranks found → ArePairs ranks others → found ≡ others
one_pairs ranks found others in_order one two =
    let links = links_of ranks in
    let windows = windows_by (creations ranks) in
    let races : one.races ≡ two.races =
    are_one_list links windows two.lists (accesses ranks) one.races two.races (races_with ranks in_order links windows one.lists two.lists one.lists_are.calls two.lists_are.calls one.races one.races_are) two.races_are in
    let exposed : one.exposed ≡ two.exposed =
    all_once lock_order lock_is_order (IsExposed links windows two.lists) one.exposed two.exposed (exposed_with ranks one.lists two.lists one.lists_are two.lists_are links windows one.exposed one.exposed_are) two.exposed_are in
    let doubled : one.doubled ≡ two.doubled =
    all_once post_order post_is_order (IsDoubled windows two.lists) one.doubled two.doubled (doubled_with ranks one.lists two.lists one.lists_are two.lists_are windows one.doubled one.doubled_are) two.doubled_are in
    one.found_are ∙ (λ k. pair_findings (races k) (exposed k) (doubled k)) ∙ sym two.found_are
