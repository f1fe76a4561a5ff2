-- The lists of a run, rank by rank.
use Rattle.std.proofs.Common.{◌≡◌, ◌≢◌, ℕ, ◌+◌, ◌≤◌, List, [], ◌++◌, Some, map, take, length, slice_get, refl, sym, ap, subst, ◌∙◌, inl, inr, arith}
use Rattle.std.specs.List.{flat_map}
use Rattle.std.proofs.lemmas.Bool.{cases_eq}
use Rattle.std.proofs.lemmas.List.{take_all}
use Rattle.std.proofs.lemmas.Option.{slice_get_within}
use Rattle.rma_call.specs.Call.{Call, RankCalls}
use Rattle.rma_run.specs.Run.{AreInOrder}
use Rattle.rma_run.proofs.WalkLemmas.{flat_map_taken}
use Rattle.rma_rules.specs.Spans.{Spans}
use Rattle.rma_visibility.specs.Visibility.{AreListed}
use Rattle.rma_window.specs.Creation.{creations}
use Rattle.rma_window.specs.Windows.{Window, windows_by}
use Rattle.rma_accesses.specs.declared.epochs.RunEpochs.{RunEpochs}
use Rattle.rma_accesses.specs.Run.{AreEpochsOf, own_exposures, own_locks, own_of, own_posts}
use Rattle.rma_accesses.specs.inside.Listing.{AreFirst, ArePosted, HasMore, IsListed}

abbrev pub no_spans : Spans
no_spans = record { publishing = []; visible = []; exposures = []; locks = []; posts = [] }

-- nothing is listed at first
pub first_none : (windows : List Window) (ranks : List RankCalls) → AreFirst windows ranks 0 no_spans
first_none windows ranks = record {
  listed = λ i own there lt. absurd (omega (arith, lt));
  unlisted = λ i own there le. record { publishing = λ window. refl; visible = λ window. refl };
  exposures = refl;
  locks = refl;
  posts = refl;
}

-- what is listed of another rank stays
other_stays : {windows : List Window} (own other : RankCalls) (calls : List Call) (old new : Spans) → HasMore windows own old new → other.rank ≢ own.rank
    → AreListed windows other.rank calls old → AreListed windows other.rank calls new
other_stays own other calls old new more apart held = record {
  publishing = λ window. more.publishing other.rank window apart ∙ held.publishing window;
  visible = λ window. more.visible other.rank window apart ∙ held.visible window;
}

-- logs at two places are of two ranks
two_ranks : (ranks : List RankCalls) (i j : ℕ) (own other : RankCalls) → AreInOrder ranks → slice_get ranks i ≡ Some own → slice_get ranks j ≡ Some other → j ≢ i → other.rank ≢ own.rank
two_ranks ranks i j own other order there at apart same = apart (sym (order j other at) ∙ ap (λ r. r.0) same ∙ order i own there)

-- one rank more
pub first_more : (windows : List Window) (ranks : List RankCalls) (i : ℕ) (own : RankCalls) (old new : Spans) → AreInOrder ranks → slice_get ranks i ≡ Some own
    → AreFirst windows ranks i old → IsListed windows own new → HasMore windows own old new → AreFirst windows ranks (i + 1) new
first_more windows ranks i own old new order there first is more = record {
  listed = λ j other at lt. elim (cases_eq j i) [
    | inl same ↦ let both : Some other ≡ Some own = sym (subst (λ k. slice_get ranks k ≡ Some other) same at) ∙ there in let e : own ≡ other = cc in subst (λ o. IsListed windows o new) e is
    | inr apart ↦ other_stays own other _ old new more (two_ranks ranks i j own other order there at apart) (first.listed j other at (omega arith))
  ];
  unlisted = λ j other at le. other_stays own other _ old new more (two_ranks ranks i j own other order there at (λ same. absurd (omega arith))) (first.unlisted j other at (omega arith));
  exposures = more.exposures ∙ ap (λ l. l ++ own_exposures windows own) first.exposures ∙ flat_map_taken (own_exposures windows) ranks i own there;
  locks = more.locks ∙ ap (λ l. l ++ own_locks windows own) first.locks ∙ flat_map_taken (own_locks windows) ranks i own there;
  posts = more.posts ∙ ap (λ l. l ++ own_posts windows own) first.posts ∙ flat_map_taken (own_posts windows) ranks i own there;
}

-- all ranks are listed
pub all_listed : (given : RunEpochs) (count : ℕ) (spans : Spans) (ranks : List RankCalls) → AreEpochsOf ranks given → length (map own_of given.ranks.items) ≤ count
    → AreFirst given.windows (map own_of given.ranks.items) count spans → ArePosted ranks spans
all_listed given count spans ranks are all first =
    let by_ranks = subst (λ (l : List RankCalls). AreFirst given.windows l count spans) are.owns first in
    let by_windows = subst (λ (ws : List Window). AreFirst ws ranks count spans) are.windows by_ranks in
    let many : length ranks ≤ count = subst (λ (l : List RankCalls). length l ≤ count) are.owns all in
    let whole : take count ranks ≡ ranks = take_all count ranks many in
    let windows = windows_by (creations ranks) in
    record {
      calls = λ i own there. by_windows.listed i own there (let within = slice_get_within ranks i own there in omega (arith, within, many));
      exposures = by_windows.exposures ∙ ap (flat_map (own_exposures windows)) whole;
      locks = by_windows.locks ∙ ap (flat_map (own_locks windows)) whole;
      posts = by_windows.posts ∙ ap (flat_map (own_posts windows)) whole;
    }
