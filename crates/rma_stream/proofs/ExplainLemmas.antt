-- The race that a finding is, and the cuts that explain it.
use Rattle.std.proofs.Common.{◌≡◌, ◌++◌, ◌-◌, ℕ, zero, suc, List, [], ◌∷◌, map, Option, Some, None, option_map, slice_get, refl, sym, ap, subst, ◌∙◌, append_assoc}
use Rattle.std.specs.List.{cons_option, filter_map}
use Rattle.std.specs.Prelude.{Contains, length}
use Rattle.std.proofs.lemmas.Option.{none-some, same_Some}
use Rattle.rma_call.specs.Call.{RankCalls}
use Rattle.rma_concurrent.proofs.ListLemmas.{contained}
use Rattle.rma_cut.specs.declared.cuts.Cuts.{Cuts}
use Rattle.rma_epoch.specs.Fault.{fault_of}
use Rattle.rma_epoch.specs.declared.fault.EpochFault.{EpochFault}
use Rattle.rma_explain.specs.Explanation.{AreCutsOf}
use Rattle.rma_explain.proofs.OneLemmas.{one_explanation}
use Rattle.rma_finding.specs.declared.finding.DoubledPost.{DoubledPost}
use Rattle.rma_finding.specs.declared.finding.ExposedLock.{ExposedLock}
use Rattle.rma_finding.specs.declared.finding.FoundRace.{FoundRace}
use Rattle.rma_finding.specs.declared.finding.PairFinding.TheVariants.{Race, Exposed, Doubled}
use Rattle.rma_kept.specs.Kept.{AreKept}
use Rattle.rma_order.specs.RunLinks.{links_of}
use Rattle.rma_pairs.specs.Races.{IsFound}
use Rattle.rma_report.specs.declared.finding.Finding.{Finding}
use Rattle.rma_report.specs.declared.finding.Finding.TheVariants.{Epoch, Pair}
use Rattle.rma_rules.specs.Spans.{Spans}
use Rattle.rma_run.specs.Run.{AreInOrder, lens_of}
use Rattle.rma_span.specs.Span.{accesses}
use Rattle.rma_window.specs.Creation.{creations}
use Rattle.rma_window.specs.Windows.{Window, windows_by}
use Rattle.rma_accesses.specs.Run.{AreListsOf}
use Rattle.rma_stream.specs.Explained.{AreCutsAt, race_at, race_of}
use Rattle.rma_stream.specs.Findings.{AreFaults, epoch_faults, epoch_finding, pair_findings}
use Rattle.rma_stream.proofs.PairLemmas.{found_in}

-- ---- a finding that is a race

-- of what is found of epochs and of pairs the races alone are races
abbrev HasNone : List Finding → Type 0
HasNone found = (i : ℕ) → race_of (slice_get found i) ≡ None

none_of_map : {X : Type 0} (f : X → Finding) → ((x : X) → race_of (Some (f x)) ≡ None) → (xs : List X) → HasNone (map f xs)
none_of_map f none [] i = refl
none_of_map f none (x ∷ xs) zero = none x
none_of_map f none (x ∷ xs) (suc i) = none_of_map f none xs i

none_of_both : (xs ys : List Finding) → HasNone xs → HasNone ys → HasNone (xs ++ ys)
none_of_both [] ys none also i = also i
none_of_both (x ∷ xs) ys none also zero = none 0
none_of_both (x ∷ xs) ys none also (suc i) = none_of_both xs ys (λ j. none (suc j)) also i

none_of_epochs : (windows : List Window) (ranks : List RankCalls) → HasNone (filter_map (epoch_finding windows) ranks)
none_of_epochs windows [] i = refl
none_of_epochs windows (own ∷ ranks) i = by (none_of_epochs windows ranks) (fault_of windows own) i
  where
    by : HasNone (filter_map (epoch_finding windows) ranks) → (fault : Option EpochFault) → HasNone (cons_option (option_map (λ (it : EpochFault). Epoch own.rank it.line it.reason) fault) (filter_map (epoch_finding windows) ranks))
    by later None j = later j
    by later (Some fault) zero = refl
    by later (Some fault) (suc j) = later j

-- so a race that stands behind them stands among those
race_behind : (xs ys : List Finding) (i : ℕ) (race : FoundRace) → HasNone xs → race_of (slice_get (xs ++ ys) i) ≡ Some race → (j : ℕ) × (race_of (slice_get ys j) ≡ Some race)
race_behind [] ys i race none at = (i, at)
race_behind (x ∷ xs) ys zero race none at = absurd (none-some race (sym (none 0) ∙ at))
race_behind (x ∷ xs) ys (suc i) race none at = race_behind xs ys i race (λ j. none (suc j)) at

race_in_front : (races : List FoundRace) (ys : List Finding) (i : ℕ) (race : FoundRace) → HasNone ys → race_of (slice_get (map (λ (it : FoundRace). Pair (Race it)) races ++ ys) i) ≡ Some race
    → (j : ℕ) × (slice_get races j ≡ Some race)
race_in_front [] ys i race none at = absurd (none-some race (sym (none i) ∙ at))
race_in_front (first ∷ races) ys zero race none at = (0, at)
race_in_front (first ∷ races) ys (suc i) race none at = let (j, there) = race_in_front races ys i race none at in (suc j, there)

-- the race that a finding is was found of two accesses, beside the lists of the run
pub chosen_is_found : (ranks : List RankCalls) → AreInOrder ranks → (lists : Spans) → AreListsOf ranks lists → (found : List Finding) → AreFaults ranks found → (number : ℕ) (race : FoundRace)
    → race_at found number ≡ Some race → IsFound (links_of ranks) (windows_by (creations ranks)) lists (accesses ranks) race
chosen_is_found ranks in_order lists lists_are found (pairs, are, is) number race at =
    let windows = windows_by (creations ranks) in
    let whole : found ≡ epoch_faults ranks ++ pair_findings are.races are.exposed are.doubled = is ∙ ap (λ (them : List Finding). epoch_faults ranks ++ them) are.found_are in
    let there : race_at (epoch_faults ranks ++ pair_findings are.races are.exposed are.doubled) number ≡ Some race = sym (ap (λ (them : List Finding). race_at them number) whole) ∙ at in
    let (i, in_pairs) = race_behind (epoch_faults ranks) (pair_findings are.races are.exposed are.doubled) (number - 1) race (none_of_epochs windows ranks) there in
    let exposed = map (λ (lock : ExposedLock). Pair (Exposed lock)) are.exposed in
    let doubled = map (λ (post : DoubledPost). Pair (Doubled post)) are.doubled in
    let none = none_of_both exposed doubled (none_of_map (λ (lock : ExposedLock). Pair (Exposed lock)) (λ lock. refl) are.exposed) (none_of_map (λ (post : DoubledPost). Pair (Doubled post)) (λ post. refl) are.doubled) in
    let races = map (λ (it : FoundRace). Pair (Race it)) are.races in
    let (j, among) = race_in_front are.races (exposed ++ doubled) i race none (sym (ap (λ (them : List Finding). race_of (slice_get them i)) (append_assoc races exposed doubled)) ∙ in_pairs) in
    found_in ranks in_order (links_of ranks) windows are.lists lists are.lists_are.calls lists_are.calls race (are.races_are.only race (contained are.races j race among))

-- ---- one explanation

-- the logs of a run are good, where it has a race
abbrev pub AreGoodLogs : List RankCalls → Type 0
AreGoodLogs ranks = AreInOrder ranks × ((own : RankCalls) → Contains ranks own → AreKept own.rank.0 (length ranks) own.calls)

pub one_cuts : (ranks : List RankCalls) (found : List Finding) (number : ℕ) → ((race : FoundRace) → race_at found number ≡ Some race → AreGoodLogs ranks) → (cuts other : Option Cuts)
    → AreCutsAt ranks found number cuts → AreCutsAt ranks found number other → cuts ≡ other
one_cuts ranks found number good None None none also = refl
one_cuts ranks found number good None (Some other) none (race, lists, at, lists_are, are) = absurd (none-some race (sym none ∙ at))
one_cuts ranks found number good (Some cuts) None (race, lists, at, lists_are, are) none = absurd (none-some race (sym none ∙ at))
one_cuts ranks found number good (Some cuts) (Some other) (race, lists, at, lists_are, are) (race_too, others, at_too, others_are, are_too) =
    let same : race_too ≡ race = same_Some race_too race (sym at_too ∙ at) in
    let links = links_of ranks in
    let lens = lens_of ranks in
    let windows = windows_by (creations ranks) in
    let logs = good race at in
    ap Some (one_explanation ranks links lens windows lists others race cuts other logs.0 logs.1 lists_are.calls others_are.calls are (subst (λ (it : FoundRace). AreCutsOf links lens windows others (accesses ranks) it other) same are_too))
