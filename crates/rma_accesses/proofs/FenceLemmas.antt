-- The exposures of a run between fences.
use Rattle.std.proofs.Common.{◌≡◌, ℕ, ◌+◌, ◌≤◌, List, [], ◌∷◌, ◌++◌, Some, length, take, slice_get, refl, sym, ap, subst, ◌∙◌, append_assoc}
use Rattle.std.specs.List.{flat_map}
use Rattle.std.proofs.lemmas.List.{take_all}
use Rattle.rma_call.specs.Call.{Call, RankCalls}
use Rattle.rma_base.specs.declared.rank.Rank.{Rank}
use Rattle.rma_epoch.specs.Table.{sound_calls}
use Rattle.rma_run.specs.Run.{calls_of}
use Rattle.rma_run.proofs.WalkLemmas.{flat_map_taken}
use Rattle.rma_rules.specs.Spans.{Spans}
use Rattle.rma_window.specs.Creation.{creations}
use Rattle.rma_window.specs.Windows.{Window, windows_by}
use Rattle.rma_fenced.specs.declared.phase.Phase.{Phase}
use Rattle.rma_fenced.specs.Fenced.{HasSame, accessed_by, accessed_in, accessed_phases, with_fenced}
use Rattle.rma_fenced.proofs.FenceLemmas.{same_fenced}
use Rattle.rma_accesses.specs.Run.{AreListsOf, own_exposures, own_fenced}
use Rattle.rma_accesses.specs.inside.Listing.{ArePosted, with_fences}

-- the phases with those of one rank more
pub one_more : (ranks owns : List RankCalls) (windows : List Window) (i : ℕ) (own : RankCalls) (rank : Rank) (calls : List Call) (phases : List Phase) → slice_get owns i ≡ Some own
    → rank ≡ own.rank → calls ≡ own.calls → HasSame phases (flat_map (accessed_by ranks windows) (take i owns) ++ accessed_phases (calls_of ranks) windows rank (sound_calls windows calls))
    → HasSame phases (flat_map (accessed_by ranks windows) (take (i + 1) owns))
one_more ranks owns windows i own rank calls phases there by_rank by_calls same =
    let before = flat_map (accessed_by ranks windows) (take i owns) in
    let one = subst (λ (r : Rank). HasSame phases (before ++ accessed_phases (calls_of ranks) windows r (sound_calls windows calls))) by_rank same in
    let two = subst (λ (cs : List Call). HasSame phases (before ++ accessed_phases (calls_of ranks) windows own.rank (sound_calls windows cs))) by_calls one in
    subst (HasSame phases) (flat_map_taken (accessed_by ranks windows) owns i own there) two

-- the phases of all ranks
pub all_phases : (ranks owns : List RankCalls) (windows : List Window) (i : ℕ) (phases : List Phase) → owns ≡ ranks → windows ≡ windows_by (creations ranks) → length owns ≤ i
    → HasSame phases (flat_map (accessed_by ranks windows) (take i owns)) → HasSame phases (accessed_in ranks)
all_phases ranks owns windows i phases by_owns by_windows all same =
    let whole = subst (λ (l : List RankCalls). HasSame phases (flat_map (accessed_by ranks windows) l)) (take_all i owns all) same in
    let of_ranks = subst (λ (l : List RankCalls). HasSame phases (flat_map (accessed_by ranks windows) l)) by_owns whole in
    subst (λ (ws : List Window). HasSame phases (flat_map (accessed_by ranks ws) ranks)) by_windows of_ranks

-- the exposures with those of one rank more
pub fences_more : (spans : Spans) (phases : List Phase) (windows : List Window) (owns : List RankCalls) (i : ℕ) (own : RankCalls) (rank : Rank) (calls : List Call) (before after : Spans)
    → slice_get owns i ≡ Some own → rank ≡ own.rank → calls ≡ own.calls → before ≡ with_fences spans phases windows (take i owns)
    → after ≡ with_fenced before phases windows rank (sound_calls windows calls) → after ≡ with_fences spans phases windows (take (i + 1) owns)
fences_more spans phases windows owns i own rank calls before after there by_rank by_calls first more =
    more
    ∙ ap (λ (s : Spans). with_fenced s phases windows rank (sound_calls windows calls)) first
    ∙ ap (λ (r : Rank). with_fenced (with_fences spans phases windows (take i owns)) phases windows r (sound_calls windows calls)) by_rank
    ∙ ap (λ (cs : List Call). with_fenced (with_fences spans phases windows (take i owns)) phases windows own.rank (sound_calls windows cs)) by_calls
    ∙ ap (λ l. record spans { exposures = l })
    (append_assoc spans.exposures (flat_map (own_fenced phases windows) (take i owns)) (own_fenced phases windows own)
    ∙ ap (λ l. spans.exposures ++ l) (flat_map_taken (own_fenced phases windows) owns i own there))

-- a map to lists by what is the same at each element
same_lists : {X Y : Type 0} (f g : X → List Y) → ((x : X) → f x ≡ g x) → (xs : List X) → flat_map f xs ≡ flat_map g xs
same_lists f g same [] = refl
same_lists f g same (x ∷ xs) = ap (λ l. l ++ flat_map f xs) (same x) ∙ ap (λ l. g x ++ l) (same_lists f g same xs)

-- the lists of a run with the exposures between fences
pub all_lists : (ranks owns : List RankCalls) (windows : List Window) (phases : List Phase) (old new : Spans) → owns ≡ ranks → windows ≡ windows_by (creations ranks) → HasSame phases (accessed_in ranks)
    → new ≡ with_fences old phases windows owns → ArePosted ranks old → AreListsOf ranks new
all_lists ranks owns windows phases old new by_owns by_windows same is posted =
    let ws = windows_by (creations ranks) in
    let here : new ≡ with_fences old phases ws ranks = is ∙ ap (λ (l : List RankCalls). with_fences old phases windows l) by_owns ∙ ap (λ (w : List Window). with_fences old phases w ranks) by_windows in
    subst (AreListsOf ranks) (sym here)
    (record {
      calls = λ i own there. record { publishing = (posted.calls i own there).publishing; visible = (posted.calls i own there).visible };
      exposures = ap (λ l. l ++ flat_map (own_fenced phases ws) ranks) posted.exposures
          ∙ ap (λ l. flat_map (own_exposures ws) ranks ++ l) (same_lists (own_fenced phases ws) (own_fenced (accessed_in ranks) ws) (λ own. same_fenced phases (accessed_in ranks) ws own.rank same [] (sound_calls ws own.calls)) ranks);
      locks = posted.locks;
      posts = posted.posts;
    })
