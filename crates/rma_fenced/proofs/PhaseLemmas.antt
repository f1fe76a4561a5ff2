-- The phases in which accesses stand, with one more.
use Rattle.std.proofs.Common.{◌≡◌, ℕ, ◌+◌, ◌≤◌, Bool, true, false, ◌||◌, ◌∷◌, ◌++◌, List, [], length, take, take_all, drop, Option, Some, None, slice_get, refl, sym, ap, subst, ◌∙◌, arith, append-nil, length-append}
use Rattle.std.specs.Prelude.{option_map}
use Rattle.std.specs.List.{cons_option, filter_map, list_any}
use Rattle.std.specs.Option.{option_and_then}
use Rattle.std.proofs.lemmas.Bool.Decides.{nat_tests}
use Rattle.std.proofs.lemmas.List.{take-append-drop}
use Rattle.std.proofs.lemmas.List.Folds.{list_any-append}
use Rattle.rma_base.specs.declared.rank.Rank.{Rank}
use Rattle.rma_call.specs.Call.{Call, CallTable}
use Rattle.rma_open.specs.declared.opening.EpochKind.{EpochKind}
use Rattle.rma_open.specs.declared.opening.EpochKind.TheVariants as kind
use Rattle.rma_epoch.specs.declared.epoch.Epoch.{Epoch}
use Rattle.rma_epoch.specs.declared.epoch.Placed.{Placed}
use Rattle.rma_epoch.specs.Table.{AreEpochs, Epochs, epochs_of, sound_calls}
use Rattle.rma_epoch.proofs.SoundLemmas.{sound_first}
use Rattle.rma_run.proofs.WalkLemmas.{filter_map_taken}
use Rattle.rma_window.specs.Windows.{Window}
use Rattle.rma_fenced.specs.declared.phase.AccessKey.{AccessKey}
use Rattle.rma_fenced.specs.declared.phase.Phase.{Phase}
use Rattle.rma_fenced.specs.Fenced.{HasSame, accessed_phases, if_fence, is_accessed, is_phase_of, phase_at, phase_in, phase_of_access, target_at}
use Rattle.rma_fenced.specs.inside.Keys.{IsListed, is_fence, key_of, phase_by}

-- ---- the sound calls

pub sound_within : (windows : List Window) (table : CallTable) (own : Epochs) → AreEpochs windows table own → own.sound ≤ length table.calls
sound_within windows table own are =
    let n = length (sound_calls windows table.calls) in
    let parts : length (take n table.calls) + length (drop n table.calls) ≡ length table.calls = sym (length-append (take n table.calls) (drop n table.calls)) ∙ ap length (take-append-drop n table.calls) in
    let first : n ≡ length (take n table.calls) = ap length (sound_first windows table.calls) in
    let all = are.sound in
    omega arith

pub sound_taken : (windows : List Window) (table : CallTable) (own : Epochs) → AreEpochs windows table own → take own.sound table.calls ≡ sound_calls windows table.calls
sound_taken windows table own are = ap (λ n. take n table.calls) are.sound ∙ sym (sound_first windows table.calls)

-- ---- the same phases

pub same_after : (new old base more : List Phase) → HasSame new (old ++ more) → HasSame old base → HasSame new (base ++ more)
same_after new old base more h k = λ target fence.
    let p = is_phase_of target fence in
    h target fence
    ∙ list_any-append p old more
    ∙ ap (λ b. b || list_any p more) (k target fence)
    ∙ sym (list_any-append p base more)

pub same_with_none : (phases : List Phase) → HasSame phases (phases ++ [])
same_with_none phases = λ target fence. ap (λ l. is_accessed l target fence) (sym (append-nil phases))

or_known : (a b : Bool) → (b ≡ true → a ≡ true) → a ≡ (a || (b || false))
or_known true b known = refl
or_known false true known = known refl
or_known false false known = refl

-- a phase that is one of these adds nothing
pub same_with_listed : (phases : List Phase) (phase : Option Phase) → IsListed phases phase → HasSame phases (phases ++ cons_option phase [])
same_with_listed phases None is = same_with_none phases
same_with_listed phases (Some own) is = λ target fence.
    or_known (is_accessed phases target fence) (is_phase_of target fence own)
    (λ test.
    let targets : own.target.0 ≡ target = grind (arith, nat_tests) in
    let fences : own.fence ≡ fence = grind (arith, nat_tests) in
    subst (λ n. is_accessed phases target n ≡ true) fences (subst (λ n. is_accessed phases n own.fence ≡ true) targets is))
    ∙ sym (list_any-append (is_phase_of target fence) phases (own ∷ []))

-- ---- the phase of an access, by its key

module _ (calls : ℕ → List Call) (rank : Rank) where
  no_phase : (own : EpochKind) (phase : Option Phase) → is_fence own ≡ false → if_fence own phase ≡ None
  no_phase kind.Fence phase is = absurd (let no : ⊥ = cc in no)
  no_phase kind.Start phase is = refl
  no_phase (kind.Lock exclusive) phase is = refl
  no_phase kind.LockAll phase is = refl
  no_phase kind.Post phase is = refl

  none_then : {X Y : Type 0} (f : X → Option Y) → ((x : X) → f x ≡ None) → (o : Option X) → None ≡ option_and_then f o
  none_then f none None = refl
  none_then f none (Some x) = sym (none x)

  through : (epochs : List Epoch) (index : ℕ) (o : Option Rank) → option_and_then (phase_by calls rank epochs) (option_map (λ target. record { epoch = index; target = target }) o) ≡ option_and_then (phase_at calls rank epochs index) o
  through epochs index None = refl
  through epochs index (Some target) = refl

  pub key_is : (epochs : List Epoch) (sound : List Call) (placed : Placed) → option_and_then (phase_by calls rank epochs) (key_of epochs sound placed) ≡ phase_of_access calls rank epochs sound placed
  key_is epochs sound placed = by (slice_get epochs placed.epoch) refl
    where
      in_phase : (epoch : Epoch) → slice_get epochs placed.epoch ≡ Some epoch → (b : Bool) → is_fence epoch.kind ≡ b
          → option_and_then (phase_by calls rank epochs) (key_of epochs sound placed) ≡ phase_of_access calls rank epochs sound placed
      in_phase epoch there true is = rw (there, is) (through epochs placed.epoch (target_at sound placed.call))
      in_phase epoch there false is =
          rw (there, is) (none_then (phase_at calls rank epochs placed.epoch) (λ target. ap (option_and_then (λ e. phase_in calls rank e target)) there ∙ no_phase epoch.kind _ is) (target_at sound placed.call))

      by : (o : Option Epoch) → slice_get epochs placed.epoch ≡ o → option_and_then (phase_by calls rank epochs) (key_of epochs sound placed) ≡ phase_of_access calls rank epochs sound placed
      by None there = rw there (none_then (phase_at calls rank epochs placed.epoch) (λ target. ap (option_and_then (λ e. phase_in calls rank e target)) there) (target_at sound placed.call))
      by (Some epoch) there = in_phase epoch there (is_fence epoch.kind) refl

  -- one more access
  pub same_more : (epochs : List Epoch) (sound : List Call) (new old base : List Phase) (all : List Placed) (i : ℕ) (placed : Placed) (key : Option AccessKey) → slice_get all i ≡ Some placed → key ≡ key_of epochs sound placed
      → HasSame new (old ++ cons_option (option_and_then (phase_by calls rank epochs) key) [])
      → HasSame old (base ++ filter_map (phase_of_access calls rank epochs sound) (take i all))
      → HasSame new (base ++ filter_map (phase_of_access calls rank epochs sound) (take (i + 1) all))
  same_more epochs sound new old base all i placed key there is h k =
      let f = phase_of_access calls rank epochs sound in
      let own : option_and_then (phase_by calls rank epochs) key ≡ f placed = ap (option_and_then (phase_by calls rank epochs)) is ∙ key_is epochs sound placed in
      let step : HasSame new (old ++ cons_option (f placed) []) = subst (λ o. HasSame new (old ++ cons_option o [])) own h in
      subst (HasSame new) (filter_map_taken f all i placed base there) (same_after new old (base ++ filter_map f (take i all)) (cons_option (f placed) []) step k)

  accessed_are : (windows : List Window) (table : CallTable) (own : Epochs) → AreEpochs windows table own
      → filter_map (phase_of_access calls rank own.epochs (take own.sound table.calls)) own.placed ≡ accessed_phases calls windows rank (sound_calls windows table.calls)
  accessed_are windows table own are =
      let sound = sound_calls windows table.calls in
      ap (λ l. filter_map (phase_of_access calls rank own.epochs l) own.placed) (sound_taken windows table own are)
      ∙ ap (λ epochs. filter_map (phase_of_access calls rank epochs sound) own.placed) are.epochs
      ∙ ap (filter_map (phase_of_access calls rank (epochs_of windows sound) sound)) are.placed

  -- all of them
  pub same_all : (windows : List Window) (table : CallTable) (own : Epochs) → AreEpochs windows table own
      → (sound : ℕ) (epochs : List Epoch) (all : List Placed) (i : ℕ) → sound ≡ own.sound → epochs ≡ own.epochs → all ≡ own.placed → length all ≤ i
      → (new old listed : List Phase) → HasSame new (old ++ filter_map (phase_of_access calls rank epochs (take sound table.calls)) (take i all)) → HasSame old listed
      → HasSame new (listed ++ accessed_phases calls windows rank (sound_calls windows table.calls))
  same_all windows table own are sound epochs all i same_sound same_epochs same_placed end new old listed h k =
      let f = λ (n : ℕ) (es : List Epoch). filter_map (phase_of_access calls rank es (take n table.calls)) in
      let more : f sound epochs (take i all) ≡ accessed_phases calls windows rank (sound_calls windows table.calls) =
      ap (f sound epochs) (take_all i all end)
      ∙ ap (f sound epochs) same_placed
      ∙ ap (λ es. f sound es own.placed) same_epochs
      ∙ ap (λ n. f n own.epochs own.placed) same_sound
      ∙ accessed_are windows table own are in
      subst (λ l. HasSame new (listed ++ l)) more (same_after new old listed (f sound epochs (take i all)) h k)
