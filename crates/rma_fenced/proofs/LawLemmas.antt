-- The phases in which accesses stand, by the accesses.
use Rattle.std.proofs.Common.{◌≡◌, ℕ, Bool, true, false, ◌||◌, ◌&&◌, ◌∷◌, List, [], Option, Some, None, slice_get, eqb, refl, sym, ap, subst, ◌∙◌, arith}
use Rattle.std.specs.Prelude.{Contains, option_map}
use Rattle.std.specs.List.{list_any}
use Rattle.std.specs.Option.{option_and_then}
use Rattle.std.proofs.lemmas.Bool.Decides.{nat_tests}
use Rattle.rma_base.specs.declared.rank.Rank.{Rank}
use Rattle.rma_call.specs.Call.{Call, RankCalls}
use Rattle.rma_call.specs.declared.rma.RmaCall.{RmaCall}
use Rattle.rma_call.specs.declared.what.What.{What}
use Rattle.rma_call.specs.declared.what.What.TheVariants.{Sync, Rma, Local}
use Rattle.rma_round.specs.Round.{partner_of}
use Rattle.rma_run.specs.Run.{calls_of}
use Rattle.rma_run.proofs.ContainLemmas.{filter_map_has, first_or_later, flat_map_has, has_first, has_later, in_filter_map, in_flat_map}
use Rattle.rma_open.specs.declared.opening.EpochKind.{EpochKind}
use Rattle.rma_open.specs.declared.opening.EpochKind.TheVariants as kind
use Rattle.rma_epoch.specs.declared.epoch.Epoch.{Epoch}
use Rattle.rma_epoch.specs.declared.epoch.Placed.{Placed}
use Rattle.rma_epoch.specs.Table.{epochs_of, placed_of}
use Rattle.rma_fenced.specs.declared.phase.Phase.{Phase}
use Rattle.rma_fenced.specs.Fenced.{accessed_by, accessed_in, if_fence, is_accessed, is_phase_of, phase_at, phase_in, phase_of_access, target_at, target_of}
use Rattle.rma_fenced.specs.Laws.{IsAccessed, sound_of, windows_of}

-- ---- what values come from

module _ {X Y : Type 0} where
  pub chained : (f : X → Option Y) (o : Option X) (y : Y) → option_and_then f o ≡ Some y → (x : X) × (o ≡ Some x) × (f x ≡ Some y)
  chained f None y is = absurd (let no : ⊥ = cc in no)
  chained f (Some x) y is = (x, refl, is)

  mapped : (f : X → Y) (o : Option X) (y : Y) → option_map f o ≡ Some y → (x : X) × (o ≡ Some x) × (f x ≡ y)
  mapped f None y is = absurd (let no : ⊥ = cc in no)
  mapped f (Some x) y is = (x, refl, cc)

in_phase : {X : Type 0} (own : EpochKind) (o : Option X) (x : X) → if_fence own o ≡ Some x → (own ≡ kind.Fence) × (o ≡ Some x)
in_phase kind.Fence o x is = (refl, is)
in_phase kind.Start o x is = absurd (let no : ⊥ = cc in no)
in_phase (kind.Lock exclusive) o x is = absurd (let no : ⊥ = cc in no)
in_phase kind.LockAll o x is = absurd (let no : ⊥ = cc in no)
in_phase kind.Post o x is = absurd (let no : ⊥ = cc in no)

to_target : (what : What) (target : Rank) → target_of what ≡ Some target → (access : RmaCall) × (what ≡ Rma access) × (access.target ≡ Some target)
to_target (Rma access) target is = (access, refl, is)
to_target (Sync call) target is = absurd (let no : ⊥ = cc in no)
to_target (Local call) target is = absurd (let no : ⊥ = cc in no)

-- ---- tests of lists

module _ {X : Type 0} (p : X → Bool) where
  passes : (xs : List X) → list_any p xs ≡ true → (x : X) × Contains xs x × (p x ≡ true)
  passes [] is = absurd (let no : ⊥ = cc in no)
  passes (x ∷ xs) is = by (p x) refl is (passes xs)
    where
      by : (b : Bool) → p x ≡ b → (b || list_any p xs) ≡ true → (list_any p xs ≡ true → (y : X) × Contains xs y × (p y ≡ true)) → (y : X) × Contains (x ∷ xs) y × (p y ≡ true)
      by true test is rest = (x, has_first x xs, test)
      by false test is rest = let one = rest is in (one.0, has_later x one.0 xs one.1, one.2)

  or_right : (b : Bool) → (b || true) ≡ true
  or_right true = refl
  or_right false = refl

  passes_one : (xs : List X) (x : X) → Contains xs x → p x ≡ true → list_any p xs ≡ true
  passes_one [] x (k, lt, at) test = absurd (omega arith)
  passes_one (y ∷ ys) x has test =
      first_or_later y x ys
      (λ same. ap (λ b. b || list_any p ys) (ap p same ∙ test))
      (λ later. ap (λ b. p y || b) (passes_one ys x later test) ∙ or_right (p y))
      has

its_own : (target fence : ℕ) → (eqb target target && eqb fence fence) ≡ true
its_own target fence = grind (arith, nat_tests)

targets : (a b c d : ℕ) → (eqb a b && eqb c d) ≡ true → (b ≡ a) × (d ≡ c)
targets a b c d is = (grind (arith, nat_tests), grind (arith, nat_tests))

-- ---- the accesses

module _ (ranks : List RankCalls) (target fence : ℕ) where
  pub access_counts : IsAccessed ranks target fence → is_accessed (accessed_in ranks) target fence ≡ true
  access_counts is =
      let calls = calls_of ranks in
      let windows = windows_of ranks in
      let sound = sound_of ranks is.own in
      let epochs = epochs_of windows sound in
      let rank : Rank = record { 0 = target } in
      let phase : Phase = record { target = record { 0 = target }; fence = fence } in
      let goes : target_at sound is.placed.call ≡ Some rank =
      ap (option_and_then (λ (call : Call). target_of call.what)) is.there ∙ ap target_of is.accesses ∙ is.targets in
      let partner : option_map (λ (n : ℕ). let own : Phase = record { target = rank; fence = n } in own) (partner_of calls is.own.rank.0 is.epoch.opener target) ≡ Some phase =
      ap (option_map (λ (n : ℕ). let own : Phase = record { target = rank; fence = n } in own)) is.matches in
      let stands : phase_of_access calls is.own.rank epochs sound is.placed ≡ Some phase =
      ap (option_and_then (phase_at calls is.own.rank epochs is.placed.epoch)) goes
      ∙ ap (option_and_then (λ epoch. phase_in calls is.own.rank epoch rank)) is.of_epoch
      ∙ ap (λ k. if_fence k (option_map (λ (n : ℕ). let own : Phase = record { target = rank; fence = n } in own) (partner_of calls is.own.rank.0 is.epoch.opener target))) is.is_phase
      ∙ partner in
      passes_one (is_phase_of target fence) (accessed_in ranks) phase
      (flat_map_has (accessed_by ranks windows) ranks is.own phase is.of_run
      (filter_map_has (phase_of_access calls is.own.rank epochs sound) (placed_of windows sound) is.placed phase is.stands stands))
      (its_own target fence)

  -- what is known of a phase in which an access of a rank stands, once its target is
  from_target : (own : RankCalls) → Contains ranks own → (placed : Placed) → Contains (placed_of (windows_of ranks) (sound_of ranks own)) placed
      → (call : Call) → slice_get (sound_of ranks own) placed.call ≡ Some call → (access : RmaCall) → call.what ≡ Rma access → access.target ≡ Some (record { 0 = target })
      → (epoch : Epoch) → slice_get (epochs_of (windows_of ranks) (sound_of ranks own)) placed.epoch ≡ Some epoch
      → phase_in (calls_of ranks) own.rank epoch (record { 0 = target }) ≡ Some (record { target = record { 0 = target }; fence = fence }) → IsAccessed ranks target fence
  from_target own of_run placed stands call there access accesses targeted epoch of_epoch is =
      let phase = λ (n : ℕ). let p : Phase = record { target = record { 0 = target }; fence = n } in p in
      let partner = partner_of (calls_of ranks) own.rank.0 epoch.opener target in
      let (is_fence, one) = in_phase epoch.kind (option_map phase partner) (phase fence) is in
      let (number, matched, made) = mapped phase partner (phase fence) one in
      record {
        own = own;
        of_run = of_run;
        placed = placed;
        stands = stands;
        call = call;
        there = there;
        access = access;
        accesses = accesses;
        targets = targeted;
        epoch = epoch;
        of_epoch = of_epoch;
        is_phase = is_fence;
        matches = matched ∙ ap (λ (p : Phase). Some p.fence) made;
      }

  -- the target of an access is that of the phase in which it stands
  same_target : (calls : ℕ → List Call) (rank : Rank) (epochs : List Epoch) (index : ℕ) (to : Rank) (phase : Phase) → phase_at calls rank epochs index to ≡ Some phase → phase.target ≡ to
  same_target calls rank epochs index to phase is = by (chained (λ epoch. phase_in calls rank epoch to) (slice_get epochs index) phase is)
    where
      by : (epoch : Epoch) × (slice_get epochs index ≡ Some epoch) × (phase_in calls rank epoch to ≡ Some phase) → phase.target ≡ to
      by (epoch, there, one) =
          let made = λ (n : ℕ). let p : Phase = record { target = to; fence = n } in p in
          let partner = partner_of calls rank.0 epoch.opener to.0 in
          let (number, matched, same) = mapped made partner phase (in_phase epoch.kind (option_map made partner) phase one).1 in
          ap (λ (p : Phase). p.target) (sym same)

  from_access : (own : RankCalls) → Contains ranks own → (placed : Placed) → Contains (placed_of (windows_of ranks) (sound_of ranks own)) placed
      → phase_of_access (calls_of ranks) own.rank (epochs_of (windows_of ranks) (sound_of ranks own)) (sound_of ranks own) placed ≡ Some (record { target = record { 0 = target }; fence = fence }) → IsAccessed ranks target fence
  from_access own of_run placed stands is = by (chained (phase_at (calls_of ranks) own.rank epochs placed.epoch) (target_at sound placed.call) phase is)
    where
      sound : List Call
      sound = sound_of ranks own

      epochs : List Epoch
      epochs = epochs_of (windows_of ranks) (sound_of ranks own)

      phase : Phase
      phase = record { target = record { 0 = target }; fence = fence }

      by : (to : Rank) × (target_at sound placed.call ≡ Some to) × (phase_at (calls_of ranks) own.rank epochs placed.epoch to ≡ Some phase) → IsAccessed ranks target fence
      by (to, goes, at) =
          let same : phase.target ≡ to = same_target (calls_of ranks) own.rank epochs placed.epoch to phase at in
          let (call, there, does) = chained (λ (call : Call). target_of call.what) (slice_get sound placed.call) to goes in
          let (access, accesses, targeted) = to_target call.what to does in
          let (epoch, of_epoch, in_epoch) = chained (λ epoch. phase_in (calls_of ranks) own.rank epoch to) (slice_get epochs placed.epoch) phase at in
          from_target own of_run placed stands call there access accesses (targeted ∙ ap Some (sym same)) epoch of_epoch
          (subst (λ (r : Rank). phase_in (calls_of ranks) own.rank epoch r ≡ Some phase) (sym same) in_epoch)

  from_phase : (phase : Phase) → Contains (accessed_in ranks) phase → phase ≡ record { target = record { 0 = target }; fence = fence } → IsAccessed ranks target fence
  from_phase phase has same = by (in_flat_map (accessed_by ranks (windows_of ranks)) ranks phase has)
    where
      by : (own : RankCalls) × Contains ranks own × Contains (accessed_by ranks (windows_of ranks) own) phase → IsAccessed ranks target fence
      by (own, of_run, in_own) =
          let sound = sound_of ranks own in
          let (placed, stands, is) = in_filter_map (phase_of_access (calls_of ranks) own.rank (epochs_of (windows_of ranks) sound) sound) (placed_of (windows_of ranks) sound) phase in_own in
          from_access own of_run placed stands (is ∙ ap Some same)

  pub access_is : is_accessed (accessed_in ranks) target fence ≡ true → IsAccessed ranks target fence
  access_is counted = by (passes (is_phase_of target fence) (accessed_in ranks) counted)
    where
      by : (phase : Phase) × Contains (accessed_in ranks) phase × (is_phase_of target fence phase ≡ true) → IsAccessed ranks target fence
      by (phase, has, test) =
          let (same_target, same_fence) = targets target phase.target.0 fence phase.fence test in
          from_phase phase has (λ t. record { target = record { 0 = same_target t }; fence = same_fence t })
