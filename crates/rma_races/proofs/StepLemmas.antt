-- One access more is taken.
use Rattle.std.proofs.Common.{◌≡◌, ◌↔◌, ℕ, zero, suc, List, [], ◌∷◌, ◌++◌, Bool, true, false, eqb, length, Some, slice_get, slice_set, slice_index, refl, sym, ap, subst, ◌∙◌, ◌⊎◌, inl, inr}
use Rattle.std.specs.Prelude.{Contains}
use Rattle.std.proofs.lemmas.Bool.{eqb-true, eqb-false}
use Rattle.std.proofs.lemmas.Option.{same_Some}
use Rattle.rma_base.specs.declared.rank.Rank.{Rank}
use Rattle.rma_call.specs.Call.{RankCalls}
use Rattle.rma_link.specs.declared.links.Links.{Links}
use Rattle.rma_window.specs.Windows.{Window}
use Rattle.rma_rules.specs.Access.{Access, IsOnWindowOf}
use Rattle.rma_rules.specs.Spans.{Spans}
use Rattle.rma_span.specs.Span.{accesses, origin_of, spanned_calls}
use Rattle.rma_finding.specs.declared.finding.FoundRace.{FoundRace}
use Rattle.rma_pairs.specs.Races.{IsFound, IsFoundBetween}
use Rattle.rma_history.specs.History.{IsOfCall, IsPassed, IsToCome}
use Rattle.rma_races.specs.declared.taking.Taking.{Taking}
use Rattle.rma_races.specs.inside.Taking.{AreTaken, IsBegun, IsKept}
use Rattle.rma_races.proofs.TakingLemmas.{between_memory, found_before, found_either, found_with, is_there, passed_apart, was_or_is, was_there}

-- ---- a list with another element at a place

module _ {X : Type 0} where
  pub set_own : (xs : List X) (i : ℕ) (x y : X) → slice_get xs i ≡ Some y → slice_get (slice_set xs i x) i ≡ Some x
  set_own [] i x y at = absurd (let no : ⊥ = cc in no)
  set_own (z ∷ xs) zero x y at = refl
  set_own (z ∷ xs) (suc i) x y at = set_own xs i x y at

  pub set_other : (xs : List X) (i j : ℕ) (x : X) → (i ≡ j → ⊥) → slice_get (slice_set xs i x) j ≡ slice_get xs j
  set_other [] i j x differ = refl
  set_other (z ∷ xs) zero zero x differ = absurd (differ refl)
  set_other (z ∷ xs) zero (suc j) x differ = refl
  set_other (z ∷ xs) (suc i) zero x differ = refl
  set_other (z ∷ xs) (suc i) (suc j) x differ = set_other xs i j x (λ same. differ (ap suc same))

  pub set_length : (xs : List X) (i : ℕ) (x : X) → length (slice_set xs i x) ≡ length xs
  set_length [] i x = refl
  set_length (z ∷ xs) zero x = refl
  set_length (z ∷ xs) (suc i) x = ap suc (set_length xs i x)

pub same_or_not : {P : Type 0} (i j : ℕ) → (i ≡ j → P) → ((i ≡ j → ⊥) → P) → P
same_or_not {P} i j same differ = by (eqb i j) refl
  where
    by : (b : Bool) → eqb i j ≡ b → P
    by true is = same (eqb-true i j is)
    by false is = differ (eqb-false i j is)

-- what was known of what is to come and of what was taken stays, where these do
pub begun_stays : (ranks : List RankCalls) (old new : Taking) → length new.memories.items ≡ length old.memories.items → new.taken ≡ old.taken → new.next ≡ old.next → IsBegun ranks old → IsBegun ranks new
begun_stays ranks old new long taken next begun = record {
  memories = long ∙ begun.memories;
  taken = ap (λ them. length them.items) taken ∙ begun.taken;
  next = ap (λ them. length them.items) next ∙ begun.next;
  at = λ i own there.
      ap (λ them. slice_get them.items i) next ∙ begun.at i own there ∙ ap (λ them. Some (slice_get (spanned_calls (origin_of ranks own)) (slice_index them.items i))) (sym taken);
}

module _
    (links : Links)
    (windows : List Window)
    (spans : Spans)
    (ranks : List RankCalls)
    (seen : List Access)
    (old new : Taking)
    (b : Access)
    (history left last : List Access)
    (taken : AreTaken links windows spans ranks seen old)
    (at : slice_get old.memories.items b.memory.0 ≡ Some history)
    (memories : new.memories.items ≡ slice_set old.memories.items b.memory.0 last)
    (same_taken : new.taken ≡ old.taken)
    (same_next : new.next ≡ old.next)
    (stay : (a : Access) → Contains left a → Contains history a)
    (gone : (a : Access) → Contains history a → Contains left a ⊎ IsPassed links windows spans old.next.items a)
    (kept : (a : Access) → Contains last a ↔ (Contains left a ⊎ (a ≡ b)))
    (found : (race : FoundRace) → Contains new.found.items race ↔ (Contains old.found.items race ⊎ ((a : Access) × Contains left a × IsFoundBetween links windows spans a b race)))
    (of_run : Contains (accesses ranks) b)
    (comes : IsToCome old.next.items b)
    (of_call : IsOfCall b)
    (on : IsOnWindowOf windows b)
  where
    -- what was kept in this memory was taken
    was_taken : (a : Access) → Contains left a → Contains seen a
    was_taken a has = taken.kept b.memory.0 history a at (stay a has)

    now_kept : (memory : ℕ) (now : List Access) (a : Access) → slice_get new.memories.items memory ≡ Some now → Contains now a → Contains (seen ++ b ∷ []) a
    now_kept memory now a there has =
        same_or_not b.memory.0 memory
        (λ same.
        let here : slice_get (slice_set old.memories.items b.memory.0 last) b.memory.0 ≡ Some now = ap (λ them. slice_get them b.memory.0) (sym memories) ∙ ap (slice_get new.memories.items) same ∙ there in
        let is : last ≡ now = same_Some last now (sym (set_own old.memories.items b.memory.0 last history at) ∙ here) in
        by ((kept a).0 (subst (λ h. Contains h a) (sym is) has)))
        (λ differ.
        let before = sym (set_other old.memories.items b.memory.0 memory last differ) ∙ ap (λ them. slice_get them memory) (sym memories) ∙ there in
        was_there seen b a (taken.kept memory now a before has))
      where
        by : Contains left a ⊎ (a ≡ b) → Contains (seen ++ b ∷ []) a
        by (inl before) = was_there seen b a (was_taken a before)
        by (inr is) = subst (Contains (seen ++ b ∷ [])) (sym is) (is_there seen b)

    here_now : slice_get new.memories.items b.memory.0 ≡ Some last
    here_now = ap (λ them. slice_get them b.memory.0) memories ∙ set_own old.memories.items b.memory.0 last history at

    -- what is kept of another memory stays, and what is kept of this one stays or is passed
    still_kept : (a : Access) → IsKept old.memories.items a → IsKept new.memories.items a ⊎ IsPassed links windows spans old.next.items a
    still_kept a (own, there, has) =
        same_or_not b.memory.0 a.memory.0
        (λ same.
        let is : history ≡ own = same_Some history own (sym at ∙ ap (slice_get old.memories.items) same ∙ there) in
        by same (gone a (subst (λ h. Contains h a) (sym is) has)))
        (λ differ. inl (own, ap (λ them. slice_get them a.memory.0) memories ∙ set_other old.memories.items b.memory.0 a.memory.0 last differ ∙ there, has))
      where
        by : b.memory.0 ≡ a.memory.0 → Contains left a ⊎ IsPassed links windows spans old.next.items a → IsKept new.memories.items a ⊎ IsPassed links windows spans old.next.items a
        by same (inl stays) = inl (last, ap (slice_get new.memories.items) (sym same) ∙ here_now, (kept a).1 (inl stays))
        by same (inr passed) = inr passed

    now_gone : (a : Access) → Contains (seen ++ b ∷ []) a → IsKept new.memories.items a ⊎ IsPassed links windows spans new.next.items a
    now_gone a has = by (was_or_is seen b a has)
      where
        later : IsPassed links windows spans old.next.items a → IsPassed links windows spans new.next.items a
        later passed = subst (λ them. IsPassed links windows spans them.items a) (sym same_next) passed

        still : IsKept new.memories.items a ⊎ IsPassed links windows spans old.next.items a → IsKept new.memories.items a ⊎ IsPassed links windows spans new.next.items a
        still (inl stays) = inl stays
        still (inr passed) = inr (later passed)

        was : IsKept old.memories.items a ⊎ IsPassed links windows spans old.next.items a → IsKept new.memories.items a ⊎ IsPassed links windows spans new.next.items a
        was (inl before) = still (still_kept a before)
        was (inr passed) = inr (later passed)

        by : Contains seen a ⊎ (b ≡ a) → IsKept new.memories.items a ⊎ IsPassed links windows spans new.next.items a
        by (inl before) = was (taken.gone a before)
        by (inr is) = inl (subst (IsKept new.memories.items) is (last, here_now, (kept b).1 (inr refl)))

    -- what is found between an access that was taken and this one is found with what is left
    found_left : (a : Access) (race : FoundRace) → Contains seen a → IsFoundBetween links windows spans a b race → Contains left a
    found_left a race has between = by (taken.gone a has)
      where
        still : (h : List Access) → slice_get old.memories.items a.memory.0 ≡ Some h → Contains h a → Contains left a
        still h there among = or_passed (gone a (subst (λ them. Contains them a) (sym is) among))
          where
            is : history ≡ h
            is = same_Some history h (sym at ∙ ap (λ (rank : Rank). slice_get old.memories.items rank.0) (sym (between_memory links windows spans a b race between)) ∙ there)

            or_passed : Contains left a ⊎ IsPassed links windows spans old.next.items a → Contains left a
            or_passed (inl stays) = stays
            or_passed (inr passed) = absurd (passed_apart links windows spans old.next.items a b race passed comes of_call on between)

        by : IsKept old.memories.items a ⊎ IsPassed links windows spans old.next.items a → Contains left a
        by (inl (h, there, among)) = still h there among
        by (inr passed) = absurd (passed_apart links windows spans old.next.items a b race passed comes of_call on between)

    now_found : (race : FoundRace) → Contains new.found.items race ↔ IsFound links windows spans (seen ++ b ∷ []) race
    now_found race = (λ has. there ((found race).0 has), λ is. (found race).1 (back (found_either links windows spans seen b race is)))
      where
        there : Contains old.found.items race ⊎ ((a : Access) × Contains left a × IsFoundBetween links windows spans a b race) → IsFound links windows spans (seen ++ b ∷ []) race
        there (inl before) = found_before links windows spans seen b race ((taken.found race).0 before)
        there (inr (a, has, between)) = found_with links windows spans seen b a race (was_taken a has) between

        back : IsFound links windows spans seen race ⊎ ((a : Access) × Contains seen a × IsFoundBetween links windows spans a b race) → Contains old.found.items race ⊎ ((a : Access) × Contains left a × IsFoundBetween links windows spans a b race)
        back (inl before) = inl ((taken.found race).1 before)
        back (inr (a, has, between)) = inr (a, found_left a race has between, between)

    now_of_run : (a : Access) → Contains (seen ++ b ∷ []) a → Contains (accesses ranks) a
    now_of_run a has = by (was_or_is seen b a has)
      where
        by : Contains seen a ⊎ (b ≡ a) → Contains (accesses ranks) a
        by (inl before) = taken.of_run a before
        by (inr is) = subst (Contains (accesses ranks)) is of_run

    pub stepped : AreTaken links windows spans ranks (seen ++ b ∷ []) new
    stepped = record {
      begun = begun_stays ranks old new (ap length memories ∙ set_length old.memories.items b.memory.0 last) same_taken same_next taken.begun;
      of_run = now_of_run;
      kept = now_kept;
      gone = now_gone;
      found = now_found;
    }
