-- All accesses of one call more of a rank are taken.
use Rattle.std.proofs.Common.{◌≡◌, ◌<◌, ◌≤◌, ◌+◌, ℕ, zero, suc, List, [], ◌∷◌, Bool, true, false, nat_lt, length, get_or, Option, Some, None, slice_get, slice_set, slice_index, refl, sym, ap, subst, ◌∙◌, ◌⊎◌, inl, inr, arith}
use Rattle.std.specs.Prelude.{Contains}
use Rattle.std.proofs.lemmas.Bool.Decides.{nat_tests}
use Rattle.std.proofs.lemmas.Option.{same_Some, slice_get_within, get_or_from_slice_get}
use Rattle.rma_call.specs.Call.{RankCalls}
use Rattle.rma_link.specs.declared.links.Links.{Links}
use Rattle.rma_window.specs.Windows.{Window}
use Rattle.rma_rules.specs.Access.{Access}
use Rattle.rma_rules.specs.Spans.{Spans}
use Rattle.rma_run.proofs.PositionLemmas.{Rises, never_falls}
use Rattle.rma_span.specs.Span.{accesses_at, origin_of}
use Rattle.rma_history.specs.History.{IsPassed, IsToCome}
use Rattle.rma_races.specs.declared.taking.Taking.{Taking}
use Rattle.rma_races.specs.inside.Taking.{AreTaken, HasTaken, IsBegun, IsFurther, IsKept, IsThrough, numbers}
use Rattle.rma_races.proofs.CallLemmas.{numbers_rise}
use Rattle.rma_races.proofs.StepLemmas.{same_or_not, set_length, set_other, set_own}

-- numbers that stand in a list that rises
rise_at : (xs : List ℕ) (i j x y : ℕ) → Rises xs → i < j → slice_get xs i ≡ Some x → slice_get xs j ≡ Some y → x < y
rise_at xs i j x y rises less here there =
    let one : get_or xs i 0 ≡ x = get_or_from_slice_get xs i x 0 here in
    let other : get_or xs j 0 ≡ y = get_or_from_slice_get xs j y 0 there in
    let up = rises i j less (slice_get_within xs j y there) in
    omega (arith, one, other, up)

pub index_is : (xs : List ℕ) (i x : ℕ) → slice_get xs i ≡ Some x → slice_index xs i ≡ x
index_is xs i x at = get_or_from_slice_get xs i x 0 at

index_past : (xs : List ℕ) (i : ℕ) → slice_get xs i ≡ None → slice_index xs i ≡ 0
index_past [] i none = refl
index_past (x ∷ xs) zero none = absurd (let no : ⊥ = cc in no)
index_past (x ∷ xs) (suc i) none = index_past xs i none

-- where another number stands in a list at an index, the others stand as before
module _ (xs : List ℕ) (i n x : ℕ) (at : slice_get xs i ≡ Some x) where
  pub set_index : slice_index (slice_set xs i n) i ≡ n
  set_index = index_is (slice_set xs i n) i n (set_own xs i n x at)

pub set_index_other : (xs : List ℕ) (i j n : ℕ) → (i ≡ j → ⊥) → slice_index (slice_set xs i n) j ≡ slice_index xs j
set_index_other xs i j n differ = by (slice_get xs j) refl
  where
    by : (o : Option ℕ) → slice_get xs j ≡ o → slice_index (slice_set xs i n) j ≡ slice_index xs j
    by (Some x) is = index_is (slice_set xs i n) j x (set_other xs i j n differ ∙ is) ∙ sym (index_is xs j x is)
    by None is = index_past (slice_set xs i n) j (set_other xs i j n differ ∙ is) ∙ sym (index_past xs j is)

module _
    (links : Links)
    (windows : List Window)
    (spans : Spans)
    (ranks : List RankCalls)
    (seen : List Access)
    (old new : Taking)
    (own : RankCalls)
    (rank index number : ℕ)
    (there : slice_get ranks rank ≡ Some own)
    (at : slice_get old.taken.items rank ≡ Some index)
    (is : slice_get (numbers ranks own) index ≡ Some number)
    (taken : AreTaken links windows spans ranks seen old)
    (memories : new.memories ≡ old.memories)
    (found : new.found ≡ old.found)
    (now : new.taken.items ≡ slice_set old.taken.items rank (index + 1))
    (next : new.next.items ≡ slice_set old.next.items rank (slice_get (numbers ranks own) (index + 1)))
  where
    was_next : slice_get old.next.items rank ≡ Some (Some number)
    was_next = taken.begun.at rank own there ∙ ap (λ n. Some (slice_get (numbers ranks own) n)) (index_is old.taken.items rank index at) ∙ ap Some is

    now_next : slice_get new.next.items rank ≡ Some (slice_get (numbers ranks own) (index + 1))
    now_next = ap (λ them. slice_get them rank) next ∙ set_own old.next.items rank (slice_get (numbers ranks own) (index + 1)) (Some number) was_next

    now_index : slice_index new.taken.items rank ≡ index + 1
    now_index = ap (λ them. slice_index them rank) now ∙ set_index old.taken.items rank (index + 1) index at

    -- what is to come now was to come before
    was_to_come : (b : Access) → IsToCome new.next.items b → IsToCome old.next.items b
    was_to_come b (call, comes, from) =
        same_or_not rank b.name.rank.0
        (λ same.
        let later : slice_get (numbers ranks own) (index + 1) ≡ Some call = same_Some (slice_get (numbers ranks own) (index + 1)) (Some call) (sym now_next ∙ ap (slice_get new.next.items) same ∙ comes) in
        let less = rise_at (numbers ranks own) index (index + 1) number call (numbers_rise (origin_of ranks own)) (omega arith) is later in
        (number, ap (slice_get old.next.items) (sym same) ∙ was_next, omega (arith, less, from)))
        (λ differ. (call, sym (set_other old.next.items rank b.name.rank.0 (slice_get (numbers ranks own) (index + 1)) differ) ∙ ap (λ them. slice_get them b.name.rank.0) (sym next) ∙ comes, from))

    begun : IsBegun ranks new
    begun = record {
      memories = ap (λ them. length them.items) memories ∙ taken.begun.memories;
      taken = ap length now ∙ set_length old.taken.items rank (index + 1) ∙ taken.begun.taken;
      next = ap length next ∙ set_length old.next.items rank (slice_get (numbers ranks own) (index + 1)) ∙ taken.begun.next;
      at = λ i other here.
          same_or_not rank i
          (λ same.
          let one : own ≡ other = same_Some own other (sym there ∙ ap (slice_get ranks) same ∙ here) in
          ap (slice_get new.next.items) (sym same) ∙ now_next
          ∙ ap (λ n. Some (slice_get (numbers ranks own) n)) (sym now_index ∙ ap (slice_index new.taken.items) same) ∙ ap (λ it. Some (slice_get (numbers ranks it) (slice_index new.taken.items i))) one)
          (λ differ.
          ap (λ them. slice_get them i) next ∙ set_other old.next.items rank i (slice_get (numbers ranks own) (index + 1)) differ ∙ taken.begun.at i other here
          ∙ ap (λ n. Some (slice_get (numbers ranks other) n)) (sym (ap (λ them. slice_index them i) now ∙ set_index_other old.taken.items rank i (index + 1) differ)));
    }

    pub advanced : AreTaken links windows spans ranks seen new
    advanced = record {
      begun = begun;
      of_run = taken.of_run;
      kept = λ memory history a here has. taken.kept memory history a (ap (λ them. slice_get them.items memory) (sym memories) ∙ here) has;
      gone = λ a has. by a (taken.gone a has);
      found = λ race.
          (λ has. (taken.found race).0 (subst (λ them. Contains them.items race) found has), λ of. subst (λ them. Contains them.items race) (sym found) ((taken.found race).1 of));
    }
      where
        by : (a : Access) → IsKept old.memories.items a ⊎ IsPassed links windows spans old.next.items a → IsKept new.memories.items a ⊎ IsPassed links windows spans new.next.items a
        by a (inl (history, here, has)) = inl (history, ap (λ them. slice_get them.items a.memory.0) memories ∙ here, has)
        by a (inr passed) = inr (λ b comes. passed b (was_to_come b comes))

    -- the accesses of the call are taken too
    pub has_taken : ((a : Access) → Contains (accesses_at (origin_of ranks own) number) a → Contains seen a) → HasTaken ranks seen old.taken.items → HasTaken ranks seen new.taken.items
    has_taken these before i other k n a here less at_k has =
        same_or_not rank i
        (λ same.
        let one : own ≡ other = same_Some own other (sym there ∙ ap (slice_get ranks) same ∙ here) in
        let up : k < index + 1 = subst (λ m. k < m) (ap (slice_index new.taken.items) (sym same) ∙ now_index) less in
        same_or_not k index
        (λ last.
        let same_number : number ≡ n = same_Some number n (sym is ∙ ap (slice_get (numbers ranks own)) (sym last) ∙ ap (λ it. slice_get (numbers ranks it) k) one ∙ at_k) in
        these a (subst (λ m. Contains (accesses_at (origin_of ranks own) m) a) (sym same_number) (subst (λ it. Contains (accesses_at (origin_of ranks it) n) a) (sym one) has)))
        (λ earlier.
        let under : k < slice_index old.taken.items i = let was = index_is old.taken.items rank index at in let here = ap (slice_index old.taken.items) same in omega (arith, up, earlier, was, here) in
        before i other k n a here under at_k has))
        (λ differ. before i other k n a here (subst (λ m. k < m) (ap (λ them. slice_index them i) now ∙ set_index_other old.taken.items rank i (index + 1) differ) less) at_k has)

-- as many calls of each rank were taken, or more
pub further : (taken : List ℕ) (rank index : ℕ) → slice_get taken rank ≡ Some index → IsFurther taken (slice_set taken rank (index + 1))
further taken rank index at i =
    same_or_not rank i
    (λ same.
    let was = index_is taken rank index at in
    let now = set_index taken rank (index + 1) index at in
    let here = ap (slice_index taken) same in
    let there = ap (slice_index (slice_set taken rank (index + 1))) same in
    omega (arith, was, now, here, there))
    (λ differ. let same = set_index_other taken rank i (index + 1) differ in omega (arith, same))

-- a rank of which the next call comes after this one was taken through it
pub through_at : (ranks : List RankCalls) (own : RankCalls) (taken : List ℕ) (rank call index number : ℕ) → slice_get ranks rank ≡ Some own → slice_index taken rank ≡ index → slice_get (numbers ranks own) index ≡ Some number → call < number
    → IsThrough ranks taken rank call
through_at ranks own taken rank call index number there at is above other k n here at_k le = by (nat_lt k index) refl
  where
    at_own : slice_get (numbers ranks own) k ≡ Some n
    at_own = let one : own ≡ other = same_Some own other (sym there ∙ here) in ap (λ it. slice_get (numbers ranks it) k) one ∙ at_k

    by : (b : Bool) → nat_lt k index ≡ b → k < slice_index taken rank
    by true less = let lt : k < index = grind (arith, nat_tests) in omega (arith, lt, at)
    by false not_less =
        let le_k : index ≤ k = grind (arith, nat_tests) in
        let first : get_or (numbers ranks own) index 0 ≡ number = get_or_from_slice_get (numbers ranks own) index number 0 is in
        let second : get_or (numbers ranks own) k 0 ≡ n = get_or_from_slice_get (numbers ranks own) k n 0 at_own in
        let up = never_falls (numbers ranks own) (numbers_rise (origin_of ranks own)) index k le_k (slice_get_within (numbers ranks own) k n at_own) in
        absurd (omega (arith, first, second, up, above, le))

-- so was one that makes no more
pub through_all : (ranks : List RankCalls) (own : RankCalls) (taken : List ℕ) (rank call : ℕ) → slice_get ranks rank ≡ Some own → length (numbers ranks own) ≤ slice_index taken rank → IsThrough ranks taken rank call
through_all ranks own taken rank call there all other k n here at_k le =
    let one : own ≡ other = same_Some own other (sym there ∙ here) in
    let within = slice_get_within (numbers ranks own) k n (ap (λ it. slice_get (numbers ranks it) k) one ∙ at_k) in
    omega (arith, within, all)
