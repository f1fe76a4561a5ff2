-- Nothing is taken yet, of the first ranks of a run.
use Rattle.std.proofs.Common.{◌≡◌, ◌<◌, ◌+◌, ℕ, zero, suc, List, [], ◌∷◌, ◌++◌, Bool, true, false, nat_lt, length, length-append, Option, Some, slice_get, slice_index, refl, sym, ap, subst, ◌∙◌, arith}
use Rattle.std.proofs.lemmas.Bool.Decides.{nat_tests}
use Rattle.std.proofs.lemmas.Option.{same_Some, slice_get_within}
use Rattle.rma_call.specs.Call.{RankCalls}
use Rattle.rma_rules.specs.Access.{Access}
use Rattle.rma_races.specs.declared.taking.Taking.{Taking}
use Rattle.rma_races.specs.inside.Taking.{IsBegun, numbers}

-- ---- a list with one element more

module _ {X : Type 0} where
  push_at : (xs : List X) (y : X) → slice_get (xs ++ y ∷ []) (length xs) ≡ Some y
  push_at [] y = refl
  push_at (x ∷ xs) y = push_at xs y

  push_before : (xs : List X) (y : X) (i : ℕ) → i < length xs → slice_get (xs ++ y ∷ []) i ≡ slice_get xs i
  push_before [] y i less = absurd (omega arith)
  push_before (x ∷ xs) y zero less = refl
  push_before (x ∷ xs) y (suc i) less = push_before xs y i (omega arith)

-- what holds of each element holds of each with one more
push_all : {X : Type 0} (P : X → Type 0) (xs : List X) (y : X) → ((i : ℕ) (x : X) → slice_get xs i ≡ Some x → P x) → P y → (i : ℕ) (x : X) → slice_get (xs ++ y ∷ []) i ≡ Some x → P x
push_all P [] y all own zero x at = subst P (same_Some y x at) own
push_all P [] y all own (suc i) x at = absurd (let no : ⊥ = cc in no)
push_all P (z ∷ xs) y all own zero x at = all zero x at
push_all P (z ∷ xs) y all own (suc i) x at = push_all P xs y (λ j. all (suc j)) own i x at

push_zero : (xs : List ℕ) → ((i : ℕ) → slice_index xs i ≡ 0) → (i : ℕ) → slice_index (xs ++ 0 ∷ []) i ≡ 0
push_zero [] none zero = refl
push_zero [] none (suc i) = refl
push_zero (x ∷ xs) none zero = none zero
push_zero (x ∷ xs) none (suc i) = push_zero xs (λ j. none (suc j)) i

-- ---- nothing is taken

pub record AreNew (count : ℕ) (taking : Taking) : Type 0 where
  pub memories : length taking.memories.items ≡ count
  pub empty : (i : ℕ) (history : List Access) → slice_get taking.memories.items i ≡ Some history → history ≡ []
  pub taken : length taking.taken.items ≡ count
  pub none : (i : ℕ) → slice_index taking.taken.items i ≡ 0
  pub next : length taking.next.items ≡ count
  pub found : taking.found.items ≡ []

-- the first call of each of the first ranks comes next
abbrev pub AreFirst : List RankCalls → ℕ → List (Option ℕ) → Type 0
AreFirst run count next = (i : ℕ) (own : RankCalls) → slice_get run i ≡ Some own → i < count → slice_get next i ≡ Some (slice_get (numbers run own) 0)

pub one_more : (count : ℕ) (old new : Taking) (first : Option ℕ) → new.memories.items ≡ old.memories.items ++ [] ∷ [] → new.taken.items ≡ old.taken.items ++ 0 ∷ [] → new.next.items ≡ old.next.items ++ first ∷ [] → new.found.items ≡ old.found.items
    → AreNew count old → AreNew (count + 1) new
one_more count old new first memories taken next found are = record {
  memories = let same = ap length memories in let long = length-append old.memories.items ([] ∷ []) in let was = are.memories in omega (arith, same, long, was);
  empty = λ i history at. push_all (λ h. h ≡ []) old.memories.items [] are.empty refl i history (sym (ap (λ them. slice_get them i) memories) ∙ at);
  taken = let same = ap length taken in let long = length-append old.taken.items (0 ∷ []) in let was = are.taken in omega (arith, same, long, was);
  none = λ i. ap (λ them. slice_index them i) taken ∙ push_zero old.taken.items are.none i;
  next = let same = ap length next in let long = length-append old.next.items (first ∷ []) in let was = are.next in omega (arith, same, long, was);
  found = found ∙ are.found;
}

pub one_first : (run : List RankCalls) (count : ℕ) (old new : List (Option ℕ)) (own : RankCalls) (first : Option ℕ) → length old ≡ count → slice_get run count ≡ Some own → first ≡ slice_get (numbers run own) 0 → new ≡ old ++ first ∷ []
    → AreFirst run count old → AreFirst run (count + 1) new
one_first run count old new own first long there is more are i other at less = by (nat_lt i count) refl
  where
    by : (b : Bool) → nat_lt i count ≡ b → slice_get new i ≡ Some (slice_get (numbers run other) 0)
    by true lt =
        let before : i < count = grind (arith, nat_tests) in
        ap (λ them. slice_get them i) more ∙ push_before old first i (omega (arith, long, before)) ∙ are i other at before
    by false not_lt =
        let last : count ≡ i = grind (arith, nat_tests) in
        let one : own ≡ other = same_Some own other (sym there ∙ ap (slice_get run) last ∙ at) in
        ap (λ them. slice_get them i) more ∙ ap (slice_get (old ++ first ∷ [])) (sym last ∙ sym long) ∙ push_at old first ∙ ap Some (is ∙ ap (λ it. slice_get (numbers run it) 0) one)

pub begun : (run : List RankCalls) (count : ℕ) (taking : Taking) → count ≡ length run → AreNew count taking → AreFirst run count taking.next.items → IsBegun run taking
begun run count taking all new first = record {
  memories = new.memories ∙ all;
  taken = new.taken ∙ all;
  next = new.next ∙ all;
  at = λ i own there. first i own there (let within = slice_get_within run i own there in omega (arith, within, all)) ∙ ap (λ n. Some (slice_get (numbers run own) n)) (sym (new.none i));
}
