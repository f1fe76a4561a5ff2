-- A number that is given to each rank of a group.
use Rattle.std.proofs.Common.{◌≡◌, ℕ, zero, suc, ◌+◌, ◌-◌, ◌<◌, Bool, true, false, cond, ◌||◌, ◌∷◌, ◌++◌, List, [], length, take, nat_eq, get_or, refl, sym, ap, subst, ◌∙◌, arith, append-nil}
use Rattle.std.specs.List.Sorted.{IsStrictlyIncreasing}
use Rattle.std.proofs.lemmas.Bool.{eqb-true}
use Rattle.std.proofs.lemmas.List.{take_more, get_or-take, length-take}
use Rattle.std.proofs.lemmas.List.Folds.{list_any-append}
use Rattle.rma_base.specs.RankSet.{has_number}
use Rattle.rma_base.proofs.RankSetLemmas.{has_number_between}

rises_by : (xs : List ℕ) → IsStrictlyIncreasing xs → (k d : ℕ) → k + suc d < length xs → get_or xs k 0 < get_or xs (k + suc d) 0
rises_by xs up k zero lt = up k lt
rises_by xs up k (suc d) lt =
    let first : get_or xs k 0 < get_or xs (k + suc d) 0 = rises_by xs up k d (omega arith) in
    let next : get_or xs (k + suc d) 0 < get_or xs (k + suc d + 1) 0 = up (k + suc d) (omega arith) in
    let e : k + suc d + 1 ≡ k + suc (suc d) = omega arith in
    subst (λ j. get_or xs k 0 < get_or xs j 0) e (omega arith)

-- what stands before an element of ascending numbers is below it
below_at : (xs : List ℕ) (i k : ℕ) → IsStrictlyIncreasing xs → i < length xs → k < i → get_or xs k 0 < get_or xs i 0
below_at xs i k up lt before =
    let e : k + suc (i - k - 1) ≡ i = omega arith in
    subst (λ j. get_or xs k 0 < get_or xs j 0) e (rises_by xs up k (i - k - 1) (omega arith))

-- no number is among those before it
not_before : (xs : List ℕ) (i : ℕ) → IsStrictlyIncreasing xs → i < length xs → has_number (get_or xs i 0) (take i xs) ≡ false
not_before xs i up lt =
    has_number_between (take i xs) (get_or xs i 0) i
    (λ k before. rw get_or-take (below_at xs i k up lt before))
    (λ k ge within. absurd (let short : length (take i xs) ≡ i = simp length-take (omega arith) in omega arith))

none_more : (has : Bool) (before one : List ℕ) → (before ++ cond has one []) ++ [] ≡ before ++ cond (has || (false || false)) one []
none_more true before one = append-nil (before ++ one)
none_more false before one = append-nil (before ++ [])

-- the members up to one more have the number where those before or this one have it
pub member_more : (xs : List ℕ) (i rank number : ℕ) (before : List ℕ) → IsStrictlyIncreasing xs → i < length xs →
    (before ++ cond (has_number rank (take i xs)) (number ∷ []) []) ++ cond (nat_eq (get_or xs i 0) rank) (number ∷ []) []
    ≡ before ++ cond (has_number rank (take (i + 1) xs)) (number ∷ []) []
member_more xs i rank number before up lt =
    by (nat_eq member rank) refl
    ∙ ap (λ b. before ++ cond b (number ∷ []) []) (sym (ap (has_number rank) (take_more xs i 0 lt) ∙ list_any-append (λ m. nat_eq m rank) (take i xs) (member ∷ [])))
  where
    member : ℕ
    member = get_or xs i 0

    by : (b : Bool) → nat_eq (get_or xs i 0) rank ≡ b → (before ++ cond (has_number rank (take i xs)) (number ∷ []) []) ++ cond (nat_eq (get_or xs i 0) rank) (number ∷ []) []
        ≡ before ++ cond (has_number rank (take i xs) || (nat_eq (get_or xs i 0) rank || false)) (number ∷ []) []
    by true same =
        let none : has_number rank (take i xs) ≡ false = subst (λ r. has_number r (take i xs) ≡ false) (eqb-true (get_or xs i 0) rank same) (not_before xs i up lt) in
        rw (same, none) (ap (λ l. l ++ number ∷ []) (append-nil before))
    by false differ = rw differ (none_more (has_number rank (take i xs)) before (number ∷ []))
