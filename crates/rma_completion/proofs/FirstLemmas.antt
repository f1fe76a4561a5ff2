-- The first call behind another one that meets a test.
use Rattle.std.proofs.Common.{◌≡◌, ℕ, zero, suc, ◌+◌, ◌<◌, ◌≤◌, ◌&&◌, ◌||◌, Bool, true, false, cond, ltb, leb, ◌∷◌, List, [], length, slice_get, Option, Some, None, min, refl, sym, ap, ◌∙◌, arith}
use Rattle.std.specs.List.{AllWithin}
use Rattle.std.proofs.lemmas.Bool.{leb-true, leb-false, lt-ltb, ltb-true}
use Rattle.std.proofs.lemmas.Bool.Decides.{nat_tests}
use Rattle.rma_call.specs.Call.{Call}
use Rattle.rma_completion.specs.Done.{earlier, first_after, first_behind, IsFirstAfter}
use Rattle.rma_completion.specs.inside.Kept.{first_above, numbers, numbers_from}

-- ---- as a number that is kept

-- it is the first of their numbers that is greater
pub above_behind : (test : Call → Bool) (number from : ℕ) (calls : List Call) → first_above number (numbers_from test from calls) ≡ first_behind test number from calls
above_behind test number from [] = refl
above_behind test number from (c ∷ cs) = by (test c) (ltb number from) refl (above_behind test number (from + 1) cs)
  where
    rest : List ℕ
    rest = numbers_from test (from + 1) cs

    by : (b t : Bool) → ltb number from ≡ t → first_above number (numbers_from test (from + 1) cs) ≡ first_behind test number (from + 1) cs →
        first_above number (cond b (from ∷ numbers_from test (from + 1) cs) (numbers_from test (from + 1) cs)) ≡ cond (t && b) (Some from) (first_behind test number (from + 1) cs)
    by true true is later = rw is refl
    by true false is later = rw is later
    by false true is later = later
    by false false is later = later

pub above_after : (test : Call → Bool) (calls : List Call) (number : ℕ) → first_above number (numbers test calls) ≡ first_after test calls number
above_after test calls number = above_behind test number 0 calls

-- the numbers up to a place are no greater, and the others are
pub found_at : (number : ℕ) (ns : List ℕ) (i : ℕ) → i ≤ length ns → AllWithin (λ n. leb n number ≡ true) ns 0 i → AllWithin (λ n. leb n number ≡ false) ns i (length ns) →
    slice_get ns i ≡ first_above number ns
found_at number [] i within before after = refl
found_at number (n ∷ ns) zero within before after =
    let above = leb-false n number (after 0 0 (omega arith) (omega arith)) in rw (lt-ltb number n (omega arith)) refl
found_at number (n ∷ ns) (suc i) within before after =
    let below = leb-true n number (before 0 0 (omega arith) (omega arith)) in
    let not : ltb number n ≡ false = grind (arith, nat_tests) in
    rw not
    (found_at number ns i (omega arith) (λ k d le lt. before (suc k) d (omega arith) (omega arith)) (λ k d le lt. after (suc k) d (omega arith) (omega arith)))

-- ---- of two tests

-- a number that may be there is at least another
abbrev AtLeast : ℕ → Option ℕ → Type 0
AtLeast n None = Unit {0}
AtLeast n (Some m) = n ≤ m

at_least : (test : Call → Bool) (number from : ℕ) (calls : List Call) → AtLeast from (first_behind test number from calls)
at_least test number from [] = tt
at_least test number from (c ∷ cs) = by (ltb number from && test c) (first_behind test number (from + 1) cs) (at_least test number (from + 1) cs)
  where
    by : (b : Bool) (rest : Option ℕ) → AtLeast (from + 1) rest → AtLeast from (cond b (Some from) rest)
    by true rest later = omega arith
    by false None later = tt
    by false (Some m) later = omega arith

least : (n : ℕ) (rest : Option ℕ) → AtLeast (n + 1) rest → earlier (Some n) rest ≡ Some n
least n None later = refl
least n (Some m) later = ap Some (let e : min n m ≡ n = omega arith in e)

least_after : (n : ℕ) (rest : Option ℕ) → AtLeast (n + 1) rest → earlier rest (Some n) ≡ Some n
least_after n None later = refl
least_after n (Some m) later = ap Some (let e : min m n ≡ n = omega arith in e)

module _ (p q : Call → Bool) where
  first_of_behind : (number from : ℕ) (calls : List Call) →
      first_behind (λ c. p c || q c) number from calls ≡ earlier (first_behind p number from calls) (first_behind q number from calls)
  first_of_behind number from [] = refl
  first_of_behind number from (c ∷ cs) =
      by
      (ltb number from)
      (p c)
      (q c)
      (first_behind p number (from + 1) cs)
      (first_behind q number (from + 1) cs)
      (at_least p number (from + 1) cs)
      (at_least q number (from + 1) cs)
      (first_of_behind number (from + 1) cs)
    where
      by : (t a b : Bool) (r s : Option ℕ) → AtLeast (from + 1) r → AtLeast (from + 1) s → first_behind (λ c. p c || q c) number (from + 1) cs ≡ earlier r s →
          cond (t && (a || b)) (Some from) (first_behind (λ c. p c || q c) number (from + 1) cs) ≡ earlier (cond (t && a) (Some from) r) (cond (t && b) (Some from) s)
      by false a b r s up vp is = is
      by true true true r s up vp is = ap Some (let e : from ≡ min from from = omega arith in e)
      by true true false r s up vp is = sym (least from s vp)
      by true false true r s up vp is = sym (least_after from r up)
      by true false false r s up vp is = is

  -- the first that meets one of two tests is the earlier one of those that meet each
  pub first_of_two : (calls : List Call) (number : ℕ) → first_after (λ c. p c || q c) calls number ≡ earlier (first_after p calls number) (first_after q calls number)
  first_of_two calls number = first_of_behind number 0 calls

-- ---- what it is

module _ (test : Call → Bool) (number : ℕ) where
  -- the same where the first of the calls has a number
  record IsFirstFrom (from : ℕ) (calls : List Call) (first : ℕ) : Type 0 where
    place : ℕ
    call : Call
    is : first ≡ from + place
    there : slice_get calls place ≡ Some call
    meets : test call ≡ true
    later : number < first
    between : (k : ℕ) (other : Call) → number < from + k → k < place → slice_get calls k ≡ Some other → test other ≡ false

  first_from : (from : ℕ) (calls : List Call) (first : ℕ) → first_behind test number from calls ≡ Some first → IsFirstFrom from calls first
  first_from from [] first is = absurd (cc)
  first_from from (c ∷ cs) first is = by (ltb number from) (test c) refl refl is (first_from (from + 1) cs first)
    where
      on : (b : Bool) → ltb number from && test c ≡ false → IsFirstFrom (from + 1) cs first → IsFirstFrom from (c ∷ cs) first
      on b none own = record {
        place = suc own.place;
        call = own.call;
        is = own.is ∙ (let e : from + 1 + own.place ≡ from + suc own.place = omega arith in e);
        there = own.there;
        meets = own.meets;
        later = own.later;
        between = λ k other. elim k as (λ k. number < from + k → k < suc own.place → slice_get (c ∷ cs) k ≡ Some other → test other ≡ false) [
          | zero ↦ λ above lt at. let same : c ≡ other = cc in ap test (sym same) ∙ missed (ltb number from) (test c) (lt-ltb number from (omega arith)) none
          | suc j ↦ λ above lt at. own.between j other (omega arith) (omega arith) at
        ];
      }
        where
          missed : (t b : Bool) → t ≡ true → t && b ≡ false → b ≡ false
          missed true b is none = none
          missed false b is none = absurd (cc)

      by : (t b : Bool) → ltb number from ≡ t → test c ≡ b → cond (t && b) (Some from) (first_behind test number (from + 1) cs) ≡ Some first →
          (first_behind test number (from + 1) cs ≡ Some first → IsFirstFrom (from + 1) cs first) → IsFirstFrom from (c ∷ cs) first
      by true true above meets found rest = record {
        place = 0;
        call = c;
        is = (let e : from ≡ first = cc in sym e) ∙ (let z : from ≡ from + 0 = omega arith in z);
        there = refl;
        meets = meets;
        later = let e : from ≡ first = cc in let lt = ltb-true number from above in omega arith;
        between = λ k other up lt at. absurd (omega arith);
      }
      by true false above meets found rest = on true (rw (above, meets) refl) (rest found)
      by false b above meets found rest = on b (rw above refl) (rest found)

  pub is_first_after : (calls : List Call) (first : ℕ) → first_after test calls number ≡ Some first → IsFirstAfter test calls number first
  is_first_after calls first is =
      let own = first_from 0 calls first is in
      let same : first ≡ own.place = own.is ∙ (let z : 0 + own.place ≡ own.place = omega arith in z) in record {
        call = own.call;
        there = ap (slice_get calls) same ∙ own.there;
        meets = own.meets;
        later = own.later;
        between = λ k other up lt at. own.between k other (omega arith) (omega arith) at;
      }
