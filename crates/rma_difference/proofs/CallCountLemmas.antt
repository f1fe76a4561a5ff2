-- The numbers of calls that are kept, with one more call.
use Rattle.std.proofs.Common.{◌≡◌, ℕ, zero, suc, ◌+◌, ◌<◌, ◌≤◌, ◌≢◌, Bool, true, false, cond, List, [], ◌∷◌, ◌++◌, length, get_or, eqb, max, refl, sym, ap, ◌∙◌, arith}
use Rattle.std.proofs.lemmas.Bool.{eqb-true}
use Rattle.std.proofs.lemmas.Bool.Decides.{nat_tests}
use Rattle.rma_difference.specs.declared.call_count.RankCount.{RankCount}
use Rattle.rma_difference.specs.declared.call_count.CallCounts.{CallCounts}
use Rattle.rma_difference.specs.inside.CallCount.{empty, with_current, raised, counted, number_in, AreWithin, AreCallCounts}

module _ (f : ℕ → ℕ) where
  pub AreWithin_push : (ts : List RankCount) (t : RankCount) → AreWithin f ts → t.number ≤ f t.rank → AreWithin f (ts ++ t ∷ [])
  AreWithin_push [] t h le = (le, tt)
  AreWithin_push (x ∷ ts) t h le = (h.0, AreWithin_push ts t h.1 le)

  pub AreWithin_at : (ts : List RankCount) (i : ℕ) (d : RankCount) → AreWithin f ts → i < length ts → (get_or ts i d).number ≤ f (get_or ts i d).rank
  AreWithin_at [] i d h lt = absurd (omega arith)
  AreWithin_at (x ∷ ts) zero d h lt = h.0
  AreWithin_at (x ∷ ts) (suc i) d h lt = AreWithin_at ts i d h.1 (omega arith)

  pub AreWithin_more : (g : ℕ → ℕ) → ((m : ℕ) → f m ≤ g m) → (ts : List RankCount) → AreWithin f ts → AreWithin g ts
  AreWithin_more g le [] h = tt
  AreWithin_more g le (t ∷ ts) h = (let more = le t.rank in omega (arith, h.0), AreWithin_more g le ts h.1)

-- no calls
pub AreCallCounts_empty : (f : ℕ → ℕ) (index : ℕ) → ((m : ℕ) → f m ≡ 0) → AreCallCounts f index empty
AreCallCounts_empty f index none = record {
  last_is = sym (none 0);
  later_are = λ m lt. none m;
  before_are = tt;
  largest_is = λ m. let n = none m in omega arith;
  within = omega arith;
}

-- the same numbers, and a later rank
pub AreCallCounts_same : (f g : ℕ → ℕ) (index next : ℕ) (t : CallCounts) → ((m : ℕ) → g m ≡ f m) → index ≤ next → AreCallCounts f index t → AreCallCounts g next t
AreCallCounts_same f g index next t same le is = record {
  last_is = is.last_is ∙ sym (same t.last.rank);
  later_are = λ m lt. same m ∙ is.later_are m lt;
  before_are = AreWithin_more f g (λ m. let e = same m in omega arith) t.before is.before_are;
  largest_is = λ m. let e = same m in let l = is.largest_is m in omega arith;
  within = let w = is.within in omega arith;
}

-- the rank at the index is the current one
AreCallCounts_current : (f : ℕ → ℕ) (index : ℕ) (t : CallCounts) → AreCallCounts f index t → AreCallCounts f index (with_current t index) × ((with_current t index).last.rank ≡ index)
AreCallCounts_current f index t is = by (eqb t.last.rank index) refl
  where
    by : (b : Bool) → eqb t.last.rank index ≡ b →
        AreCallCounts f index (cond b t (record { last = record { rank = index; number = 0 }; before = t.before ++ t.last ∷ []; largest = t.largest }))
        × ((cond b t (record { last = record { rank = index; number = 0 }; before = t.before ++ t.last ∷ []; largest = t.largest })).last.rank ≡ index)
    by true e = (is, eqb-true t.last.rank index e)
    by false e =
        let w = is.within in
        let lt : t.last.rank < index = grind (arith, nat_tests) in (
          record {
            last_is = sym (is.later_are index lt);
            later_are = λ m le. is.later_are m (omega arith);
            before_are = AreWithin_push f t.before t.last is.before_are (let l = is.last_is in omega arith);
            largest_is = is.largest_is;
            within = omega arith;
          },
          refl,
        )

-- one more call of the current rank
AreCallCounts_raised : (f g : ℕ → ℕ) (index : ℕ) (t : CallCounts) → AreCallCounts f index t → t.last.rank ≡ index →
    g index ≡ f index + 1 → ((m : ℕ) → m ≢ index → g m ≡ f m) → AreCallCounts g index (raised t)
AreCallCounts_raised f g index t is here more others = record {
  last_is = let l : t.last.number ≡ f index = is.last_is ∙ ap f here in let e : g t.last.rank ≡ g index = ap g here in omega arith;
  later_are = λ m lt. others m (λ e. omega arith) ∙ is.later_are m lt;
  before_are = AreWithin_more f g no_less t.before is.before_are;
  largest_is = λ m. by m (eqb m index) refl;
  within = is.within;
}
  where
    no_less_by : (m : ℕ) (b : Bool) → eqb m index ≡ b → f m ≤ g m
    no_less_by m true e = let at = eqb-true m index e in let p : f m ≡ f index = ap f at in let q : g m ≡ g index = ap g at in omega arith
    no_less_by m false e = let o = others m (λ at. grind (arith, nat_tests)) in omega arith

    no_less : (m : ℕ) → f m ≤ g m
    no_less m = no_less_by m (eqb m index) refl

    by : (m : ℕ) (b : Bool) → eqb m index ≡ b → g m ≤ max t.largest (t.last.number + 1)
    by m true e =
        let at = eqb-true m index e in
        let q : g m ≡ g index = ap g at in
        let l : t.last.number ≡ f index = is.last_is ∙ ap f here in
        omega arith
    by m false e =
        let o = others m (λ at. grind (arith, nat_tests)) in
        let l = is.largest_is m in
        omega arith

-- one more call of the rank at the index
pub AreCallCounts_counted : (f g : ℕ → ℕ) (index : ℕ) (t : CallCounts) → AreCallCounts f index t →
    g index ≡ f index + 1 → ((m : ℕ) → m ≢ index → g m ≡ f m) → AreCallCounts g index (counted t index)
AreCallCounts_counted f g index t is more others =
    let current = AreCallCounts_current f index t is in
    AreCallCounts_raised f g index (with_current t index) current.0 current.1 more others

-- the number of the next call of the rank at the index
pub number_in_is : (f : ℕ → ℕ) (index : ℕ) (t : CallCounts) → AreCallCounts f index t → number_in t index ≡ f index
number_in_is f index t is = let current = AreCallCounts_current f index t is in current.0.last_is ∙ ap f current.1
