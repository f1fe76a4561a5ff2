-- The call that closes an epoch.
use Rattle.std.proofs.Common.{◌≡◌, ℕ, zero, suc, ◌+◌, ◌<◌, Bool, true, false, cond, List, [], ◌∷◌, Option, Some, None, slice_get, refl, ap, subst, ◌∙◌, arith}
use Rattle.std.specs.Option.{option_and_then}
use Rattle.rma_call.specs.Call.{Call}
use Rattle.rma_exposure.specs.declared.side.Side.{Side}
use Rattle.rma_exposure.specs.Opening.{Opening, opened, opens_on, closes_on}
use Rattle.rma_exposure.specs.Closing.{first_closing, closing_at, closing_of, IsClosedBy}

-- a call closes on the window, and none of those before it opens or closes there
record IsFirst (side : Side) (window : List ℕ) (calls : List Call) (index : ℕ) : Type 0 where
  call : Call
  there : slice_get calls index ≡ Some call
  closes : closes_on side window call ≡ true
  before : (k : ℕ) (other : Call) → k < index → slice_get calls k ≡ Some other → (closes_on side window other ≡ false) × (opens_on side window other ≡ false)

module _ (side : Side) (window : List ℕ) where
  first_here : (c : Call) (cs : List Call) → closes_on side window c ≡ true → IsFirst side window (c ∷ cs) 0
  first_here c cs closes = record { call = c; there = refl; closes = closes; before = λ k other lt there. absurd (omega arith) }

  first_later : (c : Call) (cs : List Call) (index : ℕ) → closes_on side window c ≡ false → opens_on side window c ≡ false → IsFirst side window cs index → IsFirst side window (c ∷ cs) (suc index)
  first_later c cs index closes opens is = record { call = is.call; there = is.there; closes = is.closes; before = before }
    where
      before : (k : ℕ) (other : Call) → k < suc index → slice_get (c ∷ cs) k ≡ Some other → (closes_on side window other ≡ false) × (opens_on side window other ≡ false)
      before zero other lt there = let same : c ≡ other = cc in (subst (λ o. closes_on side window o ≡ false) same closes, subst (λ o. opens_on side window o ≡ false) same opens)
      before (suc k) other lt there = is.before k other (omega arith) there

  first_is : (n : ℕ) (calls : List Call) (j : ℕ) → first_closing side window n calls ≡ Some j → (index : ℕ) × (j ≡ n + index) × IsFirst side window calls index
  first_is n [] j is = absurd (cc)
  first_is n (c ∷ cs) j is = by (closes_on side window c) (opens_on side window c) refl refl is (first_is (n + 1) cs j)
    where
      by : (a b : Bool) → closes_on side window c ≡ a → opens_on side window c ≡ b → cond a (Some n) (cond b None (first_closing side window (n + 1) cs)) ≡ Some j
          → (first_closing side window (n + 1) cs ≡ Some j → (index : ℕ) × (j ≡ n + 1 + index) × IsFirst side window cs index) → (index : ℕ) × (j ≡ n + index) × IsFirst side window (c ∷ cs) index
      by true b closes opens at rest = let same : n ≡ j = cc in (0, omega arith, first_here c cs closes)
      by false true closes opens at rest = absurd (cc)
      by false false closes opens at rest = let one = rest at in let e : j ≡ n + 1 + one.0 = one.1 in (suc one.0, omega arith, first_later c cs one.0 closes opens one.2)

  first_has : (n : ℕ) (calls : List Call) (index : ℕ) → IsFirst side window calls index → first_closing side window n calls ≡ Some (n + index)
  first_has n [] index is = let there = is.there in absurd (cc)
  first_has n (c ∷ cs) zero is =
      let there = is.there in
      let same : is.call ≡ c = cc in
      rw (subst (λ o. closes_on side window o ≡ true) same is.closes) (ap Some (let e : n ≡ n + 0 = omega arith in e))
  first_has n (c ∷ cs) (suc index) is =
      let none = is.before 0 c (omega arith) refl in
      let rest : IsFirst side window cs index = record { call = is.call; there = is.there; closes = is.closes; before = λ k other lt there. is.before (suc k) other (omega arith) there } in
      rw (none.0, none.1) (first_has (n + 1) cs index rest ∙ ap Some (let e : n + 1 + index ≡ n + suc index = omega arith in e))

module _ (side : Side) where
  closed_here : (c : Call) (cs : List Call) (opening : Opening) (index : ℕ) → opened side c.what ≡ Some opening → IsFirst side opening.window cs index → IsClosedBy side (c ∷ cs) 0 (suc index)
  closed_here c cs opening index opens is = record { opening = opening; call = is.call; opens = opens; there = is.there; closes = is.closes; later = omega arith; between = between }
    where
      between : (k : ℕ) (other : Call) → 0 < k → k < suc index → slice_get (c ∷ cs) k ≡ Some other → (closes_on side opening.window other ≡ false) × (opens_on side opening.window other ≡ false)
      between zero other gt lt there = absurd (omega arith)
      between (suc k) other gt lt there = is.before k other (omega arith) there

  closed_later : (c : Call) (cs : List Call) (opener closing : ℕ) → IsClosedBy side cs opener closing → IsClosedBy side (c ∷ cs) (suc opener) (suc closing)
  closed_later c cs opener closing is = record { opening = is.opening; call = is.call; opens = is.opens; there = is.there; closes = is.closes; later = let lt = is.later in omega arith; between = between }
    where
      between : (k : ℕ) (other : Call) → suc opener < k → k < suc closing → slice_get (c ∷ cs) k ≡ Some other → (closes_on side is.opening.window other ≡ false) × (opens_on side is.opening.window other ≡ false)
      between zero other gt lt there = absurd (omega arith)
      between (suc k) other gt lt there = is.between k other (omega arith) (omega arith) there

  closed_at : (n : ℕ) (calls : List Call) (opener j : ℕ) → closing_at side n calls opener ≡ Some j → (closing : ℕ) × (j ≡ n + closing) × IsClosedBy side calls opener closing
  closed_at n [] opener j is = absurd (cc)
  closed_at n (c ∷ cs) zero j is = by (opened side c.what) refl is
    where
      by : (o : Option Opening) → opened side c.what ≡ o → option_and_then (λ (opening : Opening). first_closing side opening.window (n + 1) cs) o ≡ Some j → (closing : ℕ) × (j ≡ n + closing) × IsClosedBy side (c ∷ cs) 0 closing
      by None opens at = absurd (cc)
      by (Some opening) opens at =
          let one = first_is side opening.window (n + 1) cs j at in
          let e : j ≡ n + 1 + one.0 = one.1 in
          (suc one.0, omega arith, closed_here c cs opening one.0 opens one.2)
  closed_at n (c ∷ cs) (suc opener) j is =
      let one = closed_at (n + 1) cs opener j is in
      let e : j ≡ n + 1 + one.0 = one.1 in
      (suc one.0, omega arith, closed_later c cs opener one.0 one.2)

  closed_has : (n : ℕ) (calls : List Call) (opener closing : ℕ) → IsClosedBy side calls opener closing → closing_at side n calls opener ≡ Some (n + closing)
  closed_has n [] opener closing is = let opens = is.opens in absurd (cc)
  closed_has n (c ∷ cs) opener zero is = let lt = is.later in absurd (omega arith)
  closed_has n (c ∷ cs) zero (suc closing) is =
      let first : IsFirst side is.opening.window cs closing = record { call = is.call; there = is.there; closes = is.closes; before = λ k other lt there. is.between (suc k) other (omega arith) (omega arith) there } in
      rw is.opens (first_has side is.opening.window (n + 1) cs closing first ∙ ap Some (let e : n + 1 + closing ≡ n + suc closing = omega arith in e))
  closed_has n (c ∷ cs) (suc opener) (suc closing) is =
      let rest : IsClosedBy side cs opener closing = record { opening = is.opening; call = is.call; opens = is.opens; there = is.there; closes = is.closes; later = let lt = is.later in omega arith; between = λ k other gt lt there. is.between (suc k) other (omega arith) (omega arith) there } in
      closed_has (n + 1) cs opener closing rest ∙ ap Some (let e : n + 1 + closing ≡ n + suc closing = omega arith in e)

pub closing_is : (side : Side) (calls : List Call) (opener closing : ℕ) → closing_of side calls opener ≡ Some closing → IsClosedBy side calls opener closing
closing_is side calls opener closing is =
    let one = closed_at side 0 calls opener closing is in
    let e : closing ≡ 0 + one.0 = one.1 in
    subst (IsClosedBy side calls opener) (let same : one.0 ≡ closing = omega arith in same) one.2

pub closing_has : (side : Side) (calls : List Call) (opener closing : ℕ) → IsClosedBy side calls opener closing → closing_of side calls opener ≡ Some closing
closing_has side calls opener closing is = closed_has side 0 calls opener closing is ∙ ap Some (let e : 0 + closing ≡ closing = omega arith in e)
