-- The call that opens the epoch which a call closes.
use Rattle.std.proofs.Common.{◌≡◌, ℕ, zero, suc, ◌+◌, ◌<◌, ◌⊎◌, inl, inr, Bool, true, false, cond, List, [], ◌∷◌, Option, Some, None, nat_eq, take, slice_get, refl, sym, ap, subst, ◌∙◌, arith}
use Rattle.std.specs.Option.{option_and_then, option_map_or}
use Rattle.std.specs.Cmp.Lexicographic.{pointwise, same_text, nat_list_eq_equiv}
use Rattle.rma_call.specs.Call.{Call}
use Rattle.rma_exposure.specs.declared.side.Side.{Side}
use Rattle.rma_exposure.specs.Opening.{Opening, opened, closed, opens_on, closes_on}
use Rattle.rma_exposure.specs.Closing.{pending_after, pending_of, opener_of, IsClosedBy}

-- a call neither opens nor closes on the window
abbrev IsApart : Side → List ℕ → Call → Type 0
IsApart side window call = (closes_on side window call ≡ false) × (opens_on side window call ≡ false)

-- none of these calls does
abbrev AreApart : Side → List ℕ → List Call → Type 0
AreApart side window calls = (j : ℕ) (other : Call) → slice_get calls j ≡ Some other → IsApart side window other

-- a call opens on the window, and those after it are apart
record IsLast (side : Side) (window : List ℕ) (calls : List Call) (index : ℕ) : Type 0 where
  call : Call
  there : slice_get calls index ≡ Some call
  opens : opens_on side window call ≡ true
  after : (j : ℕ) (other : Call) → index < j → slice_get calls j ≡ Some other → IsApart side window other

module _ (side : Side) (window : List ℕ) where
  apart_more : (c : Call) (cs : List Call) → IsApart side window c → AreApart side window cs → AreApart side window (c ∷ cs)
  apart_more c cs own rest zero other there = let same : c ≡ other = cc in subst (IsApart side window) same own
  apart_more c cs own rest (suc j) other there = rest j other there

  last_here : (c : Call) (cs : List Call) → opens_on side window c ≡ true → AreApart side window cs → IsLast side window (c ∷ cs) 0
  last_here c cs opens rest = record { call = c; there = refl; opens = opens; after = after }
    where
      after : (j : ℕ) (other : Call) → 0 < j → slice_get (c ∷ cs) j ≡ Some other → IsApart side window other
      after zero other lt there = absurd (omega arith)
      after (suc j) other lt there = rest j other there

  last_later : (c : Call) (cs : List Call) (i : ℕ) → IsLast side window cs i → IsLast side window (c ∷ cs) (suc i)
  last_later c cs i is = record { call = is.call; there = is.there; opens = is.opens; after = after }
    where
      after : (j : ℕ) (other : Call) → suc i < j → slice_get (c ∷ cs) j ≡ Some other → IsApart side window other
      after zero other lt there = absurd (omega arith)
      after (suc j) other lt there = is.after j other (omega arith) there

  -- what is pending was so before, or is the last of the calls that opens
  abbrev IsPending : ℕ → Option ℕ → List Call → ℕ → Type 0
  IsPending n found calls k = ((found ≡ Some k) × AreApart side window calls) ⊎ ((i : ℕ) × (k ≡ n + i) × IsLast side window calls i)

  pending_is : (n : ℕ) (found : Option ℕ) (calls : List Call) (k : ℕ) → pending_after side window n found calls ≡ Some k → IsPending n found calls k
  pending_is n found [] k is = inl (is, λ j other there. absurd (cc))
  pending_is n found (c ∷ cs) k is =
      by (opens_on side window c) (closes_on side window c) refl refl (pending_is (n + 1) (cond (opens_on side window c) (Some n) (cond (closes_on side window c) None found)) cs k is)
    where
      by : (a b : Bool) → opens_on side window c ≡ a → closes_on side window c ≡ b → IsPending (n + 1) (cond a (Some n) (cond b None found)) cs k → IsPending n found (c ∷ cs) k
      by true b opens closes (inl (same, rest)) = let e : n ≡ k = cc in inr (0, omega arith, last_here c cs opens rest)
      by false true opens closes (inl (same, rest)) = absurd (cc)
      by false false opens closes (inl (same, rest)) = inl (same, apart_more c cs (closes, opens) rest)
      by a b opens closes (inr (i, e, last)) = inr (suc i, omega arith, last_later c cs i last)

  pending_stays : (n : ℕ) (found : Option ℕ) (calls : List Call) → AreApart side window calls → pending_after side window n found calls ≡ found
  pending_stays n found [] rest = refl
  pending_stays n found (c ∷ cs) rest =
      let here = rest 0 c refl in
      rw (here.1, here.0) (pending_stays (n + 1) found cs (λ j other there. rest (suc j) other there))

  pending_has : (n : ℕ) (found : Option ℕ) (calls : List Call) (i : ℕ) → IsLast side window calls i → pending_after side window n found calls ≡ Some (n + i)
  pending_has n found [] i is = let there = is.there in absurd (cc)
  pending_has n found (c ∷ cs) zero is =
      let there = is.there in
      let same : is.call ≡ c = cc in
      rw (subst (λ o. opens_on side window o ≡ true) same is.opens)
      (pending_stays (n + 1) (Some n) cs (λ j other there. is.after (suc j) other (omega arith) there) ∙ ap Some (let e : n ≡ n + 0 = omega arith in e))
  pending_has n found (c ∷ cs) (suc i) is =
      let rest : IsLast side window cs i = record { call = is.call; there = is.there; opens = is.opens; after = λ j other lt there. is.after (suc j) other (omega arith) there } in
      pending_has (n + 1) (cond (opens_on side window c) (Some n) (cond (closes_on side window c) None found)) cs i rest
      ∙ ap Some (let e : n + 1 + i ≡ n + suc i = omega arith in e)

  -- the window is that of a call which opens on it, and of one that closes on it
  opens_there : (call : Call) → opens_on side window call ≡ true → (opening : Opening) × (opened side call.what ≡ Some opening) × (window ≡ opening.window)
  opens_there call on = by (opened side call.what) refl on
    where
      by : (o : Option Opening) → opened side call.what ≡ o → option_map_or (λ (opening : Opening). pointwise nat_eq window opening.window) o false ≡ true →
          (opening : Opening) × (opened side call.what ≡ Some opening) × (window ≡ opening.window)
      by None is at = absurd (cc)
      by (Some opening) is at = (opening, is, same_text window opening.window (sym at))

  closes_there : (call : Call) → closes_on side window call ≡ true → closed side call.what ≡ Some window
  closes_there call on = by (closed side call.what) refl on
    where
      by : (o : Option (List ℕ)) → closed side call.what ≡ o → option_map_or (λ own. pointwise nat_eq window own) o false ≡ true → closed side call.what ≡ Some window
      by None is at = absurd (cc)
      by (Some own) is at = is ∙ ap Some (sym (same_text window own (sym at)))

in_take : (n : ℕ) (calls : List Call) (k : ℕ) (call : Call) → slice_get (take n calls) k ≡ Some call → (k < n) × (slice_get calls k ≡ Some call)
in_take zero calls k call at = absurd (cc)
in_take (suc n) [] k call at = absurd (cc)
in_take (suc n) (c ∷ cs) zero call at = (omega arith, at)
in_take (suc n) (c ∷ cs) (suc k) call at = let rest = in_take n cs k call at in let lt = rest.0 in (omega arith, rest.1)

take_has : (n : ℕ) (calls : List Call) (k : ℕ) (call : Call) → k < n → slice_get calls k ≡ Some call → slice_get (take n calls) k ≡ Some call
take_has zero calls k call lt at = absurd (omega arith)
take_has (suc n) [] k call lt at = at
take_has (suc n) (c ∷ cs) zero call lt at = at
take_has (suc n) (c ∷ cs) (suc k) call lt at = take_has n cs k call (omega arith) at

module _ (side : Side) (calls : List Call) (opener closing : ℕ) where
  last_is : (call : Call) (window : List ℕ) → slice_get calls closing ≡ Some call → closed side call.what ≡ Some window → IsPending side window 0 None (take closing calls) opener → IsClosedBy side calls opener closing
  last_is call window there closes (inl (none, rest)) = absurd (cc)
  last_is call window there closes (inr (i, e, last)) =
      let here = in_take closing calls i last.call last.there in
      let one = opens_there side window last.call last.opens in
      let is : IsClosedBy side calls i closing = record {
        opening = one.0;
        call = call;
        opens = ap (option_and_then (λ (c : Call). opened side c.what)) here.1 ∙ one.1;
        there = there;
        closes = subst (λ w. closes_on side w call ≡ true) one.2 (rw closes (nat_list_eq_equiv.refl window));
        later = here.0;
        between = λ k other gt lt at. subst (λ w. IsApart side w other) one.2 (last.after k other gt (take_has closing calls k other lt at));
      } in
      subst (λ o. IsClosedBy side calls o closing) (let same : i ≡ opener = omega arith in same) is

  -- a call closes the epoch of its opener
  pub opener_is : opener_of side calls closing ≡ Some opener → IsClosedBy side calls opener closing
  opener_is is = by (slice_get calls closing) refl is
    where
      by_window : (call : Call) → slice_get calls closing ≡ Some call → (o : Option (List ℕ)) → closed side call.what ≡ o → option_and_then (λ window. pending_of side window (take closing calls)) o ≡ Some opener → IsClosedBy side calls opener closing
      by_window call there None closes at = absurd (cc)
      by_window call there (Some window) closes at = last_is call window there closes (pending_is side window 0 None (take closing calls) opener at)

      by : (o : Option Call) → slice_get calls closing ≡ o → option_and_then (λ window. pending_of side window (take closing calls)) (option_and_then (λ (c : Call). closed side c.what) o) ≡ Some opener → IsClosedBy side calls opener closing
      by None there at = absurd (cc)
      by (Some call) there at = by_window call there (closed side call.what) refl at

  -- and of no other call
  pub opener_has : IsClosedBy side calls opener closing → opener_of side calls closing ≡ Some opener
  opener_has is = by (slice_get calls opener) refl is.opens
    where
      window : List ℕ
      window = is.opening.window

      last_at : (call : Call) → slice_get calls opener ≡ Some call → opened side call.what ≡ Some is.opening → IsLast side window (take closing calls) opener
      last_at call there opens = record {
        call = call;
        there = take_has closing calls opener call is.later there;
        opens = rw opens (nat_list_eq_equiv.refl window);
        after = λ j other lt at. let within = in_take closing calls j other at in is.between j other lt within.0 within.1;
      }

      by : (o : Option Call) → slice_get calls opener ≡ o → option_and_then (λ (c : Call). opened side c.what) o ≡ Some is.opening → opener_of side calls closing ≡ Some opener
      by None there opens = absurd (cc)
      by (Some call) there opens =
          ap (λ o. option_and_then (λ w. pending_of side w (take closing calls)) (option_and_then (λ (c : Call). closed side c.what) o)) is.there
          ∙ ap (option_and_then (λ w. pending_of side w (take closing calls))) (closes_there side window is.call is.closes)
          ∙ pending_has side window 0 None (take closing calls) opener (last_at call there opens)
          ∙ ap Some (let e : 0 + opener ≡ opener = omega arith in e)
