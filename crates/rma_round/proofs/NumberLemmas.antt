-- The numbers of a rank's calls of a kind on a name.
use Rattle.std.proofs.Common.{◌≡◌, ℕ, zero, suc, ◌+◌, ◌<◌, Bool, true, false, cond, ◌∷◌, ◌++◌, List, [], length, Option, Some, None, nat_eq, slice_get, refl, sym, ap, subst, ◌∙◌, arith, append-nil}
use Rattle.std.specs.Prelude.{IfSome, Contains}
use Rattle.std.specs.Option.{option_and_then, option_map_or}
use Rattle.std.specs.Cmp.Lexicographic.{pointwise, same_text}
use Rattle.std.proofs.lemmas.Option.{slice_get_within, get_or_from_slice_get}
use Rattle.rma_call.specs.Call.{Call, RankCalls}
use Rattle.rma_run.specs.Run.{IsRun, calls_of}
use Rattle.rma_run.proofs.CallLemmas.{calls_are_few}
use Rattle.rma_run.proofs.ContainLemmas.{has_first, has_later}
use Rattle.std.proofs.lemmas.Cmp.{nat_list_eq_equiv}
use Rattle.rma_run.proofs.PositionLemmas.{Rises, AreFrom, from_cons, from_rest, rises_cons, position_at, at_position}
use Rattle.rma_round.specs.declared.kind.Kind.{Kind}
use Rattle.rma_round.specs.Kind.{named, is_on}
use Rattle.rma_round.specs.Round.{numbers_from, numbers, place_in, match_of}

cond_put : (b : Bool) (n : ℕ) (r t : List ℕ) → cond b (n ∷ (r ++ t)) (r ++ t) ≡ cond b (n ∷ r) r ++ t
cond_put true n r t = refl
cond_put false n r t = refl

same_name : (name : List ℕ) → pointwise nat_eq name name ≡ true
same_name name = nat_list_eq_equiv.refl name

module _ (kind : Kind) (name : List ℕ) where
  numbers_from_push : (n : ℕ) (calls : List Call) (call : Call) →
      numbers_from kind name n (calls ++ call ∷ []) ≡ numbers_from kind name n calls ++ cond (is_on kind name call) ((n + length calls) ∷ []) []
  numbers_from_push n [] call = ap (λ k. cond (is_on kind name call) (k ∷ []) []) (let e : n ≡ n + 0 = omega arith in e)
  numbers_from_push n (x ∷ xs) call =
      ap (λ rest. cond (is_on kind name x) (n ∷ rest) rest) (numbers_from_push (n + 1) xs call)
      ∙ cond_put (is_on kind name x) n (numbers_from kind name (n + 1) xs) (cond (is_on kind name call) ((n + 1 + length xs) ∷ []) [])
      ∙ ap (λ k. numbers_from kind name n (x ∷ xs) ++ cond (is_on kind name call) (k ∷ []) []) (let e : n + 1 + length xs ≡ n + suc (length xs) = omega arith in e)

  -- one more call
  pub numbers_push : (calls : List Call) (call : Call) → numbers kind name (calls ++ call ∷ []) ≡ numbers kind name calls ++ cond (is_on kind name call) (length calls ∷ []) []
  numbers_push calls call =
      numbers_from_push 0 calls call
      ∙ ap (λ k. numbers kind name calls ++ cond (is_on kind name call) (k ∷ []) []) (let e : 0 + length calls ≡ length calls = omega arith in e)

  -- a call that is not of the kind on the name
  pub numbers_same : (calls : List Call) (call : Call) → is_on kind name call ≡ false → numbers kind name (calls ++ call ∷ []) ≡ numbers kind name calls
  numbers_same calls call not =
      numbers_push calls call ∙ ap (λ b. numbers kind name calls ++ cond b (length calls ∷ []) []) not ∙ append-nil (numbers kind name calls)

  are_from : (n : ℕ) (calls : List Call) → AreFrom n (numbers_from kind name n calls)
  are_from n [] = λ k lt. absurd (omega arith)
  are_from n (c ∷ cs) = by (is_on kind name c) (are_from (n + 1) cs)
    where
      by : (b : Bool) → AreFrom (n + 1) (numbers_from kind name (n + 1) cs) → AreFrom n (cond b (n ∷ numbers_from kind name (n + 1) cs) (numbers_from kind name (n + 1) cs))
      by true from = from_cons n (numbers_from kind name (n + 1) cs) from
      by false from = from_rest n (numbers_from kind name (n + 1) cs) from

  numbers_rise : (n : ℕ) (calls : List Call) → Rises (numbers_from kind name n calls)
  numbers_rise n [] = λ i j lt within. absurd (omega arith)
  numbers_rise n (c ∷ cs) = by (is_on kind name c) (numbers_rise (n + 1) cs)
    where
      by : (b : Bool) → Rises (numbers_from kind name (n + 1) cs) → Rises (cond b (n ∷ numbers_from kind name (n + 1) cs) (numbers_from kind name (n + 1) cs))
      by true up = rises_cons n (numbers_from kind name (n + 1) cs) (are_from (n + 1) cs) up
      by false up = up

  -- the numbers of a rank's calls rise
  pub rises : (calls : List Call) → Rises (numbers kind name calls)
  rises calls = numbers_rise 0 calls

  -- a call of the kind on the name, by its number
  abbrev HasNumber : ℕ → List Call → ℕ → Type 0
  HasNumber n calls j = (k : ℕ) × (call : Call) × (j ≡ n + k) × (slice_get calls k ≡ Some call) × (is_on kind name call ≡ true)

  number_later : (n : ℕ) (c : Call) (cs : List Call) (j : ℕ) → HasNumber (n + 1) cs j → HasNumber n (c ∷ cs) j
  number_later n c cs j (k, call, is, there, on) = (suc k, call, is ∙ (let e : n + 1 + k ≡ n + suc k = omega arith in e), there, on)

  -- a number is that of such a call
  number_from : (n : ℕ) (calls : List Call) (place j : ℕ) → slice_get (numbers_from kind name n calls) place ≡ Some j → HasNumber n calls j
  number_from n [] place j at = absurd (cc)
  number_from n (c ∷ cs) place j at = by (is_on kind name c) refl place at (λ q there. number_later n c cs j (number_from (n + 1) cs q j there))
    where
      by : (b : Bool) → is_on kind name c ≡ b → (q : ℕ) → slice_get (cond b (n ∷ numbers_from kind name (n + 1) cs) (numbers_from kind name (n + 1) cs)) q ≡ Some j
          → ((r : ℕ) → slice_get (numbers_from kind name (n + 1) cs) r ≡ Some j → HasNumber n (c ∷ cs) j) → HasNumber n (c ∷ cs) j
      by true on zero there later = let e : n ≡ j = cc in (0, c, omega arith, refl, on)
      by true on (suc q) there later = later q there
      by false on q there later = later q there

  on_is : (call : Call) (o : Option (List ℕ)) → named kind call.what ≡ o → option_map_or (λ own. pointwise nat_eq own name) o false ≡ true → named kind call.what ≡ Some name
  on_is call None is on = absurd (cc)
  on_is call (Some own) is on = is ∙ ap Some (same_text own name (sym on))

  -- the call at a place among those of the kind on the name
  pub call_at : (calls : List Call) (place number : ℕ) → slice_get (numbers kind name calls) place ≡ Some number → (call : Call) × (slice_get calls number ≡ Some call) × (named kind call.what ≡ Some name)
  call_at calls place number at =
      let one = number_from 0 calls place number at in
      let e : one.0 ≡ number = let is = one.2 in omega arith in
      (one.1, subst (λ k. slice_get calls k ≡ Some one.1) e one.3, on_is one.1 (named kind one.1.what) refl one.4)

  -- a call of the kind on the name has its number among them
  numbers_have : (n : ℕ) (calls : List Call) (k : ℕ) (call : Call) → slice_get calls k ≡ Some call → is_on kind name call ≡ true → Contains (numbers_from kind name n calls) (n + k)
  numbers_have n [] k call there on = absurd (cc)
  numbers_have n (c ∷ cs) zero call there on =
      let is : c ≡ call = cc in
      rw (is, on) (subst (Contains (n ∷ numbers_from kind name (n + 1) cs)) (let e : n ≡ n + 0 = omega arith in e) (has_first n (numbers_from kind name (n + 1) cs)))
  numbers_have n (c ∷ cs) (suc k) call there on =
      by (is_on kind name c) (subst (Contains (numbers_from kind name (n + 1) cs)) (let e : n + 1 + k ≡ n + suc k = omega arith in e) (numbers_have (n + 1) cs k call there on))
    where
      by : (b : Bool) → Contains (numbers_from kind name (n + 1) cs) (n + suc k) → Contains (cond b (n ∷ numbers_from kind name (n + 1) cs) (numbers_from kind name (n + 1) cs)) (n + suc k)
      by true has = has_later n (n + suc k) (numbers_from kind name (n + 1) cs) has
      by false has = has

  -- so a name with such a call has numbers
  pub some_number : (calls : List Call) (k : ℕ) (call : Call) → slice_get calls k ≡ Some call → named kind call.what ≡ Some name → Contains (numbers kind name calls) (0 + k)
  some_number calls k call there is = numbers_have 0 calls k call there (rw is (same_name name))

  -- a number has its place
  pub place_is : (calls : List Call) (place number : ℕ) → slice_get (numbers kind name calls) place ≡ Some number → place_in kind name calls number ≡ Some place
  place_is calls place number at =
      position_at number (numbers kind name calls) place (rises calls) (slice_get_within (numbers kind name calls) place number at) (get_or_from_slice_get (numbers kind name calls) place number 0 at)

  pub place_has : (calls : List Call) (place number : ℕ) → place_in kind name calls number ≡ Some place → slice_get (numbers kind name calls) place ≡ Some number
  place_has calls place number is = at_position number (numbers kind name calls) place is

  -- the call of another rank in a round is a call of that rank
  pub match_is : (calls : ℕ → List Call) (rank number other found : ℕ) → match_of kind name calls rank number other ≡ Some found → (call : Call) × (slice_get (calls other) found ≡ Some call)
  match_is calls rank number other found is = by (place_in kind name (calls rank) number) is
    where
      by : (o : Option ℕ) → option_and_then (slice_get (numbers kind name (calls other))) o ≡ Some found → (call : Call) × (slice_get (calls other) found ≡ Some call)
      by None at = absurd (cc)
      by (Some place) at = let one = call_at (calls other) place found at in (one.0, one.1)

  -- its number is one that a call of the run may have
  pub match_below : (ranks : List RankCalls) (rank number other : ℕ) (found : Option ℕ) → IsRun ranks → found ≡ match_of kind name (calls_of ranks) rank number other → IfSome found (λ j. j < 2147483648)
  match_below ranks rank number other None run is = tt
  match_below ranks rank number other (Some j) run is =
      let one = match_is (calls_of ranks) rank number other j (sym is) in
      let below = slice_get_within (calls_of ranks other) j one.0 one.1 in
      let few = calls_are_few ranks other run in
      omega arith
