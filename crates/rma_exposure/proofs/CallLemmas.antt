-- What one more call of a rank adds.
use Rattle.std.proofs.Common.{◌≡◌, ℕ, zero, suc, ◌+◌, ◌<◌, ◌≤◌, Bool, true, false, cond, ◌∷◌, ◌++◌, List, [], length, take, slice_get, Option, Some, None, nat_eq, refl, sym, ap, ◌∙◌, arith}
use Rattle.std.proofs.Math.Seq.{take-append_seam}
use Rattle.std.proofs.lemmas.Bool.{eqb-true}
use Rattle.std.proofs.lemmas.List.{take-append-le}
use Rattle.std.proofs.lemmas.Option.{slice_get_past, slice_get_within}
use Rattle.std.specs.Option.{option_and_then}
use Rattle.std.specs.Cmp.Lexicographic.{pointwise, same_text, nat_list_eq_equiv}
use Rattle.std.proofs.lemmas.Bool.Decides.{nat_tests}
use Rattle.rma_call.specs.Call.{Call}
use Rattle.rma_run.proofs.CallLemmas.{next_same, zero_next, next_zero}
use Rattle.rma_exposure.specs.declared.side.Side.{Side}
use Rattle.rma_exposure.specs.Opening.{Opening, opening_at, opened, closed, opens_on, opens_with, closes_on}
use Rattle.rma_exposure.specs.Closing.{first_closing, closing_at, closing_of, pending_after, pending_of, closed_at, opener_of}
use Rattle.rma_exposure.specs.Matching.{numbers_from}
use Rattle.rma_exposure.specs.inside.Epochs.{is_pending}

-- ---- numbers

cond_put : (b : Bool) (n : ℕ) (r t : List ℕ) → cond b (n ∷ (r ++ t)) (r ++ t) ≡ cond b (n ∷ r) r ++ t
cond_put true n r t = refl
cond_put false n r t = refl

pub numbers_from_push : (side : Side) (window : List ℕ) (other n : ℕ) (calls : List Call) (call : Call) →
    numbers_from side window other n (calls ++ call ∷ []) ≡ numbers_from side window other n calls ++ cond (opens_with side window other call) ((n + length calls) ∷ []) []
numbers_from_push side window other n [] call = ap (λ k. cond (opens_with side window other call) (k ∷ []) []) (let e : n ≡ n + 0 = omega arith in e)
numbers_from_push side window other n (x ∷ xs) call =
    ap (λ rest. cond (opens_with side window other x) (n ∷ rest) rest) (numbers_from_push side window other (n + 1) xs call)
    ∙ cond_put (opens_with side window other x) n (numbers_from side window other (n + 1) xs) (cond (opens_with side window other call) ((n + 1 + length xs) ∷ []) [])
    ∙ ap (λ k. numbers_from side window other n (x ∷ xs) ++ cond (opens_with side window other call) (k ∷ []) []) (let e : n + 1 + length xs ≡ n + suc (length xs) = omega arith in e)

-- ---- the epoch that is open

module _ (side : Side) (window : List ℕ) where
  -- what a call makes of it
  abbrev pub next_pending : ℕ → Option ℕ → Call → Option ℕ
  next_pending n found call = cond (opens_on side window call) (Some n) (cond (closes_on side window call) None found)

  pub pending_after_push : (n : ℕ) (found : Option ℕ) (calls : List Call) (call : Call) →
      pending_after side window n found (calls ++ call ∷ []) ≡ next_pending (n + length calls) (pending_after side window n found calls) call
  pending_after_push n found [] call = ap (λ k. next_pending k found call) (let e : n ≡ n + 0 = omega arith in e)
  pending_after_push n found (x ∷ xs) call =
      pending_after_push (n + 1) (next_pending n found x) xs call
      ∙ ap (λ k. next_pending k (pending_after side window n found (x ∷ xs)) call) (let e : n + 1 + length xs ≡ n + suc (length xs) = omega arith in e)

  differs : (k n : ℕ) → k < n → is_pending (Some n) k ≡ false
  differs k n lt = grind (arith, nat_tests)

  -- an opening that is not this one does not come to be it
  pending_other : (n k : ℕ) (found : Option ℕ) (calls : List Call) → is_pending found k ≡ false →
      is_pending (pending_after side window n found calls) k ≡ is_pending (pending_after side window n None calls) k
  pending_other n k found [] not = not
  pending_other n k found (x ∷ xs) not = by (opens_on side window x) (closes_on side window x) (pending_other (n + 1) k found xs not)
    where
      by : (b c : Bool) → is_pending (pending_after side window (n + 1) found xs) k ≡ is_pending (pending_after side window (n + 1) None xs) k → is_pending (pending_after side window (n + 1) (cond b (Some n) (cond c None found)) xs) k
          ≡ is_pending (pending_after side window (n + 1) (cond b (Some n) (cond c None None)) xs) k
      by true c rest = refl
      by false true rest = refl
      by false false rest = rest

  -- calls after an opening do not open it
  pending_before : (n k : ℕ) (calls : List Call) → k < n → is_pending (pending_after side window n None calls) k ≡ false
  pending_before n k [] lt = refl
  pending_before n k (x ∷ xs) lt = by (opens_on side window x) (closes_on side window x) (pending_before (n + 1) k xs (omega arith))
    where
      by : (b c : Bool) → is_pending (pending_after side window (n + 1) None xs) k ≡ false → is_pending (pending_after side window (n + 1) (cond b (Some n) (cond c None None)) xs) k ≡ false
      by true c rest = pending_other (n + 1) k (Some n) xs (differs k n lt) ∙ rest
      by false true rest = rest
      by false false rest = rest

  never_pending : (n k : ℕ) (found : Option ℕ) (calls : List Call) → k < n → is_pending found k ≡ false → is_pending (pending_after side window n found calls) k ≡ false
  never_pending n k found calls lt not = pending_other n k found calls not ∙ pending_before n k calls lt

  -- ---- the call that closes an epoch

  is_itself : (k : ℕ) → is_pending (Some k) k ≡ true
  is_itself k = grind (arith, nat_tests)

  -- a call that closes comes first where the epoch is open before it
  first_closing_push : (n k : ℕ) (calls : List Call) (call : Call) → closes_on side window call ≡ true → k < n →
      first_closing side window n (calls ++ call ∷ []) ≡ cond (is_pending (pending_after side window n (Some k) calls) k) (Some (n + length calls)) (first_closing side window n calls)
  first_closing_push n k [] call closes lt = rw (closes, is_itself k) (ap Some (let e : n ≡ n + 0 = omega arith in e))
  first_closing_push n k (x ∷ xs) call closes lt = by (closes_on side window x) (opens_on side window x) (first_closing_push (n + 1) k xs call closes (omega arith))
    where
      later : k < n + 1
      later = omega arith

      by : (c b : Bool)
          → first_closing side window (n + 1) (xs ++ call ∷ []) ≡ cond (is_pending (pending_after side window (n + 1) (Some k) xs) k) (Some (n + 1 + length xs)) (first_closing side window (n + 1) xs)
          → cond c (Some n) (cond b None (first_closing side window (n + 1) (xs ++ call ∷ [])))
          ≡ cond (is_pending (pending_after side window (n + 1) (cond b (Some n) (cond c None (Some k))) xs) k) (Some (n + suc (length xs))) (cond c (Some n) (cond b None (first_closing side window (n + 1) xs)))
      by true true rest = sym (ap (λ is. cond is (Some (n + suc (length xs))) (Some n)) (never_pending (n + 1) k (Some n) xs later (differs k n lt)))
      by true false rest = sym (ap (λ is. cond is (Some (n + suc (length xs))) (Some n)) (never_pending (n + 1) k None xs later refl))
      by false true rest = sym (ap (λ is. cond is (Some (n + suc (length xs))) None) (never_pending (n + 1) k (Some n) xs later (differs k n lt)))
      by false false rest = rest ∙ ap (λ m. cond (is_pending (pending_after side window (n + 1) (Some k) xs) k) (Some m) (first_closing side window (n + 1) xs)) (let e : n + 1 + length xs ≡ n + suc (length xs) = omega arith in e)

  -- any other call changes nothing
  first_closing_same : (n : ℕ) (calls : List Call) (call : Call) → closes_on side window call ≡ false → first_closing side window n (calls ++ call ∷ []) ≡ first_closing side window n calls
  first_closing_same n [] call not = rw not (by (opens_on side window call))
    where
      by : (b : Bool) → ◌≡◌ {A = Option ℕ} (cond b None None) None
      by true = refl
      by false = refl
  first_closing_same n (x ∷ xs) call not = ap (λ rest. cond (closes_on side window x) (Some n) (cond (opens_on side window x) None rest)) (first_closing_same (n + 1) xs call not)

none_then : {X Y : Type 0} (o : Option X) → ◌≡◌ {A = Option Y} (option_and_then (λ (x : X). None) o) None
none_then None = refl
none_then (Some x) = refl

-- the window of an opening, seen from another one
opens_is : (side : Side) (window : List ℕ) (call : Call) (opening : Opening) → opened side call.what ≡ Some opening → opens_on side window call ≡ pointwise nat_eq window opening.window
opens_is side window call opening is = rw is refl

opens_none : (side : Side) (window : List ℕ) (call : Call) → opened side call.what ≡ None → opens_on side window call ≡ false
opens_none side window call is = rw is refl

pub closes_is : (side : Side) (window own : List ℕ) (call : Call) → closed side call.what ≡ Some own → closes_on side window call ≡ pointwise nat_eq window own
closes_is side window own call is = rw is refl

pub closes_none : (side : Side) (window : List ℕ) (call : Call) → closed side call.what ≡ None → closes_on side window call ≡ false
closes_none side window call is = rw is refl

-- a call that closes the epoch which is open on its window
module _ (side : Side) (window : List ℕ) (call : Call) (closes : closed side call.what ≡ Some window) where
  same_window : (own : List ℕ) → pointwise nat_eq window own ≡ true → window ≡ own
  same_window own same = same_text window own (sym same)

  -- the first call is the one that opens an epoch
  closed_first : (n : ℕ) (x : Call) (xs : List Call) (o : Option Opening) → opened side x.what ≡ o →
      option_and_then (λ (opening : Opening). first_closing side opening.window (n + 1) (xs ++ call ∷ [])) o
      ≡ cond (is_pending (pending_after side window n None (x ∷ xs)) n) (Some (n + 1 + length xs)) (option_and_then (λ (opening : Opening). first_closing side opening.window (n + 1) xs) o)
  closed_first n x xs None is =
      rw (opens_none side window x is) (sym (ap (λ b. cond b (Some (n + 1 + length xs)) None) (by (closes_on side window x))))
    where
      by : (c : Bool) → is_pending (pending_after side window (n + 1) (cond c None None) xs) n ≡ false
      by true = pending_before side window (n + 1) n xs (omega arith)
      by false = pending_before side window (n + 1) n xs (omega arith)
  closed_first n x xs (Some opening) is = rw (opens_is side window x opening is) (by (pointwise nat_eq window opening.window) refl)
    where
      not : (c : Bool) → is_pending (pending_after side window (n + 1) (cond c None None) xs) n ≡ false
      not true = pending_before side window (n + 1) n xs (omega arith)
      not false = pending_before side window (n + 1) n xs (omega arith)

      by : (b : Bool) → pointwise nat_eq window opening.window ≡ b → first_closing side opening.window (n + 1) (xs ++ call ∷ [])
          ≡ cond (is_pending (pending_after side window (n + 1) (cond b (Some n) (cond (closes_on side window x) None None)) xs) n) (Some (n + 1 + length xs)) (first_closing side opening.window (n + 1) xs)
      by true same =
          rw (← same_window opening.window same)
          (first_closing_push side window (n + 1) n xs call (closes_is side window window call closes ∙ nat_list_eq_equiv.refl window) (omega arith))
      by false other =
          first_closing_same side opening.window (n + 1) xs call (closes_is side opening.window window call closes ∙ nat_list_eq_equiv.symm opening.window window ∙ other)
          ∙ sym (ap (λ b. cond b (Some (n + 1 + length xs)) (first_closing side opening.window (n + 1) xs)) (not (closes_on side window x)))

  closing_at_push : (n : ℕ) (calls : List Call) (i : ℕ) → closing_at side n (calls ++ call ∷ []) i
      ≡ cond (is_pending (pending_after side window n None calls) (n + i)) (Some (n + length calls)) (closing_at side n calls i)
  closing_at_push n [] zero = none_then (opened side call.what)
  closing_at_push n [] (suc i) = refl
  closing_at_push n (x ∷ xs) zero =
      closed_first n x xs (opened side x.what) refl
      ∙ ap (λ k. cond (is_pending (pending_after side window n None (x ∷ xs)) k) (Some (n + 1 + length xs)) (closing_at side n (x ∷ xs) zero)) (let e : n ≡ n + 0 = omega arith in e)
      ∙ ap (λ k. cond (is_pending (pending_after side window n None (x ∷ xs)) (n + 0)) (Some k) (closing_at side n (x ∷ xs) zero)) (let e : n + 1 + length xs ≡ n + suc (length xs) = omega arith in e)
  closing_at_push n (x ∷ xs) (suc i) =
      closing_at_push (n + 1) xs i
      ∙ ap (λ b. cond b (Some (n + 1 + length xs)) (closing_at side (n + 1) xs i)) (by (opens_on side window x) (closes_on side window x))
      ∙ ap (λ k. cond (is_pending (pending_after side window n None (x ∷ xs)) k) (Some (n + 1 + length xs)) (closing_at side (n + 1) xs i)) (let e : n + 1 + i ≡ n + suc i = omega arith in e)
      ∙ ap (λ k. cond (is_pending (pending_after side window n None (x ∷ xs)) (n + suc i)) (Some k) (closing_at side (n + 1) xs i)) (let e : n + 1 + length xs ≡ n + suc (length xs) = omega arith in e)
    where
      above : is_pending (Some n) (n + 1 + i) ≡ false
      above = grind (arith, nat_tests)

      by : (b c : Bool) → is_pending (pending_after side window (n + 1) None xs) (n + 1 + i) ≡ is_pending (pending_after side window (n + 1) (cond b (Some n) (cond c None None)) xs) (n + 1 + i)
      by true c = sym (pending_other side window (n + 1) (n + 1 + i) (Some n) xs above)
      by false true = refl
      by false false = refl

  pub closing_of_push : (calls : List Call) (i : ℕ) → closing_of side (calls ++ call ∷ []) i
      ≡ cond (is_pending (pending_after side window 0 None calls) i) (Some (length calls)) (closing_of side calls i)
  closing_of_push calls i =
      closing_at_push 0 calls i
      ∙ ap (λ k. cond (is_pending (pending_after side window 0 None calls) k) (Some (0 + length calls)) (closing_of side calls i)) (let e : 0 + i ≡ i = omega arith in e)
      ∙ ap (λ k. cond (is_pending (pending_after side window 0 None calls) i) (Some k) (closing_of side calls i)) (let e : 0 + length calls ≡ length calls = omega arith in e)

-- a call that closes none
pub closing_at_same : (side : Side) (n : ℕ) (calls : List Call) (call : Call) (i : ℕ) → closed side call.what ≡ None → closing_at side n (calls ++ call ∷ []) i ≡ closing_at side n calls i
closing_at_same side n [] call zero not = none_then (opened side call.what)
closing_at_same side n [] call (suc i) not = refl
closing_at_same side n (x ∷ xs) call zero not = by (opened side x.what)
  where
    by : (o : Option Opening) → option_and_then (λ (opening : Opening). first_closing side opening.window (n + 1) (xs ++ call ∷ [])) o ≡ option_and_then (λ (opening : Opening). first_closing side opening.window (n + 1) xs) o
    by None = refl
    by (Some opening) = first_closing_same side opening.window (n + 1) xs call (closes_none side opening.window call not)
closing_at_same side n (x ∷ xs) call (suc i) not = closing_at_same side (n + 1) xs call i not

-- ---- what a call of a number states

pub opening_at_push : (side : Side) (calls : List Call) (call : Call) (i : ℕ) → opening_at side (calls ++ call ∷ []) i ≡ cond (nat_eq (length calls) i) (opened side call.what) (opening_at side calls i)
opening_at_push side [] call zero = refl
opening_at_push side [] call (suc i) = rw zero_next refl
opening_at_push side (x ∷ xs) call zero = rw next_zero refl
opening_at_push side (x ∷ xs) call (suc i) = rw next_same (opening_at_push side xs call i)

pub opening_at_same : (side : Side) (calls : List Call) (call : Call) (i : ℕ) → opened side call.what ≡ None → opening_at side (calls ++ call ∷ []) i ≡ opening_at side calls i
opening_at_same side [] call zero not = not
opening_at_same side [] call (suc i) not = refl
opening_at_same side (x ∷ xs) call zero not = refl
opening_at_same side (x ∷ xs) call (suc i) not = opening_at_same side xs call i not

-- ---- the calls that closing calls close

closed_at_push : (side : Side) (calls : List Call) (call : Call) (i : ℕ) → closed_at side (calls ++ call ∷ []) i ≡ cond (nat_eq (length calls) i) (closed side call.what) (closed_at side calls i)
closed_at_push side [] call zero = refl
closed_at_push side [] call (suc i) = rw zero_next refl
closed_at_push side (x ∷ xs) call zero = rw next_zero refl
closed_at_push side (x ∷ xs) call (suc i) = rw next_same (closed_at_push side xs call i)

-- no call of this number is there yet
pub opener_of_past : (side : Side) (calls : List Call) (i : ℕ) → length calls ≤ i → opener_of side calls i ≡ None
opener_of_past side calls i le =
    ap (λ (o : Option Call). option_and_then (λ window. pending_of side window (take i calls)) (option_and_then (λ (call : Call). closed side call.what) o)) (slice_get_past calls i le)

-- one more call opens what is pending on the window that it closes
pub opener_of_push : (side : Side) (calls : List Call) (call : Call) (i : ℕ) →
    opener_of side (calls ++ call ∷ []) i ≡ cond (nat_eq (length calls) i) (option_and_then (λ window. pending_of side window calls) (closed side call.what)) (opener_of side calls i)
opener_of_push side calls call i =
    ap (option_and_then (λ window. pending_of side window (take i (calls ++ call ∷ [])))) (closed_at_push side calls call i)
    ∙ by (nat_eq (length calls) i) refl
  where
    before : (o : Option Call) → slice_get calls i ≡ o →
        option_and_then (λ window. pending_of side window (take i (calls ++ call ∷ []))) (option_and_then (λ (c : Call). closed side c.what) o)
        ≡ option_and_then (λ window. pending_of side window (take i calls)) (option_and_then (λ (c : Call). closed side c.what) o)
    before None at = refl
    before (Some c) at =
        let lt = slice_get_within calls i c at in
        let le : i ≤ length calls = omega arith in
        ap (λ l. option_and_then (λ window. pending_of side window l) (closed side c.what)) (take-append-le i calls (call ∷ []) le)

    by : (b : Bool) → nat_eq (length calls) i ≡ b →
        option_and_then (λ window. pending_of side window (take i (calls ++ call ∷ []))) (cond b (closed side call.what) (closed_at side calls i))
        ≡ cond b (option_and_then (λ window. pending_of side window calls) (closed side call.what)) (opener_of side calls i)
    by true same =
        ap (λ l. option_and_then (λ window. pending_of side window l) (closed side call.what))
        (ap (λ k. take k (calls ++ call ∷ [])) (sym (eqb-true (length calls) i same)) ∙ take-append_seam calls (call ∷ []))
    by false differ = before (slice_get calls i) refl

-- a call that closes nothing leaves them
pub opener_of_same : (side : Side) (calls : List Call) (call : Call) (i : ℕ) → closed side call.what ≡ None → opener_of side (calls ++ call ∷ []) i ≡ opener_of side calls i
opener_of_same side calls call i not =
    opener_of_push side calls call i
    ∙ ap (λ o. cond (nat_eq (length calls) i) (option_and_then (λ window. pending_of side window calls) o) (opener_of side calls i)) not
    ∙ by (nat_eq (length calls) i) refl
  where
    by : (b : Bool) → nat_eq (length calls) i ≡ b → cond b None (opener_of side calls i) ≡ opener_of side calls i
    by true same = sym (opener_of_past side calls i (grind (arith, nat_tests)))
    by false differ = refl

-- a call that closes an epoch on this window is after what is pending there
pub opener_of_closed : (side : Side) (calls : List Call) (call : Call) (window : List ℕ) (i : ℕ) → closed side call.what ≡ Some window →
    opener_of side (calls ++ call ∷ []) i ≡ cond (nat_eq (length calls) i) (pending_of side window calls) (opener_of side calls i)
opener_of_closed side calls call window i is =
    opener_of_push side calls call i
    ∙ ap (λ o. cond (nat_eq (length calls) i) (option_and_then (λ w. pending_of side w calls) o) (opener_of side calls i)) is
