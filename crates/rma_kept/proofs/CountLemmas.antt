-- How many requests no call waits for.
use Rattle.std.proofs.Common.{◌≡◌, ◌≢◌, ℕ, zero, suc, ◌+◌, ◌<◌, ◌≤◌, Bool, true, false, ◌||◌, ◌&&◌, List, [], ◌∷◌, ◌++◌, Option, Some, None, cond, refl, sym, ap, ◌∙◌, ⊎_elim, arith}
use Rattle.std.specs.List.{Contains, list_any}
use Rattle.std.specs.Option.{option_map_or}
use Rattle.std.specs.Prelude.{◌==◌, if◌then◌else◌}
use Rattle.std.proofs.lemmas.Bool.{and_from, and_parts, cases_eq, eq-eqb, eqb-true, false_from_ne_true, or_cases}
use Rattle.std.proofs.lemmas.List.Folds.{list_any-append}
use Rattle.std.proofs.lemmas.List.Elements.{Contains-append_right}
use Rattle.rma_call.specs.Call.{Call}
use Rattle.rma_kept.specs.Naming.{NoCall, SomeCall}
use Rattle.rma_kept.specs.Requests.{Awaits, waits}

-- whether the call waits for the request of this number
abbrev pub is_await : ℕ → Call → Bool
is_await number call = waits call.what && option_map_or (λ own. own == number) call.request false

-- whether one of the calls does
abbrev pub awaits_in : List Call → ℕ → Bool
awaits_in calls number = list_any (is_await number) calls

-- how many numbers below one do not pass
abbrev pub open_below : (ℕ → Bool) → ℕ → ℕ
open_below passes zero = 0
open_below passes (suc n) = open_below passes n + (if passes n then 0 else 1)

-- ---- what the test says

is_await_then : (number : ℕ) (call : Call) → is_await number call ≡ true → Awaits number call
is_await_then number call h =
    let parts = and_parts (waits call.what) (option_map_or (λ own. own == number) call.request false) h in
    (parts.0, by call.request parts.1)
  where
    by : (request : Option ℕ) → option_map_or (λ own. own == number) request false ≡ true → request ≡ Some number
    by None h = cc
    by (Some own) h = ap Some (eqb-true own number h)

then_is_await : (number : ℕ) (call : Call) → Awaits number call → is_await number call ≡ true
then_is_await number call h =
    and_from (waits call.what) (option_map_or (λ own. own == number) call.request false) h.0
    (ap (λ request. option_map_or (λ own. own == number) request false) h.1 ∙ eq-eqb number number refl)

pub in_calls : (number : ℕ) (calls : List Call) → awaits_in calls number ≡ true → SomeCall (Awaits number) calls
in_calls number [] h = cc
in_calls number (call ∷ calls) h = ⊎_elim
    (λ (here : is_await number call ≡ true). (call, first, is_await_then number call here))
    (λ (later : awaits_in calls number ≡ true). let some = in_calls number calls later in (some.0, Contains-append_right (call ∷ []) calls some.0 some.1, some.2))
    (or_cases (is_await number call) (awaits_in calls number) h)
  where
    first : Contains (call ∷ calls) call
    first = (0, omega arith, refl)

pub not_in_calls : (number : ℕ) (calls : List Call) → NoCall (Awaits number) calls → awaits_in calls number ≡ false
not_in_calls number calls none =
    false_from_ne_true (awaits_in calls number) (λ some. let found = in_calls number calls some in none found.0 found.1 found.2)

-- ---- one call more

module _ (calls : List Call) (call : Call) where
  in_more : (number : ℕ) → awaits_in (calls ++ call ∷ []) number ≡ (awaits_in calls number || (is_await number call || false))
  in_more number = list_any-append (is_await number) calls (call ∷ [])

  pub in_same : (number : ℕ) → (Awaits number call → ⊥) → awaits_in (calls ++ call ∷ []) number ≡ awaits_in calls number
  in_same number none =
      in_more number ∙ ap (λ b. awaits_in calls number || (b || false)) (false_from_ne_true (is_await number call) (λ is. none (is_await_then number call is))) ∙ or_nothing (awaits_in calls number)
    where
      or_nothing : (b : Bool) → (b || false) ≡ b
      or_nothing true = refl
      or_nothing false = refl

  pub in_now : (number : ℕ) → Awaits number call → awaits_in (calls ++ call ∷ []) number ≡ true
  in_now number is = in_more number ∙ ap (λ b. awaits_in calls number || (b || false)) (then_is_await number call is) ∙ or_something (awaits_in calls number)
    where
      or_something : (b : Bool) → (b || true) ≡ true
      or_something true = refl
      or_something false = refl

-- ---- numbers that do not pass

pub open_same : (f g : ℕ → Bool) (m : ℕ) → ((k : ℕ) → g k ≡ f k) → open_below g m ≡ open_below f m
open_same f g zero same = refl
open_same f g (suc m) same = ap (λ n. n + (if g m then 0 else 1)) (open_same f g m same) ∙ ap (λ (b : Bool). open_below f m + (if b then 0 else 1)) (same m)

-- one number more passes
pub open_less : (f g : ℕ → Bool) (n m : ℕ) → n < m → f n ≡ false → g n ≡ true → ((k : ℕ) → k ≢ n → g k ≡ f k) → open_below g m + 1 ≡ open_below f m
open_less f g n zero below not is same = absurd (omega arith)
open_less f g n (suc m) below not is same = ⊎_elim
    (λ (here : m ≡ n).
    let before : open_below g m ≡ open_below f m = upto m (omega (arith, here)) in
    let now : g m ≡ true = ap g here ∙ is in
    let was : f m ≡ false = ap f here ∙ not in
    rw (now, was) (omega (arith, before)))
    (λ (other : m ≡ n → ⊥).
    let rest : open_below g m + 1 ≡ open_below f m = open_less f g n m (omega (arith, other)) not is same in
    rw (same m other) (omega (arith, rest)))
    (cases_eq m n)
  where
    upto : (k : ℕ) → k ≤ n → open_below g k ≡ open_below f k
    upto zero le = refl
    upto (suc k) le =
        ap (λ c. c + (if g k then 0 else 1)) (upto k (omega arith)) ∙ ap (λ (b : Bool). open_below f k + (if b then 0 else 1)) (same k (λ here. absurd (omega arith)))

none_step : (f : ℕ → Bool) (m n : ℕ) (b : Bool) → f m ≡ b → open_below f m + cond b 0 1 ≡ 0 → n < suc m → (open_below f m ≡ 0 → n < m → f n ≡ true) → f n ≡ true
none_step f m n false is none below rest = absurd (omega arith)
none_step f m n true is none below rest =
    ⊎_elim (λ (here : m ≡ n). ap f (sym here) ∙ is) (λ (other : m ≡ n → ⊥). rest (omega arith) (omega (arith, other))) (cases_eq m n)

-- where none is left that does not pass, each does
pub none_open : (f : ℕ → Bool) (m n : ℕ) → open_below f m ≡ 0 → n < m → f n ≡ true
none_open f zero n none below = absurd (omega arith)
none_open f (suc m) n none below = none_step f m n (f m) refl none below (λ zero less. none_open f m n zero less)
