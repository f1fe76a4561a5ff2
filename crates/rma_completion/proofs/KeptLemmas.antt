-- What is kept of the calls of a rank that complete operations.
use Rattle.std.proofs.Common.{◌≡◌, ℕ, suc, ◌||◌, ◌&&◌, ◌+◌, ◌∷◌, ◌++◌, List, [], length, Bool, true, false, cond, eqb, nat_eq, Option, Some, None, refl, sym, ap, subst, ◌∙◌, arith, append-nil}
use Rattle.std.specs.Prelude.{OnOk, Result, Ok, Err}
use Rattle.std.specs.Map.{lookup}
use Rattle.std.specs.Option.{option_map_or, option_or}
use Rattle.std.specs.List.Sorted.{IsNonDecreasing}
use Rattle.rma_base.specs.declared.rank.Rank.{Rank}
use Rattle.rma_call.specs.Call.{Call}
use Rattle.rma_window.specs.declared.window_id.WindowId.{WindowId}
use Rattle.rma_window.specs.Windows.{Window}
use Rattle.rma_completion.specs.declared.completing.Completion.{Completion}
use Rattle.rma_completion.specs.declared.completing.Completion.TheVariants.{Local}
use Rattle.rma_completion.specs.declared.window_completions.WindowCompletions.{WindowCompletions}
use Rattle.rma_completion.specs.declared.completions.Completions.{Completions}
use Rattle.rma_call.specs.declared.what.What.{What}
use Rattle.rma_call.specs.declared.what.What.TheVariants.{Sync}
use Rattle.rma_call.specs.declared.what.What.TheVariants as what
use Rattle.rma_call.specs.declared.what.SyncCall.TheVariants as sync
use Rattle.rma_open.specs.Calls.{number_on}
use Rattle.rma_completion.specs.declared.completing.Completing.{Completing}
use Rattle.rma_completion.specs.Completing.{completed_by, completes, completes_locally, completes_remotely, same_completion, same_target}
use Rattle.rma_completion.specs.Done.{awaits, earlier, first_after, first_from, is_wait, wait_of}
use Rattle.rma_completion.specs.inside.Kept.{AreAscending, Represents, first_above, listed_for, numbers, wait_at, wait_with, with_number}
use Rattle.rma_completion.proofs.NumberLemmas.{ascend, numbers_push}
use Rattle.rma_completion.proofs.FirstLemmas.{above_after, first_of_two}

module _ (windows : List Window) (calls : List Call) (own : Completions) (represents : Represents windows calls own) (id : WindowId) where
  module _ (it : WindowCompletions) (is : lookup (nat_eq id.0) own.windows.entries ≡ Some it) where
    kept_is : (target : Option Rank) (completion : Completion) → listed_for it target completion ≡ numbers (completes windows id target completion) calls
    kept_is target completion =
        sym (ap (λ found. option_map_or (λ own. listed_for own target completion) found []) is) ∙ represents.numbers_are id.0 target completion

    pub ascends : AreAscending it
    ascends target completion = subst IsNonDecreasing (sym (kept_is target completion)) (ascend (completes windows id target completion) calls)

    -- the first number that is kept of a call which completes so far, for the target or for all
    pub kept_after : (target : Rank) (completion : Completion) (number : ℕ) →
        earlier (first_above number (listed_for it (Some target) completion)) (first_above number (listed_for it None completion))
        ≡ first_after (λ c. completes windows id (Some target) completion c || completes windows id None completion c) calls number
    kept_after target completion number =
        rw (kept_is (Some target) completion, kept_is None completion)
        (rw (above_after (completes windows id (Some target) completion) calls number, above_after (completes windows id None completion) calls number)
        (sym (first_of_two (completes windows id (Some target) completion) (completes windows id None completion) calls number)))

  -- where nothing is kept, no call completes anything on the window
  pub none_after : lookup (nat_eq id.0) own.windows.entries ≡ None → (target : Rank) (completion : Completion) (number : ℕ) →
      first_after (λ c. completes windows id (Some target) completion c || completes windows id None completion c) calls number ≡ None
  none_after none target completion number =
      first_of_two (completes windows id (Some target) completion) (completes windows id None completion) calls number
      ∙ ap (λ r. earlier r (first_after (completes windows id None completion) calls number)) (first (Some target))
      ∙ first None
    where
      first : (t : Option Rank) → first_after (completes windows id t completion) calls number ≡ None
      first t =
          sym (above_after (completes windows id t completion) calls number)
          ∙ ap
          (first_above number)
          (sym (represents.numbers_are id.0 t completion) ∙ ap (λ found. option_map_or (λ own. listed_for own t completion) found []) none)

  -- what completes at the caller completes it at the target too, or there alone
  pub local_is : (target : Rank) (number : ℕ) → first_after (completes_locally windows id target) calls number
      ≡ earlier (first_after (completes_remotely windows id target) calls number) (first_after (λ c. completes windows id (Some target) Local c || completes windows id None Local c) calls number)
  local_is target number = first_of_two (completes_remotely windows id target) (λ c. completes windows id (Some target) Local c || completes windows id None Local c) calls number

-- ---- one more call

-- a wait completes nothing on a window
pub waits_complete_nothing : (it : What) → is_wait it ≡ true → completed_by it ≡ None
waits_complete_nothing (Sync (sync.Message call)) is = refl
waits_complete_nothing (Sync (sync.Frame call)) is = refl
waits_complete_nothing (Sync (sync.Window call)) is = refl
waits_complete_nothing (Sync (sync.Epoch call)) is = absurd (cc)
waits_complete_nothing (Sync (sync.Moving call)) is = refl
waits_complete_nothing (what.Rma call) is = refl
waits_complete_nothing (what.Local call) is = refl

first_from_push : (test : Call → Bool) (from : ℕ) (calls : List Call) (call : Call) →
    first_from test from (calls ++ call ∷ []) ≡ option_or (first_from test from calls) (cond (test call) (Some (from + length calls)) None)
first_from_push test from [] call = ap (λ n. cond (test call) (Some n) None) (let e : from ≡ from + 0 = omega arith in e)
first_from_push test from (x ∷ xs) call = by (test x) (first_from test (from + 1) xs) (first_from_push test (from + 1) xs call)
  where
    by : (b : Bool) (rest : Option ℕ) → first_from test (from + 1) (xs ++ call ∷ []) ≡ option_or rest (cond (test call) (Some (from + 1 + length xs)) None) →
        cond b (Some from) (first_from test (from + 1) (xs ++ call ∷ [])) ≡ option_or (cond b (Some from) rest) (cond (test call) (Some (from + suc (length xs))) None)
    by true rest later = refl
    by false rest later = later ∙ ap (λ n. option_or rest (cond (test call) (Some n) None)) (let e : from + 1 + length xs ≡ from + suc (length xs) = omega arith in e)

no_more : (found : Option ℕ) → option_or found None ≡ found
no_more None = refl
no_more (Some n) = refl

module _ (calls : List Call) (call : Call) where
  -- a call that waits for nothing is no wait of any request
  pub same_wait : is_wait call.what ≡ false → (request : ℕ) → wait_of (calls ++ call ∷ []) request ≡ wait_of calls request
  same_wait not request =
      first_from_push (awaits request) 0 calls call
      ∙ ap (λ b. option_or (wait_of calls request) (cond (b && option_map_or (λ own. eqb own request) call.request false) (Some (0 + length calls)) None)) not
      ∙ no_more (wait_of calls request)

  -- a wait is that of its request, unless there was one
  pub wait_after : (number : ℕ) (request : Option ℕ) → is_wait call.what ≡ true → call.request ≡ request → number ≡ length calls → (waits : List ℕ) →
      ((other : ℕ) → wait_at waits other ≡ wait_of calls other) → (other : ℕ) → wait_with waits request number other ≡ wait_of (calls ++ call ∷ []) other
  wait_after number request is own at waits same other = sym
      (first_from_push (awaits other) 0 calls call
      ∙ ap (λ b. option_or (wait_of calls other) (cond (b && option_map_or (λ own. eqb own other) call.request false) (Some (0 + length calls)) None)) is
      ∙ ap (λ r. option_or (wait_of calls other) (cond (option_map_or (λ own. eqb own other) r false) (Some (0 + length calls)) None)) own
      ∙ by request)
    where
      here : (Some (0 + length calls)) ≡ Some number
      here = ap Some (let e : 0 + length calls ≡ number = omega arith in e)

      by : (r : Option ℕ) → option_or (wait_of calls other) (cond (option_map_or (λ own. eqb own other) r false) (Some (0 + length calls)) None) ≡ wait_with waits r number other
      by None = no_more (wait_of calls other) ∙ sym (same other)
      by (Some own) = ap (λ s. option_or (wait_of calls other) (cond (eqb own other) s None)) here ∙ ap (λ f. option_or f (cond (eqb own other) (Some number) None)) (sym (same other))

  -- ---- what it completes

  module _ (windows : List Window) (id : ℕ) (target : Option Rank) (completion : Completion) where
    abbrev pub test : Call → Bool
    test = completes windows (record { 0 = id }) target completion

    same_numbers : test call ≡ false → numbers test (calls ++ call ∷ []) ≡ numbers test calls
    same_numbers not = numbers_push test calls call ∙ ap (λ b. numbers test calls ++ cond b (length calls ∷ []) []) not ∙ append-nil (numbers test calls)

    and_false : (b : Bool) → (b && false) ≡ false
    and_false true = refl
    and_false false = refl

    pub completing_nothing : completed_by call.what ≡ None → numbers test (calls ++ call ∷ []) ≡ numbers test calls
    completing_nothing none = same_numbers (rw none (and_false _))

    pub on_no_window : number_on windows call.what ≡ None → numbers test (calls ++ call ∷ []) ≡ numbers test calls
    on_no_window none = same_numbers (rw none refl)

    pub completing_here : (window : WindowId) (by : Completing) (number : ℕ) → number_on windows call.what ≡ Some window → completed_by call.what ≡ Some by → number ≡ length calls →
        numbers test (calls ++ call ∷ []) ≡ numbers test calls ++ cond (nat_eq window.0 id) (with_number by number target completion) []
    completing_here window by number on completing at =
        numbers_push test calls call
        ∙ ap (λ n. numbers test calls ++ cond (test call) (n ∷ []) []) (sym at)
        ∙ ap (λ b. numbers test calls ++ cond b (number ∷ []) []) meets
        ∙ ap (λ more. numbers test calls ++ more) (split (nat_eq window.0 id) (same_target by.target target && same_completion by.completion completion))
      where
        meets : test call ≡ (nat_eq window.0 id && (same_target by.target target && same_completion by.completion completion))
        meets = rw (on, completing) refl

        split : (a b : Bool) → cond (a && b) (number ∷ []) [] ≡ cond a (cond b (number ∷ []) []) []
        split true b = refl
        split false b = refl

-- what holds of an `Ok` follows from two facts that do
pub from_both : {T E P Q R : Type 0} (r : Result T E) → (P → Q → R) → OnOk r P → OnOk r Q → OnOk r R
from_both (Ok x) f p q = f p q
from_both (Err e) f p q = tt
