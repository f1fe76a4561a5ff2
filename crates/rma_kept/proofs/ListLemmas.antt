-- Lists of calls with one call more, and their first calls.
use Rattle.std.proofs.Common.{◌≡◌, ℕ, zero, suc, ◌<◌, List, [], ◌∷◌, ◌++◌, length, take, slice_get, Some, refl, sym, ap, subst, ◌∙◌, ◌⊎◌, inl, inr, ⊎_elim, arith}
use Rattle.std.proofs.lemmas.List.{length-take, take-append-le, take-take, take_at}
use Rattle.std.proofs.lemmas.Bool.{cases_order}
use Rattle.std.proofs.lemmas.Option.{get_or_from_slice_get, slice_get_within}
use Rattle.rma_call.specs.Call.{Call}
use Rattle.rma_kept.specs.Kept.{IsKeptAfter, AreKept}
use Rattle.rma_kept.specs.Naming.{Creates, Declares, NoCall}
use Rattle.rma_kept.specs.Requests.{Awaits, Makes}

module _ {X : Type 0} where
  pub slice_get_front : (k : ℕ) (xs : List X) (x : X) → k < length xs → slice_get (xs ++ x ∷ []) k ≡ slice_get xs k
  slice_get_front k [] x below = absurd (omega arith)
  slice_get_front zero (first ∷ xs) x below = refl
  slice_get_front (suc k) (first ∷ xs) x below = slice_get_front k xs x (omega arith)

  pub slice_get_next : (xs ys : List X) (x : X) → slice_get (xs ++ x ∷ ys) (length xs) ≡ Some x
  slice_get_next [] ys x = refl
  slice_get_next (first ∷ xs) ys x = slice_get_next xs ys x

  slice_get_one : (x found : X) (k : ℕ) → slice_get (x ∷ []) k ≡ Some found → (k ≡ 0) × (found ≡ x)
  slice_get_one x found zero h = let same : x ≡ found = cc in (refl, sym same)
  slice_get_one x found (suc k) h = cc

  pub last_or_front : (k : ℕ) (xs : List X) (x found : X) → slice_get (xs ++ x ∷ []) k ≡ Some found → (k < length xs) ⊎ ((k ≡ length xs) × (found ≡ x))
  last_or_front k [] x found h = inr (slice_get_one x found k h)
  last_or_front zero (one ∷ xs) x found h = inl (omega arith)
  last_or_front (suc k) (one ∷ xs) x found h = ⊎_elim
      (λ (below : k < length xs). inl (omega (arith, below)))
      (λ (here : (k ≡ length xs) × (found ≡ x)). inr (ap suc here.0, here.1))
      (last_or_front k xs x found h)

  pub slice_get_take : (k n : ℕ) (xs : List X) → k < n → slice_get (take n xs) k ≡ slice_get xs k
  slice_get_take k zero xs below = absurd (omega arith)
  slice_get_take k (suc n) [] below = refl
  slice_get_take zero (suc n) (x ∷ xs) below = refl
  slice_get_take (suc k) (suc n) (x ∷ xs) below = slice_get_take k n xs (omega arith)

-- one call more
pub kept_more : (rank logs : ℕ) (calls : List Call) (call : Call) → AreKept rank logs calls → IsKeptAfter rank logs calls call → AreKept rank logs (calls ++ call ∷ [])
kept_more rank logs calls call kept last place found h = ⊎_elim
    (λ (below : place < length calls).
    subst (λ earlier. IsKeptAfter rank logs earlier found) (sym (take-append-le place calls (call ∷ []) (omega (arith, below))))
    (kept place found (sym (slice_get_front place calls call below) ∙ h)))
    (λ (here : (place ≡ length calls) × (found ≡ call)).
    subst (λ earlier. IsKeptAfter rank logs earlier found) (sym (take_at calls (call ∷ []) place (sym here.0)))
    (subst (λ it. IsKeptAfter rank logs calls it) (sym here.1) last))
    (last_or_front place calls call found h)

-- the first calls
pub kept_take : (rank logs count : ℕ) (calls : List Call) → AreKept rank logs calls → AreKept rank logs (take count calls)
kept_take rank logs count calls kept place call h =
    let within = slice_get_within (take count calls) place call h in
    let below : place < count = omega (arith, within, length-take count calls) in
    subst (λ earlier. IsKeptAfter rank logs earlier call) (sym (take-take place count calls (omega (arith, below))))
    (kept place call (sym (slice_get_take place count calls below) ∙ h))

-- what a call does that no call before it does, is done by one call
once : (Does : Call → Type 0) (calls : List Call) → ((place : ℕ) (call : Call) → slice_get calls place ≡ Some call → Does call → NoCall Does (take place calls))
    → (i j : ℕ) (one other : Call) → slice_get calls i ≡ Some one → slice_get calls j ≡ Some other → Does one → Does other → i < j → ⊥
once Does calls new i j one other here there does also below =
    let earlier : slice_get (take j calls) i ≡ Some one = slice_get_take i j calls below ∙ here in
    new j other there also one (i, slice_get_within (take j calls) i one earlier, get_or_from_slice_get (take j calls) i one one earlier) does

pub only_once : (Does : Call → Type 0) (calls : List Call) → ((place : ℕ) (call : Call) → slice_get calls place ≡ Some call → Does call → NoCall Does (take place calls))
    → (i j : ℕ) (one other : Call) → slice_get calls i ≡ Some one → slice_get calls j ≡ Some other → Does one → Does other → i ≡ j
only_once Does calls new i j one other here there does also = ⊎_elim
    (λ (same : i ≡ j). same)
    (λ (apart : (i < j) ⊎ (j < i)). ⊎_elim
    (λ (below : i < j). absurd (once Does calls new i j one other here there does also below))
    (λ (above : j < i). absurd (once Does calls new j i other one there here also does above))
    apart)
    (cases_order i j)

module _ (rank logs : ℕ) (calls : List Call) (kept : AreKept rank logs calls) (i j : ℕ) (one other : Call) (here : slice_get calls i ≡ Some one) (there : slice_get calls j ≡ Some other) where
  pub made_once : (number : ℕ) → Makes number one → Makes number other → i ≡ j
  made_once number = only_once (Makes number) calls (λ place call at does. (kept place call at).request_is_new number does) i j one other here there

  pub awaited_once : (number : ℕ) → Awaits number one → Awaits number other → i ≡ j
  awaited_once number = only_once (Awaits number) calls (λ place call at does. ((kept place call at).request_is_there number does).1) i j one other here there

  pub created_once : (window : List ℕ) → Creates window one → Creates window other → i ≡ j
  created_once window = only_once (Creates window) calls (λ place call at does. (kept place call at).window_is_new window does) i j one other here there

  pub declared_once : (comm : List ℕ) → Declares comm one → Declares comm other → i ≡ j
  declared_once comm = only_once (Declares comm) calls (λ place call at does. ((kept place call at).comm_is_new comm does).1) i j one other here there
