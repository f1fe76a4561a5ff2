-- The epochs of a rank, as they are kept.
use Rattle.std.proofs.Common.{◌≡◌, ◌≢◌, ℕ, zero, suc, ◌<◌, ◌≤◌, Bool, true, false, cond, List, [], ◌∷◌, length, map, get_or, eqb, Option, Some, None, Ok, Err, Result, slice_get, refl, sym, ap, ◌∙◌, arith}
use Rattle.std.specs.Prelude.{option_map}
use Rattle.std.specs.Option.{option_map_or}
use Rattle.std.specs.Result.{result_ok}
use Rattle.std.specs.Ordering.{nat_cmp}
use Rattle.std.specs.List.Sorted.{IsBinarySearchResult, IsSearchInRange}
use Rattle.std.proofs.lemmas.Bool.{false≢true}
use Rattle.std.proofs.lemmas.Bool.Decides.{nat_tests}
use Rattle.std.proofs.lemmas.List.Quantifiers.{position-Some}
use Rattle.std.proofs.lemmas.Option.{get_or_from_slice_get, slice_get-get_or}
use Rattle.std.proofs.Math.ListN.{set}
use Rattle.rma_epoch.specs.declared.epoch.Epoch.{Epoch}
use Rattle.rma_epoch.specs.declared.epoch.Placed.{Placed}
use Rattle.rma_epoch.specs.Table.{Ascend, InOrder, epoch_at, index_in, is_opened_by}
use Rattle.rma_epoch.specs.inside.Epochs.{closed_with}
use Rattle.rma_epoch.proofs.UpLemmas.{find_missing, find_up, hit, missed, position_missing, position_up}

-- ---- a search

-- an epoch that is at an index
pub opened_at : (epochs : List Epoch) → Ascend epochs → (i opener : ℕ) → option_map_or (is_opened_by opener) (slice_get epochs i) false ≡ true → index_in epochs opener ≡ Some i
opened_at epochs up i opener at = by (slice_get epochs i) refl at
  where
    by : (o : Option Epoch) → slice_get epochs i ≡ o → option_map_or (is_opened_by opener) o false ≡ true → index_in epochs opener ≡ Some i
    by None none wrong = absurd (false≢true wrong)
    by (Some e) there is = position_up (λ (e : Epoch). e.opener) epochs up i e opener there (let same : e.opener ≡ opener = grind (arith, nat_tests) in same)

-- what a search answers
pub search_is : (epochs : List Epoch) → Ascend epochs → (opener : ℕ) (r : Result ℕ ℕ) → IsSearchInRange r (length epochs) → IsBinarySearchResult (λ (e : Epoch). nat_cmp e.opener opener) epochs r → result_ok r ≡ index_in epochs opener
search_is epochs up opener (Ok i) within found =
    let at = hit (λ (e : Epoch). e.opener) epochs i opener within found in
    sym (position_up (λ (e : Epoch). e.opener) epochs up i at.0 opener at.1 at.2)
search_is epochs up opener (Err i) within found = sym (position_missing (λ (e : Epoch). e.opener) epochs opener (missed (λ (e : Epoch). e.opener) epochs up i opener within found))

-- ---- accesses

-- an access that is at an index
pub access_there : (placed : List Placed) → InOrder placed → (call i : ℕ) (p : Placed) → slice_get placed i ≡ Some p → p.call ≡ call → Some p.epoch ≡ epoch_at placed call
access_there placed up call i p there is = ap (option_map (λ (q : Placed). q.epoch)) (sym (find_up (λ (q : Placed). q.call) placed up i p call there is))

-- what a search answers
pub found_access : (placed : List Placed) → InOrder placed → (call i : ℕ) (d : Placed) → i < length placed → IsBinarySearchResult (λ (p : Placed). nat_cmp p.call call) placed (Ok i) → Some (get_or placed i d).epoch ≡ epoch_at placed call
found_access placed up call i d within found =
    let at = hit (λ (p : Placed). p.call) placed i call within found in
    ap (λ (p : Placed). Some p.epoch) (get_or_from_slice_get placed i at.0 d at.1)
    ∙ access_there placed up call i at.0 at.1 at.2

pub missed_access : (placed : List Placed) → InOrder placed → (call i : ℕ) → i ≤ length placed → IsBinarySearchResult (λ (p : Placed). nat_cmp p.call call) placed (Err i) → None ≡ epoch_at placed call
missed_access placed up call i within found = sym (ap (option_map (λ (p : Placed). p.epoch)) (find_missing (λ (p : Placed). p.call) placed call (missed (λ (p : Placed). p.call) placed up i call within found)))

-- ---- a call that closes an epoch

flipped : (a b : ℕ) → eqb a b ≡ eqb b a
flipped a b = grind (arith, nat_tests)

-- a map that changes nothing
map_same : {X : Type 0} (f : X → X) (xs : List X) → ((j : ℕ) (y : X) → slice_get xs j ≡ Some y → f y ≡ y) → map f xs ≡ xs
map_same f [] keeps = refl
map_same f (x ∷ xs) keeps = let first = keeps 0 x refl in let rest = map_same f xs (λ j y found. keeps (suc j) y found) in cc

-- a map that changes one element
set_map : {X : Type 0} (f : X → X) (xs : List X) (i : ℕ) (x : X) → slice_get xs i ≡ Some x → ((j : ℕ) (y : X) → j ≢ i → slice_get xs j ≡ Some y → f y ≡ y) → set xs i (f x) ≡ map f xs
set_map f [] i x at keeps = absurd (let no : ⊥ = cc in no)
set_map f (y ∷ ys) zero x at keeps =
    let same : y ≡ x = cc in
    let first : f x ≡ f y = ap f (sym same) in
    let rest = map_same f ys (λ j z found. keeps (suc j) z (λ e. omega (arith, e)) found) in
    cc
set_map f (y ∷ ys) (suc i) x at keeps =
    let first = keeps 0 y (λ e. omega (arith, e)) refl in
    let rest = set_map f ys i x at (λ j z unlike found. keeps (suc j) z (λ e. unlike (omega (arith, e))) found) in
    cc

-- an epoch of another call stays as it is
kept_open : (epochs : List Epoch) → Ascend epochs → (opener number i : ℕ) → index_in epochs opener ≡ Some i → (j : ℕ) (e : Epoch) → j ≢ i → slice_get epochs j ≡ Some e → closed_with (Some opener) number e ≡ e
kept_open epochs up opener number i is j e unlike found = by (eqb opener e.opener) refl
  where
    by : (b : Bool) → eqb opener e.opener ≡ b → cond b (record e { close = Some number }) e ≡ e
    by false other = refl
    by true same =
        let one : e.opener ≡ opener = grind (arith, nat_tests) in
        let two : Some j ≡ Some i = sym (position_up (λ (e : Epoch). e.opener) epochs up j e opener found one) ∙ is in
        absurd (unlike (let eq : j ≡ i = cc in eq))

-- the epoch that a call closes
pub closing : (epochs : List Epoch) → Ascend epochs → (opener number i : ℕ) (d : Epoch) → index_in epochs opener ≡ Some i → set epochs i (record (get_or epochs i d) { close = Some number }) ≡ map (closed_with (Some opener) number) epochs
closing epochs up opener number i d is =
    let at = position-Some (is_opened_by opener) epochs i d is in
    let e = get_or epochs i d in
    let closed : closed_with (Some opener) number e ≡ record e { close = Some number } = ap (λ b. cond b (record e { close = Some number }) e) (flipped opener e.opener ∙ at.1) in
    ap (set epochs i) (sym closed) ∙ set_map (closed_with (Some opener) number) epochs i e (slice_get-get_or epochs i d at.0) (kept_open epochs up opener number i is)

-- a call that closes none
pub closing_none : (epochs : List Epoch) (number : ℕ) → epochs ≡ map (closed_with None number) epochs
closing_none epochs number = sym (map_same (closed_with None number) epochs (λ j e found. refl))

-- a call that closes one that is not listed
pub closing_unlisted : (epochs : List Epoch) → Ascend epochs → (opener number : ℕ) → index_in epochs opener ≡ None → epochs ≡ map (closed_with (Some opener) number) epochs
closing_unlisted epochs up opener number is = sym (map_same (closed_with (Some opener) number) epochs (λ j e found. by j e found (eqb opener e.opener) refl))
  where
    by : (j : ℕ) (e : Epoch) → slice_get epochs j ≡ Some e → (b : Bool) → eqb opener e.opener ≡ b → cond b (record e { close = Some number }) e ≡ e
    by j e found false other = refl
    by j e found true same =
        let one : e.opener ≡ opener = grind (arith, nat_tests) in
        let two : Some j ≡ None = sym (position_up (λ (e : Epoch). e.opener) epochs up j e opener found one) ∙ is in
        absurd (let no : ⊥ = cc in no)
