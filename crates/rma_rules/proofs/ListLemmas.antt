-- Lists of calls by rank and window, with one more call.
use Rattle.std.proofs.Common.{◌≡◌, ℕ, zero, suc, ◌<◌, Bool, true, false, cond, List, [], ◌∷◌, ◌++◌, length, get_or, Some, None, Result, Ok, Err, OnOk, OnErr, All, slice_get, is_some, nat_lt, position, refl, sym, ap, subst, ◌⊎◌, inl, inr, ◌+◌, ◌≤◌, ◌^◌, ◌∙◌, arith}
use Rattle.std.specs.List.{position_or_len}
use Rattle.std.specs.List.Sorted.{IsStrictlyIncreasing}
use Rattle.std.specs.Map.{lookup, keys_of, values_of}
use Rattle.std.proofs.lemmas.Bool.{cases_lt, eq-eqb, false≢true}
use Rattle.std.proofs.lemmas.Bool.Decides.{nat_tests}
use Rattle.std.proofs.lemmas.List.{get_or_append_left, get_or_push, length-append}
use Rattle.std.proofs.lemmas.List.Elements.{All-cons, All-get_or, All-head, All-nil, All-push, All-tail}
use Rattle.indexmap.specs.IndexMap.{insert_entry, set_value_at}
use Rattle.rma_base.specs.declared.rank.Rank.{Rank}
use Rattle.rma_window.specs.declared.window_id.WindowId.{WindowId}
use Rattle.rma_rules.specs.declared.span.Owner.{Owner}
use Rattle.rma_rules.specs.Spans.{AreCalls, AreLists, calls_under, is_owned, with_call}
use Rattle.rma_rules.specs.inside.Lists.{with_call_at}

-- ---- answers of calls that may fail

pub OnOk_map : {T E A B : Type 0} (r : Result T E) → (A → B) → OnOk r A → OnOk r B
OnOk_map (Ok x) f a = f a
OnOk_map (Err e) f a = tt

pub OnErr_map : {T E A B : Type 0} (r : Result T E) → (A → B) → OnErr r A → OnErr r B
OnErr_map (Ok x) f a = tt
OnErr_map (Err e) f a = f a

pub either : {T E A B C : Type 0} (r : Result T E) → OnOk r A → OnErr r B → (A → C) → (B → C) → C
either (Ok x) a b f g = f a
either (Err e) a b f g = g b

-- ---- a list at a place

put_later : (e : Owner × List ℕ) (es : List (Owner × List ℕ)) (p q call : ℕ) → q ≡ suc p → with_call_at (e ∷ es) q call ≡ e ∷ with_call_at es p call
put_later e es p q call is = rw is refl

pub no_call_put : (lists : List (Owner × List ℕ)) (place call : ℕ) → slice_get (values_of lists) place ≡ None → lists ≡ with_call_at lists place call
no_call_put [] place call is = refl
no_call_put (e ∷ es) zero call is = absurd (cc)
no_call_put (e ∷ es) (suc place) call is = ap (λ l. e ∷ l) (no_call_put es place call is)

pub call_put : (lists : List (Owner × List ℕ)) (place call : ℕ) (own : List ℕ) → slice_get (values_of lists) place ≡ Some own → set_value_at lists place (own ++ call ∷ []) ≡ with_call_at lists place call
call_put [] place call own is = refl
call_put (e ∷ es) zero call own is = let same : own ≡ e.1 = cc in ap (λ l. (e.0, l ++ call ∷ []) ∷ es) same
call_put (e ∷ es) (suc place) call own is = ap (λ l. e ∷ l) (call_put es place call own is)

pub value_kept : (lists : List (Owner × List ℕ)) (place : ℕ) (own : List ℕ) → slice_get (values_of lists) place ≡ Some own → set_value_at lists place own ≡ lists
value_kept [] place own is = refl
value_kept (e ∷ es) zero own is = let same : own ≡ e.1 = cc in ap (λ l. (e.0, l) ∷ es) same
value_kept (e ∷ es) (suc place) own is = ap (λ l. e ∷ l) (value_kept es place own is)

-- ---- the list of a rank and a window

found_at : (found : Bool) (at place : ℕ) → cond found (Some at) None ≡ Some place → (found ≡ true) × (at ≡ place)
found_at true at place is = (refl, cc)
found_at false at place is = absurd (cc)

module _ (rank : Rank) (window : WindowId) (call : ℕ) where
  first_there : (lists : List (Owner × List ℕ)) → nat_lt (position_or_len (is_owned rank window) (keys_of lists)) (length (keys_of lists)) ≡ true
      → with_call_at lists (position_or_len (is_owned rank window) (keys_of lists)) call ≡ with_call lists rank window call
  first_there [] within = absurd (false≢true within)
  first_there (e ∷ es) within = by (is_owned rank window e.0) refl (first_there es)
    where
      by : (b : Bool) → is_owned rank window e.0 ≡ b
          → (nat_lt (position_or_len (is_owned rank window) (keys_of es)) (length (keys_of es)) ≡ true → with_call_at es (position_or_len (is_owned rank window) (keys_of es)) call ≡ with_call es rank window call)
          → with_call_at (e ∷ es) (position_or_len (is_owned rank window) (keys_of (e ∷ es))) call ≡ with_call (e ∷ es) rank window call
      by true h rest = rw h refl
      by false h rest =
          let later = rw h at within in
          rw h (put_later e es (position_or_len (is_owned rank window) (keys_of es)) _ call (omega arith) ∙ ap (λ l. e ∷ l) (rest (grind (arith, nat_tests))))

  pub call_there : (lists : List (Owner × List ℕ)) (place : ℕ) → position (is_owned rank window) (keys_of lists) ≡ Some place → with_call_at lists place call ≡ with_call lists rank window call
  call_there lists place is =
      let found = found_at (nat_lt (position_or_len (is_owned rank window) (keys_of lists)) (length (keys_of lists))) (position_or_len (is_owned rank window) (keys_of lists)) place is in
      subst (λ p. with_call_at lists p call ≡ with_call lists rank window call) found.1 (first_there lists found.0)

  pub call_new : (lists : List (Owner × List ℕ)) → is_some (lookup (is_owned rank window) lists) ≡ false
      → insert_entry (λ own. is_owned own.rank own.window) lists (record { rank = rank; window = window }) (call ∷ []) ≡ with_call lists rank window call
  call_new [] new = refl
  call_new (e ∷ es) new = by (is_owned rank window e.0) refl (call_new es)
    where
      by : (b : Bool) → is_owned rank window e.0 ≡ b
          → (is_some (lookup (is_owned rank window) es) ≡ false → insert_entry (λ own. is_owned own.rank own.window) es (record { rank = rank; window = window }) (call ∷ []) ≡ with_call es rank window call)
          → insert_entry (λ own. is_owned own.rank own.window) (e ∷ es) (record { rank = rank; window = window }) (call ∷ []) ≡ with_call (e ∷ es) rank window call
      by true h rest = absurd (let there = rw h at new in false≢true (sym there))
      by false h rest = let absent = rw h at new in rw h (ap (λ l. e ∷ l) (rest absent))

-- ---- lists that ascend

increasing_push : (xs : List ℕ) (n : ℕ) → IsStrictlyIncreasing xs → All (λ x. x < n) xs → IsStrictlyIncreasing (xs ++ n ∷ [])
increasing_push xs n up below k within = by (cases_lt (k + 1) (length xs))
  where
    by : (k + 1 < length xs) ⊎ (length xs ≤ k + 1) → get_or (xs ++ n ∷ []) k 0 < get_or (xs ++ n ∷ []) (k + 1) 0
    by (inl inner) = rw (get_or_append_left xs (n ∷ []) 0 k (omega arith), get_or_append_left xs (n ∷ []) 0 (k + 1) inner) (up k inner)
    by (inr last) =
        let ends : length xs ≡ k + 1 = omega (arith, length-append xs (n ∷ [])) in
        rw (get_or_append_left xs (n ∷ []) 0 k (omega arith), get_or_push xs n 0 (k + 1) ends) (All-get_or (λ x. x < n) xs k 0 (omega arith) below)

calls_push : (xs : List ℕ) (call : ℕ) → AreCalls xs → All (λ x. x < call) xs → call < 2 ^ 31 → AreCalls (xs ++ call ∷ [])
calls_push xs call good after small = record {
  ascend = increasing_push xs call good.ascend after;
  small = All-push (λ x. x < 2 ^ 31) xs call good.small small;
}

pub lists_push : (lists : List (Owner × List ℕ)) (rank : Rank) (window : WindowId) (call : ℕ) → AreLists lists → All (λ x. x < call) (calls_under lists rank window) → call < 2 ^ 31
    → AreLists (with_call lists rank window call)
lists_push [] rank window call good after small =
    All-cons (λ (e : Owner × List ℕ). AreCalls e.1) (record { rank = rank; window = window }, call ∷ []) []
    (calls_push [] call (record { ascend = λ k lt. absurd (omega arith); small = All-nil (λ x. x < 2 ^ 31) }) (All-nil (λ x. x < call)) small) (All-nil (λ (e : Owner × List ℕ). AreCalls e.1))
lists_push (e ∷ es) rank window call good after small = by (is_owned rank window e.0) refl (lists_push es rank window call (All-tail (λ (d : Owner × List ℕ). AreCalls d.1) e es good))
  where
    first : AreCalls e.1
    first = All-head (λ (d : Owner × List ℕ). AreCalls d.1) e es good

    by : (b : Bool) → is_owned rank window e.0 ≡ b → (All (λ x. x < call) (calls_under es rank window) → call < 2 ^ 31 → AreLists (with_call es rank window call)) → AreLists (with_call (e ∷ es) rank window call)
    by true h rest =
        let below = rw h at after in
        rw h (All-cons (λ (d : Owner × List ℕ). AreCalls d.1) (e.0, e.1 ++ call ∷ []) es (calls_push e.1 call first below small) (All-tail (λ (d : Owner × List ℕ). AreCalls d.1) e es good))
    by false h rest = let below = rw h at after in rw h (All-cons (λ (d : Owner × List ℕ). AreCalls d.1) e (with_call es rank window call) first (rest below small))

-- ---- what stands under a rank and a window

module _ (rank : Rank) (window : WindowId) (call : ℕ) where
  own_list : is_owned rank window (record { rank = rank; window = window }) ≡ true
  own_list = rw (eq-eqb rank.0 rank.0 refl, eq-eqb window.0 window.0 refl) refl

  pub added_there : (lists : List (Owner × List ℕ)) → calls_under (with_call lists rank window call) rank window ≡ calls_under lists rank window ++ call ∷ []
  added_there [] = rw own_list refl
  added_there (e ∷ es) = by (is_owned rank window e.0) refl (added_there es)
    where
      by : (b : Bool) → is_owned rank window e.0 ≡ b → calls_under (with_call es rank window call) rank window ≡ calls_under es rank window ++ call ∷ []
          → calls_under (with_call (e ∷ es) rank window call) rank window ≡ calls_under (e ∷ es) rank window ++ call ∷ []
      by true h rest = rw (h, h) refl
      by false h rest = rw (h, h) rest

-- two ranks and windows of one list are the same
module _ (rank other : Rank) (window elsewhere : WindowId) (apart : (rank ≡ other) × (window ≡ elsewhere) → ⊥) where
  same_owner : (owner : Owner) → is_owned rank window owner ≡ true → is_owned other elsewhere owner ≡ true → ⊥
  same_owner owner one two =
      let ranks : rank.0 ≡ other.0 = grind (arith, nat_tests) in
      let windows : window.0 ≡ elsewhere.0 = grind (arith, nat_tests) in
      apart (ap (λ n. let r : Rank = record { 0 = n } in r) ranks, ap (λ n. let w : WindowId = record { 0 = n } in w) windows)

  not_own : is_owned other elsewhere (record { rank = rank; window = window }) ≡ true → ⊥
  not_own there = same_owner (record { rank = rank; window = window }) (own_list rank window 0) there

  shut : (b : Bool) → (b ≡ true → ⊥) → b ≡ false
  shut true never = absurd (never refl)
  shut false never = refl

  pub added_elsewhere : (call : ℕ) (lists : List (Owner × List ℕ)) → calls_under (with_call lists rank window call) other elsewhere ≡ calls_under lists other elsewhere
  added_elsewhere call [] = rw (shut (is_owned other elsewhere (record { rank = rank; window = window })) not_own) refl
  added_elsewhere call (e ∷ es) = by (is_owned rank window e.0) (is_owned other elsewhere e.0) refl refl (added_elsewhere call es)
    where
      by : (b d : Bool) → is_owned rank window e.0 ≡ b → is_owned other elsewhere e.0 ≡ d → calls_under (with_call es rank window call) other elsewhere ≡ calls_under es other elsewhere
          → calls_under (with_call (e ∷ es) rank window call) other elsewhere ≡ calls_under (e ∷ es) other elsewhere
      by true true h i rest = absurd (same_owner e.0 h i)
      by true false h i rest = rw (h, i) refl
      by false true h i rest = rw (h, i) refl
      by false false h i rest = rw (h, i) rest
