-- The numbers of the receives of a rank on one communicator.
use Rattle.std.proofs.Common.{◌≡◌, ℕ, zero, suc, ◌+◌, ◌<◌, ◌≤◌, Bool, true, false, cond, List, [], ◌∷◌, ◌++◌, length, length-append, take, set, Option, Some, None, is_some, slice_get, ⊎_elim, refl, sym, ap, subst, ◌∙◌, arith}
use Rattle.std.specs.Prelude.{count_by, unwrap_or}
use Rattle.std.specs.Map.{lookup}
use Rattle.std.specs.List.{list_all}
use Rattle.std.specs.Option.{option_and_then}
use Rattle.std.proofs.lemmas.Bool.{cases_lt}
use Rattle.std.proofs.lemmas.List.{take-append-le, take-set-le}
use Rattle.std.proofs.lemmas.List.Sums.{sum_by_push}
use Rattle.std.proofs.lemmas.Option.{slice_get_within, slice_get_past}
use Rattle.rma_message.specs.declared.key.Key.{Key}
use Rattle.rma_message.specs.Key.{same_key}
use Rattle.rma_run.proofs.WalkLemmas.{taken_there}
use Rattle.rma_message.proofs.MatchLemmas.{same_key_true}
use Rattle.rma_message.specs.inside.Live.{count_in, count_of, is_key, key_at, number_at, IsNumbered, AreNumbered, ArePlaced}
use Rattle.rma_message.proofs.ListLemmas.{get_before, get_last}

-- ---- lists that begin alike

take_below : {X : Type 0} (n i : ℕ) (xs ys : List X) → i ≤ n → take n xs ≡ take n ys → take i xs ≡ take i ys
take_below n zero xs ys le same = refl
take_below zero (suc i) xs ys le same = absurd (omega arith)
take_below (suc n) (suc i) [] [] le same = refl
take_below (suc n) (suc i) [] (y ∷ ys) le same = cc
take_below (suc n) (suc i) (x ∷ xs) [] le same = cc
take_below (suc n) (suc i) (x ∷ xs) (y ∷ ys) le same =
    let head : x ≡ y = cc in
    let tail : take n xs ≡ take n ys = cc in
    let rest : take i xs ≡ take i ys = take_below n i xs ys (omega arith) tail in
    cc

get_below : {X : Type 0} (n i : ℕ) (xs ys : List X) → i < n → take n xs ≡ take n ys → slice_get xs i ≡ slice_get ys i
get_below zero i xs ys lt same = absurd (omega arith)
get_below (suc n) i [] [] lt same = refl
get_below (suc n) i [] (y ∷ ys) lt same = cc
get_below (suc n) i (x ∷ xs) [] lt same = cc
get_below (suc n) zero (x ∷ xs) (y ∷ ys) lt same = let head : x ≡ y = cc in cc
get_below (suc n) (suc i) (x ∷ xs) (y ∷ ys) lt same = get_below n i xs ys (omega arith) (let tail : take n xs ≡ take n ys = cc in tail)

module _ (old new : List (Option Key)) (numbers : List ℕ) (counts : List (Key × ℕ)) where
  -- what is numbered stays so where the first receives stay
  pub numbered_alike : take (length numbers) old ≡ take (length numbers) new → AreNumbered old numbers counts → AreNumbered new numbers counts
  numbered_alike same are = record {
    numbered = λ index lt.
        let own = are.numbered index lt in
        record {
          key = own.key;
          is_complete = sym (get_below (length numbers) index old new lt same) ∙ own.is_complete;
          number_is = own.number_is ∙ ap (λ l. Some (count_by (is_key own.key) l)) (take_below (length numbers) index old new (omega arith) same);
        };
    counted = λ key. are.counted key ∙ ap (count_by (is_key key)) same;
  }

module _ (keys : List (Option Key)) (numbers : List ℕ) (counts : List (Key × ℕ)) (are : AreNumbered keys numbers counts) where
  -- those that are numbered are among the receives
  numbers_within : (n : ℕ) → length numbers ≡ n → n ≤ length keys
  numbers_within zero is = omega arith
  numbers_within (suc n) is =
      let last = are.numbered n (omega arith) in
      let lt : n < length keys = slice_get_within keys n (Some last.key) last.is_complete in
      omega arith

  -- one more receive
  pub numbered_posted : (key : Option Key) → AreNumbered (keys ++ key ∷ []) numbers counts
  numbered_posted key =
      numbered_alike keys (keys ++ key ∷ []) numbers counts (sym (take-append-le (length numbers) keys (key ∷ []) (numbers_within (length numbers) refl))) are

  -- a receive that is not complete has no number
  open_past : (index : ℕ) → key_at keys index ≡ None → length numbers ≤ index
  open_past index none =
      ⊎_elim
      (λ (lt : index < length numbers).
      let own = are.numbered index lt in
      let some : key_at keys index ≡ Some own.key = ap (option_and_then (λ (k : Option Key). k)) own.is_complete in
      absurd (let wrong : None ≡ Some own.key = sym none ∙ some in cc))
      (λ (le : length numbers ≤ index). le)
      (cases_lt index (length numbers))

  -- a receive that is complete now
  pub numbered_completed : (index : ℕ) (key : Option Key) → key_at keys index ≡ None → AreNumbered (set keys index key) numbers counts
  numbered_completed index key none = numbered_alike keys (set keys index key) numbers counts (sym (take-set-le (length numbers) keys index key (open_past index none))) are

-- ---- the number of a receive

all_complete : (keys : List (Option Key)) (n : ℕ) → ((i : ℕ) → i < n → is_some (key_at keys i) ≡ true) → list_all is_some (take n keys) ≡ true
all_complete keys zero each = refl
all_complete [] (suc n) each = refl
all_complete (None ∷ keys) (suc n) each = each 0 (omega arith)
all_complete (Some key ∷ keys) (suc n) each = all_complete keys n (λ i lt. each (suc i) (omega arith))

-- a receive after one that is not complete has none
past_open : (keys : List (Option Key)) (n i : ℕ) → n < i → i < length keys → key_at keys n ≡ None → list_all is_some (take i keys) ≡ false
past_open [] n i lt within none = absurd (omega arith)
past_open (k ∷ keys) n zero lt within none = absurd (omega arith)
past_open (None ∷ keys) n (suc i) lt within none = refl
past_open (Some k ∷ keys) zero (suc i) lt within none = cc
past_open (Some k ∷ keys) (suc n) (suc i) lt within none = past_open keys n i (omega arith) (omega arith) none

module _ (keys : List (Option Key)) (numbers : List ℕ) (counts : List (Key × ℕ)) (placed : ArePlaced keys numbers counts) where
  pub number_is : (index : ℕ) → slice_get numbers index ≡ number_at keys index
  number_is index = ⊎_elim within past (cases_lt index (length numbers))
    where
      within : index < length numbers → slice_get numbers index ≡ number_at keys index
      within lt =
          let own = placed.are_numbered.numbered index lt in
          let some : key_at keys index ≡ Some own.key = ap (option_and_then (λ (k : Option Key). k)) own.is_complete in
          let all : list_all is_some (take index keys) ≡ true =
          all_complete keys index (λ i less.
          let one = placed.are_numbered.numbered i (omega arith) in
          ap (λ (o : Option (Option Key)). is_some (option_and_then (λ (k : Option Key). k) o)) one.is_complete) in
          own.number_is ∙ rw (some, all) refl

      beyond : (o : Option Key) → key_at keys index ≡ o → length numbers ≤ index → None ≡ number_at keys index
      beyond None is le = rw is refl
      beyond (Some key) is le =
          let lt : index < length keys = key_within keys index key is in
          let less : length numbers < index = apart key is le in
          rw (is, past_open keys (length numbers) index less lt placed.next_is_open) refl
        where
          key_within : (ks : List (Option Key)) (i : ℕ) (k : Key) → key_at ks i ≡ Some k → i < length ks
          key_within [] i k at = cc
          key_within (x ∷ ks) zero k at = omega arith
          key_within (x ∷ ks) (suc i) k at = let rest = key_within ks i k at in omega arith

          apart : (k : Key) → key_at keys index ≡ Some k → length numbers ≤ index → length numbers < index
          apart k at le =
              ⊎_elim (λ (lt : length numbers < index). lt)
              (λ (ge : index ≤ length numbers).
              let same : index ≡ length numbers = omega arith in
              absurd (let wrong : Some k ≡ None = sym at ∙ ap (key_at keys) same ∙ placed.next_is_open in cc))
              (cases_lt (length numbers) index)

      past : length numbers ≤ index → slice_get numbers index ≡ number_at keys index
      past le = slice_get_past numbers index le ∙ beyond (key_at keys index) refl le

-- ---- counts

-- a count that is put under its key
pub count_put : (old new : List (Key × ℕ)) (own : Key) (n : ℕ) → ((key : Key) → lookup (same_key key) new ≡ cond (same_key own key) (Some n) (lookup (same_key key) old)) → (key : Key) →
    count_of new key ≡ cond (same_key own key) n (count_of old key)
count_put old new own n step key = ap (λ o. unwrap_or o 0) (step key) ∙ by (same_key own key)
  where
    by : (b : Bool) → unwrap_or (cond b (Some n) (lookup (same_key key) old)) 0 ≡ cond b n (count_of old key)
    by true = refl
    by false = refl

module _ (keys : List (Option Key)) (numbers : List ℕ) (old new : List (Key × ℕ)) (key : Key) (number : ℕ) (are : AreNumbered keys numbers old) (there : slice_get keys (length numbers) ≡ Some (Some key))
    (own : number ≡ count_of old key) (step : (other : Key) → count_of new other ≡ cond (same_key key other) (count_of old key + 1) (count_of old other)) where
  longer : length (numbers ++ number ∷ []) ≡ length numbers + 1
  longer = simp length-append (omega arith)

  counted_more : (other : Key) → count_in other keys (length numbers + 1) ≡ count_in other keys (length numbers) + cond (same_key key other) 1 0
  counted_more other =
      ap (count_by (is_key other)) (taken_there keys (length numbers) (Some key) there) ∙ sum_by_push (λ (k : Option Key). cond (is_key other k) 1 0) (take (length numbers) keys) (Some key)

  -- the next receive, with its number
  pub numbered_more : AreNumbered keys (numbers ++ number ∷ []) new
  numbered_more = record {
    numbered = λ index lt. numbered index lt;
    counted = λ other. step other ∙ counted other (same_key key other) refl ∙ sym (counted_more other) ∙ ap (count_in other keys) (sym longer);
  }
    where
      numbered : (index : ℕ) → index < length (numbers ++ number ∷ []) → IsNumbered keys (numbers ++ number ∷ []) index
      numbered index lt = ⊎_elim before last (cases_lt index (length numbers))
        where
          before : index < length numbers → IsNumbered keys (numbers ++ number ∷ []) index
          before less =
              let one = are.numbered index less in
              record { key = one.key; is_complete = one.is_complete; number_is = get_before numbers (number ∷ []) index less ∙ one.number_is }

          last : length numbers ≤ index → IsNumbered keys (numbers ++ number ∷ []) index
          last le =
              let same : length numbers ≡ index = omega (arith, longer) in
              subst (IsNumbered keys (numbers ++ number ∷ [])) same
              (record { key = key; is_complete = there; number_is = get_last numbers number ∙ ap Some (own ∙ are.counted key) })

      counted : (other : Key) (b : Bool) → same_key key other ≡ b → cond b (count_of old key + 1) (count_of old other) ≡ count_in other keys (length numbers) + cond b 1 0
      counted other true h = ap (λ k. count_of old k + 1) (same_key_true key other h) ∙ ap (λ n. n + 1) (are.counted other)
      counted other false h = are.counted other ∙ (let e : count_in other keys (length numbers) ≡ count_in other keys (length numbers) + 0 = omega arith in e)
