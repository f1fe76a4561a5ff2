-- The sides that were asked for, with one more.
use Rattle.std.proofs.Common.{◌≡◌, ℕ, zero, suc, ◌+◌, ◌<◌, ◌≤◌, Bool, true, false, cond, not, ◌&&◌, ◌∷◌, ◌++◌, List, [], length, Option, Some, None, eqb, nat_lt, slice_get, position, get_or, Result, Ok, Err, IfOk, OnOk, refl, sym, ap, subst, ◌∙◌, arith, length-append}
use Rattle.std.specs.Prelude.{All, option_map}
use Rattle.std.specs.List.{position_or_len}
use Rattle.std.specs.Map.{lookup, keys_of, values_of}
use Rattle.std.proofs.lemmas.Bool.Decides.{nat_tests}
use Rattle.std.proofs.lemmas.Bool.{lt-ltb}
use Rattle.std.proofs.lemmas.Option.{slice_get-get_or, slice_get_within, get_or_from_slice_get}
use Rattle.std.proofs.lemmas.List.{length-map}
use Rattle.std.proofs.lemmas.List.Sums.{prefix_len-le-length}
use Rattle.std.proofs.lemmas.List.Quantifiers.{position-Some}
use Rattle.std.proofs.lemmas.List.Folds.{position_or_len_push}
use Rattle.rma_base.specs.declared.rank.Rank.{Rank}
use Rattle.rma_side.specs.declared.side.Side.{Side}
use Rattle.rma_side.specs.declared.sides.SideKey.{SideKey}
use Rattle.rma_side.specs.Sides.{Asked, asked, is_for, number_of, side_in, with_side}
use Rattle.rma_side.specs.inside.Sides.{asked_by, asked_in}

-- an element at the end, and those before it
pub at_push : {X : Type 0} (xs : List X) (x : X) → slice_get (xs ++ x ∷ []) (length xs) ≡ Some x
at_push [] x = refl
at_push (y ∷ ys) x = at_push ys x

pub before_push : {X : Type 0} (xs : List X) (x : X) (i : ℕ) → i < length xs → slice_get (xs ++ x ∷ []) i ≡ slice_get xs i
before_push [] x i lt = absurd (omega arith)
before_push (y ∷ ys) x zero lt = refl
before_push (y ∷ ys) x (suc i) lt = before_push ys x i (omega arith)

-- what holds of each holds of one
pub each_at : {X : Type 0} (P : X → Type 0) (xs : List X) → All P xs → (i : ℕ) (x : X) → slice_get xs i ≡ Some x → P x
each_at P xs all i x at = subst P (get_or_from_slice_get xs i x x at) (all i x (slice_get_within xs i x at))

-- the side of the last one
pub side_last : (sides : List Asked) (own : Asked) → side_in (sides ++ own ∷ []) (length sides) ≡ Some own.side
side_last sides own = ap (option_map (λ (own : Asked). own.side)) (at_push sides own)

-- what holds of an `Ok` and its value follows from two facts that do
pub from_both : {T E Q : Type 0} {P R : T → Type 0} (r : Result T E) → ((x : T) → P x → Q → R x) → IfOk r P → OnOk r Q → IfOk r R
from_both (Ok x) f p q = f x p q
from_both (Err e) f p q = tt

-- ---- as they are kept

abbrev pub is_key : SideKey → SideKey → Bool
is_key own other = eqb own.epoch other.epoch && eqb own.target.0 other.target.0

-- the side of a number is the value of its entry
pub side_is : (entries : List (SideKey × Side)) (i : ℕ) → side_in (asked_in entries) i ≡ slice_get (values_of entries) i
side_is [] i = refl
side_is (e ∷ es) zero = refl
side_is (e ∷ es) (suc i) = side_is es i

module _ (index : ℕ) (target : Rank) where
  abbrev pub key : SideKey
  key = record { epoch = index; target = target }

  place : (entries : List (SideKey × Side)) → position_or_len (is_for index target) (asked_in entries) ≡ position_or_len (is_key key) (keys_of entries)
  place [] = refl
  place (e ∷ es) = rw (place es) refl

  -- the number of a side is the index of its key
  pub number_is : (entries : List (SideKey × Side)) → position (is_key key) (keys_of entries) ≡ number_of (asked_in entries) index target
  number_is entries =
      rw (place entries, length-map entries asked_by, length-map entries (λ (e : SideKey × Side). e.0)) refl

  absent : (entries : List (SideKey × Side)) → position_or_len (is_for index target) (asked_in entries) ≡ length entries → lookup (is_key key) entries ≡ None
  absent [] at = refl
  absent (e ∷ es) at = by (is_key key e.0) refl (absent es)
    where
      by : (b : Bool) → is_key key e.0 ≡ b → (position_or_len (is_for index target) (asked_in es) ≡ length es → lookup (is_key key) es ≡ None) → lookup (is_key key) (e ∷ es) ≡ None
      by true h rest = absurd (omega (arith, rw h at at))
      by false h rest = rw h (rest (omega (arith, rw h at at)))

-- where nothing is found, the place is behind all
not_found : (at len : ℕ) → cond (nat_lt at len) (Some at) None ≡ None → len ≤ at
not_found at len = by (nat_lt at len) refl
  where
    by : (b : Bool) → nat_lt at len ≡ b → cond b (Some at) None ≡ None → len ≤ at
    by true h none = absurd (cc)
    by false h none = grind (arith, nat_tests)

found_at : (at len : ℕ) → at < len → cond (nat_lt at len) (Some at) None ≡ Some at
found_at at len lt = rw (lt-ltb at len lt) refl

same : (a b : ℕ) → a ≡ b → eqb a b ≡ true
same a b is = grind (arith, nat_tests)

both : (a b c d : ℕ) → (eqb a b && eqb c d) ≡ true → (a ≡ b) × (c ≡ d)
both a b c d is = (grind (arith, nat_tests), grind (arith, nat_tests))

module _ (index : ℕ) (target : Rank) where
  -- where a side was not asked for, its place is behind all
  last : (sides : List Asked) → number_of sides index target ≡ None → position_or_len (is_for index target) sides ≡ length sides
  last sides none =
      let within = prefix_len-le-length (λ own. not (is_for index target own)) sides in
      let behind = not_found (position_or_len (is_for index target) sides) (length sides) none in
      omega arith

  -- and its key is new
  pub key_is_new : (entries : List (SideKey × Side)) → number_of (asked_in entries) index target ≡ None → lookup (is_key (key index target)) entries ≡ None
  key_is_new entries none = absent index target entries (last (asked_in entries) none ∙ length-map entries asked_by)

  meets : (side : Side) → is_for index target (asked index target side) ≡ true
  meets side = rw (same index index refl, same target.0 target.0 refl) refl

  -- once it was, it is the last one
  pub number_of_last : (sides : List Asked) (side : Side) → number_of sides index target ≡ None → number_of (sides ++ asked index target side ∷ []) index target ≡ Some (length sides)
  number_of_last sides side none =
      let p = is_for index target in
      let all = sides ++ asked index target side ∷ [] in
      let at : position_or_len p all ≡ length sides = rw (position_or_len_push p sides (asked index target side), meets side, last sides none, same (length sides) (length sides) refl) (omega arith) in
      let long : length all ≡ length sides + 1 = length-append sides (asked index target side ∷ []) in
      found_at (position_or_len p all) (length all) (omega arith) ∙ ap Some at

  -- those with one that was not asked for
  pub with_new : (sides : List Asked) (side : Side) → number_of sides index target ≡ None → with_side sides (asked index target side) ≡ sides ++ asked index target side ∷ []
  with_new sides side none = rw none refl

  -- and with one that was
  pub with_known : (sides : List Asked) (n : ℕ) (side : Side) → number_of sides index target ≡ Some n → with_side sides (asked index target side) ≡ sides
  with_known sides n side is = rw is refl

  -- and so there is no other, whichever its side is
  pub known_stays : {X : Type 0} (side_of : X → Side) (sides : List Asked) (n : ℕ) → number_of sides index target ≡ Some n → (xs : List X) (i : ℕ) → i < length xs
      → option_map (λ side. with_side sides (asked index target side)) (option_map side_of (slice_get xs i)) ≡ Some sides
  known_stays side_of sides n is [] i lt = absurd (omega arith)
  known_stays side_of sides n is (x ∷ xs) zero lt = ap Some (with_known sides n (side_of x) is)
  known_stays side_of sides n is (x ∷ xs) (suc i) lt = known_stays side_of sides n is xs i (omega arith)

  -- the side that is found is the one that is asked for, where each is that of its epoch at its target
  pub found : (at : ℕ → Rank → Option Side) (sides : List Asked) (n : ℕ) → number_of sides index target ≡ Some n
      → All (λ own. at own.epoch own.target ≡ Some own.side) sides → side_in sides n ≡ at index target
  found at sides n is are =
      let none : Asked = asked index target (record { opening = None; ending = None }) in
      let there = position-Some (is_for index target) sides n none is in
      let own = get_or sides n none in
      let for = both index own.epoch target.0 own.target.0 there.1 in
      let rank = λ (r : ℕ). let it : Rank = record { 0 = r } in it in
      ap (option_map (λ (own : Asked). own.side)) (slice_get-get_or sides n none there.0)
      ∙ sym (are n none there.0)
      ∙ ap (λ i. at i own.target) (sym for.0)
      ∙ ap (λ r. at index (rank r)) (sym for.1)
