-- The pieces of a field, and the numbers that they are.
use Rattle.std.proofs.Common.{◌≡◌, ℕ, ℤ, suc, ◌+◌, ◌<◌, ◌≤◌, Bool, true, false, not, ◌&&◌, ◌||◌, List, [], ◌∷◌, ◌++◌, length, take, drop, map, Option, Some, None, refl, sym, ap, subst, ◌∙◌, eqb, ⊎_elim, arith, append_assoc}
use Rattle.std.specs.Prelude.{option_map, option_and_then, pos, negsuc, filter, codes, nat_eq, Ok, Err, if◌then◌else◌}
use Rattle.std.specs.Cmp.Lexicographic.{pointwise}
use Rattle.std.specs.Borrow.{Bor}
use Rattle.std.specs.List.{prefix_len, take_while, list_all, list_any}
use Rattle.std.proofs.Math.Numerals.{one-add}
use Rattle.std.proofs.lemmas.Bool.{cases_Bool, false≢true}
use Rattle.std.proofs.lemmas.List.Folds.{length-prefix_len}
use Rattle.rma_base.specs.RankSet.{has_repeat, has_number, ascending}
use Rattle.std.proofs.Common.{◌-◌, add-one}
use Rattle.std.proofs.lemmas.List.{take_rest}
use Rattle.rma_base.specs.declared.form_reason.FormReason.TheVariants.{BadNumber}
use Rattle.rma_field.specs.declared.parse_error.ParseError.{ParseError}
use Rattle.rma_field.specs.declared.parse_error.ParseError.TheVariants.{Fault, Memory}
use Rattle.rma_field.specs.Steps.{Fails}
use Rattle.rma_field.specs.Numbers.{number}
use Rattle.rma_field.specs.Ranks.{pieces, onto_first_piece, is_comma_free, numbers, is_rank, is_same, natural_of, repeats, set_of, rank_set}

comma_free : (b : ℕ) → eqb b 44 ≡ false → is_comma_free b ≡ true
comma_free b h = rw h

comma : (b : ℕ) → eqb b 44 ≡ true → is_comma_free b ≡ false
comma b h = rw h

prefix_passes : (b : ℕ) (bs : List ℕ) → eqb b 44 ≡ false → prefix_len is_comma_free (b ∷ bs) ≡ suc (prefix_len is_comma_free bs)
prefix_passes b bs h = rw h (one-add (prefix_len is_comma_free bs))

prefix_fails : (b : ℕ) (bs : List ℕ) → eqb b 44 ≡ true → prefix_len is_comma_free (b ∷ bs) ≡ 0
prefix_fails b bs h = rw h

pub pieces_other : (b : ℕ) (bs : List ℕ) → eqb b 44 ≡ false → pieces (b ∷ bs) ≡ onto_first_piece b (pieces bs)
pieces_other b bs h = rw h

pieces_comma : (b : ℕ) (bs : List ℕ) → eqb b 44 ≡ true → pieces (b ∷ bs) ≡ [] ∷ pieces bs
pieces_comma b bs h = rw h

pub pieces_cut : (bs : List ℕ) → prefix_len is_comma_free bs < length bs
    → pieces bs ≡ take (prefix_len is_comma_free bs) bs ∷ pieces (drop (suc (prefix_len is_comma_free bs)) bs)
pieces_cut [] h = absurd (omega arith)
pieces_cut (b ∷ bs) h =
    ⊎_elim
    (λ (at : eqb b 44 ≡ true). rw (prefix_fails b bs at) (pieces_comma b bs at))
    (λ (other : eqb b 44 ≡ false).
    let within : prefix_len is_comma_free bs < length bs = omega (arith, prefix_passes b bs other) in
    rw (prefix_passes b bs other) (pieces_other b bs other ∙ ap (onto_first_piece b) (pieces_cut bs within)))
    (cases_Bool (eqb b 44))

pub pieces_whole : (bs : List ℕ) → length bs ≤ prefix_len is_comma_free bs → pieces bs ≡ bs ∷ []
pieces_whole [] h = refl
pieces_whole (b ∷ bs) h =
    ⊎_elim
    (λ (at : eqb b 44 ≡ true). absurd (omega (arith, prefix_fails b bs at)))
    (λ (other : eqb b 44 ≡ false).
    let all : length bs ≤ prefix_len is_comma_free bs = omega (arith, prefix_passes b bs other) in
    pieces_other b bs other ∙ ap (onto_first_piece b) (pieces_whole bs all))
    (cases_Bool (eqb b 44))

-- how much is left
abbrev pub left_length : Option (Bor (List ℕ)) → ℕ
left_length None = 0
left_length (Some text) = length text.now + 1

module _ (bs : List ℕ) (place : ℕ) (is : place ≡ length (take_while is_comma_free bs)) where
  place_is : place ≡ prefix_len is_comma_free bs
  place_is = is ∙ length-prefix_len is_comma_free bs

  pub cut_some : place < length bs → pieces bs ≡ take place bs ∷ pieces (take (length bs - (place + 1)) (drop (place + 1) bs))
  cut_some within =
      rw (take_rest bs (place + 1), add-one)
      (subst (λ k. pieces bs ≡ take k bs ∷ pieces (drop (suc k) bs)) (sym place_is) (pieces_cut bs (subst (λ k. k < length bs) place_is within)))

  pub cut_none : length bs ≤ place → pieces bs ≡ bs ∷ []
  cut_none all = pieces_whole bs (subst (λ k. length bs ≤ k) place_is all)

-- a piece that is no number
pub numbers_none : (piece : List ℕ) (left : List (List ℕ)) → number piece ≡ None → numbers (piece ∷ left) ≡ None
numbers_none piece left none = rw none

pub Fails_none : (last : ℕ) (error : ParseError) (read : Option (List ℤ)) → ((error ≡ Memory → ⊥) → read ≡ None) → ((error ≡ Memory → ⊥) → error ≡ Fault (record { reason = BadNumber })) → Fails error (set_of last read)
Fails_none last Memory read none only = tt
Fails_none last (Fault fault) read none only =
    let is : Fault fault ≡ Fault (record { reason = BadNumber }) = only (λ same. cc same) in
    let reason : fault.reason ≡ BadNumber = cc is in
    let nothing = none (λ same. cc same) in
    rw (nothing, reason)

and_left_lem : (a b : Bool) → (a && b) ≡ true → a ≡ true
and_left_lem true b h = refl
and_left_lem false b h = h

and_right_lem : (a b : Bool) → (a && b) ≡ true → b ≡ true
and_right_lem true b h = h
and_right_lem false b h = absurd (false≢true h)

-- numbers that are ranks
filter_ranks : (last : ℕ) (zs : List ℤ) → list_all (is_rank last) zs ≡ true → filter (is_rank last) zs ≡ zs
filter_ranks last [] all = refl
filter_ranks last (z ∷ zs) all = rw (and_left_lem (is_rank last z) _ all) (ap (λ them. z ∷ them) (filter_ranks last zs (and_right_lem (is_rank last z) _ all)))

same_ranks_lem : (last n : ℕ) (zs : List ℤ) → list_all (is_rank last) zs ≡ true → list_any (λ y. is_same y (pos n)) zs ≡ has_number n (map natural_of zs)
same_ranks_lem last n [] all = refl
same_ranks_lem last n (pos m ∷ zs) all = ap (λ later. eqb m n || later) (same_ranks_lem last n zs (and_right_lem (is_rank last (pos m)) _ all))
same_ranks_lem last n (negsuc m ∷ zs) all = absurd (false≢true all)

pub repeats_ranks : (last : ℕ) (zs : List ℤ) → list_all (is_rank last) zs ≡ true → repeats zs ≡ has_repeat (map natural_of zs)
repeats_ranks last [] all = refl
repeats_ranks last (pos m ∷ zs) all =
    let later = and_right_lem (is_rank last (pos m)) _ all in
    rw (same_ranks_lem last m zs later, repeats_ranks last zs later)
repeats_ranks last (negsuc m ∷ zs) all = absurd (false≢true all)

rank_set_listed : (last : ℕ) (text : List ℕ) → pointwise nat_eq text (codes "none") ≡ false → rank_set last text ≡ set_of last (numbers (pieces text))
rank_set_listed last text other = rw other

set_of_ranks : (last : ℕ) (zs : List ℤ) → list_all (is_rank last) zs ≡ true
    → set_of last (Some zs) ≡ (if has_repeat (map natural_of (filter (is_rank last) zs)) then Err BadNumber else Ok (ascending (map natural_of (filter (is_rank last) zs))))
set_of_ranks last zs all = rw (filter_ranks last zs all, repeats_ranks last zs all, all)

not_false_lem : (b : Bool) → not b ≡ false → b ≡ true
not_false_lem true h = refl
not_false_lem false h = absurd (false≢true (sym h))

pub rank_set_ranks : (last : ℕ) (text : List ℕ) (zs : List ℤ) (ranks : List ℕ) (far : Bool) → pointwise nat_eq text (codes "none") ≡ false → numbers (pieces text) ≡ Some zs
    → ranks ≡ map natural_of (filter (is_rank last) zs) → far ≡ not (list_all (is_rank last) zs) → far ≡ false
    → rank_set last text ≡ (if has_repeat ranks then Err BadNumber else Ok (ascending ranks))
rank_set_ranks last text zs ranks far other read kept is_far near =
    let all : list_all (is_rank last) zs ≡ true = not_false_lem (list_all (is_rank last) zs) (sym is_far ∙ near) in
    rank_set_listed last text other ∙ ap (set_of last) read ∙ set_of_ranks last zs all ∙ rw kept refl

-- the first number, and those after it
pub numbers_parts : (a : Option ℤ) (b : Option (List ℤ)) (zs : List ℤ) → option_and_then (λ z. option_map (λ zs. z ∷ zs) b) a ≡ Some zs
    → (y : ℤ) × (ys : List ℤ) × (a ≡ Some y) × (b ≡ Some ys) × (zs ≡ y ∷ ys)
numbers_parts None b zs h = absurd (cc h)
numbers_parts (Some y) None zs h = absurd (cc h)
numbers_parts (Some y) (Some ys) zs h = let same : zs ≡ y ∷ ys = cc h in (y, ys, refl, refl, same)

pub stands_next : (piece : List ℕ) (left : List (List ℕ)) (z : ℤ) (ys : List ℤ) (found : Bool) → numbers (piece ∷ left) ≡ Some ys
    → ((y : ℤ) → number piece ≡ Some y → found ≡ is_same y z)
    → (rest : List ℤ) × (numbers left ≡ Some rest) × (list_any (λ y. is_same y z) ys ≡ (found || list_any (λ y. is_same y z) rest))
stands_next piece left z ys found read is =
    let parts = numbers_parts (number piece) (numbers left) ys read in
    (parts.1, parts.3, ap (list_any (λ y. is_same y z)) parts.4 ∙ ap (λ b. b || list_any (λ y. is_same y z) parts.1) (sym (is parts.0 parts.2)))

pub repeats_next : (piece : List ℕ) (left : List (List ℕ)) (ys : List ℤ) (found : Bool) → numbers (piece ∷ left) ≡ Some ys
    → ((y : ℤ) (zs : List ℤ) → number piece ≡ Some y → numbers left ≡ Some zs → found ≡ list_any (λ x. is_same x y) zs)
    → (rest : List ℤ) × (numbers left ≡ Some rest) × (repeats ys ≡ (found || repeats rest))
repeats_next piece left ys found read is =
    let parts = numbers_parts (number piece) (numbers left) ys read in
    (parts.1, parts.3, ap repeats parts.4 ∙ ap (λ b. b || repeats parts.1) (sym (is parts.0 parts.1 parts.2 parts.3)))

option_append : (zs : List ℤ) (z : ℤ) (read : Option (List ℤ)) → option_map (λ more. zs ++ more) (option_map (λ more. z ∷ more) read) ≡ option_map (λ more. (zs ++ z ∷ []) ++ more) read
option_append zs z None = refl
option_append zs z (Some more) = ap Some (sym (append_assoc zs (z ∷ []) more))

-- one more of the numbers of some pieces was read
pub numbers_step : (zs : List ℤ) (z : ℤ) (piece : List ℕ) (left : List (List ℕ)) → number piece ≡ Some z
    → option_map (λ more. zs ++ more) (numbers (piece ∷ left)) ≡ option_map (λ more. (zs ++ z ∷ []) ++ more) (numbers left)
numbers_step zs z piece left is = rw is (option_append zs z (numbers left))
