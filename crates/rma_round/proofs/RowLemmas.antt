-- The ranks that have calls on one name, with their calls.
use Rattle.std.proofs.Common.{◌≡◌, ℕ, ◌+◌, ◌<◌, ◌≤◌, Bool, true, false, cond, fold, map, max, nat_lt, ◌∷◌, List, [], length, Option, Some, None, Result, Ok, Err, nat_cmp, get_or, slice_get, refl, sym, ap, subst, ◌∙◌, arith}
use Rattle.std.specs.Prelude.{option_map, unwrap_or, IsSome, IfOk, Contains}
use Rattle.std.specs.List.Sorted.{IsStrictlyIncreasing}
use Rattle.std.proofs.Math.Nat.{le-max_left, le-max_right}
use Rattle.std.proofs.lemmas.Bool.Decides.{nat_tests}
use Rattle.std.proofs.lemmas.List.Elements.{All-contains}
use Rattle.rma_run.proofs.ContainLemmas.{has_first, has_later, has_none, first_or_later}
use Rattle.std.specs.Map.{keys_of, lookup}
use Rattle.std.specs.BTreeMap.{IsOrdered, get, is_at}
use Rattle.std.proofs.lemmas.Cmp.{nat_cmp_total}
use Rattle.std.proofs.lemmas.Map.Entries.{btree_map_get_place}
use Rattle.std.proofs.lemmas.Map.Keys.{IsStrictlyIncreasing-from_sorted}
use Rattle.std.proofs.lemmas.Map.Lookups.{exact_unsigned}
use Rattle.std.proofs.lemmas.Map.Views.{btree_map_contains_key_iff}
use Rattle.std.proofs.lemmas.Option.{slice_get-map, slice_get-get_or}
use Rattle.rma_round.specs.declared.name_rounds.NameRounds.{NameRounds}
use Rattle.rma_round.specs.declared.name_rounds.RankRounds.{RankRounds}
use Rattle.rma_round.specs.inside.Rounds.{listed, ranks_of, row_entry, row_entries, AreRows, calls_in}

ranks_are_keys : (rows : List RankRounds) → ranks_of rows ≡ keys_of (row_entries rows)
ranks_are_keys [] = refl
ranks_are_keys (row ∷ rows) = ap (λ l. row.rank.0 ∷ l) (ranks_are_keys rows)

module _ (rounds : NameRounds) (ordered : IsOrdered nat_cmp rounds.ranks) (rows : List RankRounds) (same : row_entries rows ≡ rounds.ranks.entries) where
  ranks_same : ranks_of rows ≡ keys_of rounds.ranks.entries
  ranks_same = ranks_are_keys rows ∙ ap keys_of same

  is_some_listed : (o : Option (List ℕ)) → 0 < length (unwrap_or o []) → IsSome o
  is_some_listed None some = absurd (omega arith)
  is_some_listed (Some own) some = refl

  pub rows_are : AreRows rounds rows
  rows_are = record {
    ascend = subst IsStrictlyIncreasing (sym ranks_same) (IsStrictlyIncreasing-from_sorted (keys_of rounds.ranks.entries) ordered);
    numbers_are = λ k d lt.
        let row = get_or rows k d in
        let at : slice_get rounds.ranks.entries k ≡ Some (row_entry row) =
        ap (λ es. slice_get es k) (sym same) ∙ slice_get-map row_entry rows k ∙ ap (option_map row_entry) (slice_get-get_or rows k d lt) in
        ap (λ o. unwrap_or o []) (sym (btree_map_get_place nat_cmp_total rounds.ranks k row.rank.0 row.numbers.now ordered at));
    each = λ rank some.
        subst (λ l. Contains l rank) (sym ranks_same)
        ((btree_map_contains_key_iff nat_cmp_total exact_unsigned rounds.ranks rank).0 (is_some_listed (get nat_cmp rounds.ranks rank) some));
  }

pub IfOk_map : {T E : Type 0} {P Q : T → Type 0} (r : Result T E) → ((x : T) → P x → Q x) → IfOk r P → IfOk r Q
IfOk_map (Ok x) f p = f x p
IfOk_map (Err e) f p = tt

pub in_map : {X Y : Type 0} (f : X → Y) (xs : List X) (y : Y) → Contains (map f xs) y → (x : X) × Contains xs x × (f x ≡ y)
in_map f [] y has = has_none y has
in_map f (x ∷ xs) y has =
    first_or_later (f x) y (map f xs)
    (λ is. (x, has_first x xs, is))
    (λ later. let one = in_map f xs y later in (one.0, has_later x one.0 xs one.1, one.2))
    has

pub some_within : {X : Type 0} (xs : List X) (x : X) → Contains xs x → 0 < length xs
some_within [] x has = has_none x has
some_within (y ∷ ys) x has = omega arith

pub some_there : (l : List ℕ) (number index : ℕ) → slice_get l number ≡ Some index → 0 < length l
some_there [] number index is = absurd (let no : ⊥ = cc in no)
some_there (n ∷ ns) number index is = omega arith

-- a rank that makes a call has a row
module _ (rounds : NameRounds) (rows : List RankRounds) (are_rows : AreRows rounds rows) where
  pub row_of : (rank : ℕ) → 0 < length (calls_in rounds rank) → (row : RankRounds) × Contains rows row × (row.rank.0 ≡ rank)
  row_of rank some = in_map (λ row. row.rank.0) rows rank (are_rows.each rank some)

  -- and a row has the calls of its rank
  pub calls_of_row : (row : RankRounds) → Contains rows row → row.numbers.now ≡ calls_in rounds row.rank.0
  calls_of_row row has = All-contains (λ (r : RankRounds). r.numbers.now ≡ calls_in rounds r.rank.0) rows row are_rows.numbers_are has

-- the names before, or this one
pub before_or_here : (P : Type 0) (j i : ℕ) → j < i + 1 → (j < i → P) → (j ≡ i → P) → P
before_or_here P j i below before here = by (nat_lt j i) refl
  where
    by : (b : Bool) → nat_lt j i ≡ b → P
    by true is = before (grind (arith, nat_tests))
    by false is = here (grind (arith, nat_tests))

longest_from : (es : List (ℕ × List ℕ)) (n : ℕ) → n ≤ fold (λ most e. max most (length e.1)) n es
longest_from [] n = omega arith
longest_from (e ∷ es) n = let one = le-max_left n (length e.1) in let rest = longest_from es (max n (length e.1)) in omega arith

-- no rank has more calls than the longest
pub listed_within : (rank : ℕ) (es : List (ℕ × List ℕ)) (n : ℕ) → length (listed es rank) ≤ fold (λ most e. max most (length e.1)) n es
listed_within rank [] n = omega arith
listed_within rank (e ∷ es) n = by (is_at (nat_cmp rank) e.0) (listed_within rank es (max n (length e.1)))
  where
    by : (b : Bool) → length (listed es rank) ≤ fold (λ most x. max most (length x.1)) (max n (length e.1)) es
        → length (unwrap_or (cond b (Some e.1) (lookup (is_at (nat_cmp rank)) es)) []) ≤ fold (λ most x. max most (length x.1)) (max n (length e.1)) es
    by true rest = let own = le-max_right n (length e.1) in let from = longest_from es (max n (length e.1)) in omega arith
    by false rest = rest
