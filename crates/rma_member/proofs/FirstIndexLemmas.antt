-- The first index of a list that passes a test.
use Rattle.std.proofs.Common.{◌≡◌, ℕ, ◌+◌, ◌<◌, Bool, not, cond, List, [], ◌∷◌, ◌++◌, length, get_or, take, position, Some, None, refl, sym, ap, ◌∙◌, arith}
use Rattle.std.specs.Prelude.{find, slice_get}
use Rattle.std.specs.List.{position_or_len}
use Rattle.std.specs.Option.{option_or, option_and_then}
use Rattle.std.proofs.lemmas.List.{length-take, length_push, take_more}
use Rattle.std.proofs.lemmas.Option.{slice_get_past, slice_get_read}
use Rattle.std.proofs.lemmas.List.Folds.{position_or_len_push, find_at}
use Rattle.std.proofs.lemmas.List.Sums.{prefix_len-le-length}
use Rattle.std.proofs.lemmas.List.Quantifiers.{position-Some}
use Rattle.std.proofs.lemmas.Bool.Decides.{nat_tests}
use Rattle.rma_member.specs.declared.declaration.Declaration.{Declaration}
use Rattle.rma_member.specs.Declaration.{is_of, first_of}
use Rattle.rma_member.specs.inside.FirstIndex.{AreFirstIndexes, index_of}

-- the first index in a list with one more element
position_push : {X : Type 0} (p : X → Bool) (xs : List X) (y : X) →
    position p (xs ++ y ∷ []) ≡ option_or (position p xs) (cond (p y) (Some (length xs)) None)
position_push p xs y = let le = prefix_len-le-length (λ x. not (p x)) xs in grind (arith, nat_tests, position_or_len_push p xs y, length_push xs y, le)

pub position_more : {X : Type 0} (p : X → Bool) (xs : List X) (i : ℕ) (x : X) → i < length xs → x ≡ get_or xs i x →
    option_or (position p (take i xs)) (cond (p x) (Some i) None) ≡ position p (take (i + 1) xs)
position_more p xs i x lt is =
    let long : length (take i xs) ≡ i = simp length-take (omega arith) in
    ap (λ n. option_or (position p (take i xs)) (cond (p x) (Some n) None)) (sym long)
    ∙ sym (position_push p (take i xs) x)
    ∙ ap (position p) (sym (take_more xs i x lt ∙ ap (λ y. take i xs ++ y ∷ []) (sym is)))

-- what is found first is at the first index
pub find_position : {X : Type 0} (p : X → Bool) (xs : List X) → find p xs ≡ option_and_then (slice_get xs) (position p xs)
find_position p xs = grind (arith, nat_tests, find_at p xs, slice_get_past xs (position_or_len p xs))

module _ {T : Type 0} (list : List (Declaration T)) (indexes : List (List ℕ × ℕ)) (name : List ℕ) (are : AreFirstIndexes list indexes) where
  -- the declaration at the index of a name is its first
  pub declared_first : (index : ℕ) (x : Declaration T) → index_of indexes name ≡ Some index → x ≡ get_or list index x → Some x ≡ first_of list name
  declared_first index x at is =
      let here = sym (are name) ∙ at in
      sym (find_position (is_of name) list ∙ ap (option_and_then (slice_get list)) here
      ∙ slice_get_read list (length list) index x refl (position-Some (is_of name) list index x here).0 is)

  -- nothing declares a name without an index
  pub declared_never : index_of indexes name ≡ None → None ≡ first_of list name
  declared_never at = sym (find_position (is_of name) list ∙ ap (option_and_then (slice_get list)) (sym (are name) ∙ at))
