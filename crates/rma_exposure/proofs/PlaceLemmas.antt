-- Windows by their places.
use Rattle.std.proofs.Common.{◌≡◌, ℕ, zero, suc, Bool, true, false, cond, ◌∷◌, ◌++◌, List, [], length, Option, Some, None, nat_eq, get_or, slice_get, position, is_some, refl, sym, ap, subst, ◌∙◌, arith}
use Rattle.std.specs.Prelude.{IfSome}
use Rattle.std.specs.Map.{keys_of, values_of}
use Rattle.std.specs.Cmp.Lexicographic.{pointwise, same_text}
use Rattle.std.proofs.lemmas.Cmp.{nat_list_eq_equiv}
use Rattle.std.proofs.lemmas.List.{map-append, length-map}
use Rattle.std.proofs.lemmas.List.Quantifiers.{position-Some}
use Rattle.std.proofs.lemmas.Map.Entries.{lookup_from_place}
use Rattle.std.proofs.lemmas.Option.{slice_get-get_or}
use Rattle.rma_base.specs.RankSet.{has_number}
use Rattle.indexmap.specs.IndexMap.{IndexMap, IsUnique, keys, values, insert_entry, with_value_at}
use Rattle.indexmap.proofs.CallerLemmas.{insert_entry-new, keys-with_value_at, updates-with_value_at}
use Rattle.rma_exposure.specs.declared.openings.Openings.{Openings}
use Rattle.rma_exposure.specs.inside.Epochs.{kept, listed, numbers_in, pending_in, IsOpened}
use Rattle.rma_exposure.specs.inside.Places.{IsPlaceIn, IsPlace, NamesStay, IsAddedAt}

-- an element at the end, and those before it
at_push : {X : Type 0} (xs : List X) (x : X) (i : ℕ) → i ≡ length xs → slice_get (xs ++ x ∷ []) i ≡ Some x
at_push [] x zero is = refl
at_push [] x (suc i) is = absurd (omega arith)
at_push (y ∷ ys) x zero is = absurd (omega arith)
at_push (y ∷ ys) x (suc i) is = at_push ys x i (omega arith)

before_push : {X : Type 0} (xs : List X) (x y : X) (i : ℕ) → slice_get xs i ≡ Some y → slice_get (xs ++ x ∷ []) i ≡ Some y
before_push [] x y i at = absurd (cc)
before_push (z ∷ zs) x y zero at = at
before_push (z ∷ zs) x y (suc i) at = before_push zs x y i at

entry_at : {K X : Type 0} (es : List (K × X)) (i : ℕ) (k : K) (v : X) → slice_get (keys_of es) i ≡ Some k → slice_get (values_of es) i ≡ Some v → slice_get es i ≡ Some (k, v)
entry_at [] i k v key value = absurd (cc)
entry_at (e ∷ es) zero k v key value = let one : e.0 ≡ k = cc in let two : e.1 ≡ v = cc in λ j. Some (one j, two j)
entry_at (e ∷ es) (suc i) k v key value = entry_at es i k v key value

-- a place past the end
pub no_value : {P : Type 0} (es : List (List ℕ × Openings)) (i : ℕ) (k : List ℕ) → slice_get (keys_of es) i ≡ Some k → None ≡ slice_get (values_of es) i → P
no_value [] i k key value = absurd (cc)
no_value (e ∷ es) zero k key value = absurd (cc)
no_value (e ∷ es) (suc i) k key value = no_value es i k key value

not_some : {X : Type 0} (o : Option X) → is_some o ≡ false → o ≡ None
not_some None none = refl
not_some (Some x) none = absurd (cc)

-- the place of a window that was looked up
pub place_found : (windows : List (List ℕ × Openings)) (window : List ℕ) (place : Option ℕ) → place ≡ position (pointwise nat_eq window) (keys_of windows) → is_some place ≡ is_some (kept windows window) → IsPlace windows window place
place_found windows window None index found = not_some (kept windows window) (sym found)
place_found windows window (Some place) index found =
    let at = position-Some (pointwise nat_eq window) (keys_of windows) place [] (sym index) in
    slice_get-get_or (keys_of windows) place [] at.0 ∙ ap Some (sym (same_text window (get_or (keys_of windows) place []) (sym at.1)))

-- a window that has a place stands there
pub there : (windows : List (List ℕ × Openings)) (window : List ℕ) (found : Option ℕ) (place : ℕ) → found ≡ Some place → IsPlace windows window found → IsPlaceIn windows window place
there windows window found place is at = subst (IsPlace windows window) is at

-- a place stays where it is
pub place_stays : (old new : List (List ℕ × Openings)) (window : List ℕ) (place : Option ℕ) → keys_of new ≡ keys_of old → IsPlace old window place → IfSome place (IsPlaceIn new window)
place_stays old new window None same at = tt
place_stays old new window (Some place) same at = ap (λ l. slice_get l place) same ∙ at

-- names that are the same stay
pub same_stay : (old new : List (List ℕ × Openings)) → keys_of new ≡ keys_of old → NamesStay old new
same_stay old new same = λ window place at. ap (λ l. slice_get l place) same ∙ at

module _ {S : Type 0} (m : IndexMap (List ℕ) Openings S) where
  module _ (place : ℕ) (window : List ℕ) (before after : Openings) (unique : IsUnique (pointwise nat_eq) m) (key : slice_get (keys m) place ≡ Some window) (value : slice_get (values m) place ≡ Some before) where
    at : slice_get m.entries place ≡ Some (window, before)
    at = entry_at m.entries place window before key value

    put : (name : List ℕ) → kept (with_value_at m place after).entries name ≡ cond (pointwise nat_eq window name) (Some after) (kept m.entries name)
    put name = (updates-with_value_at m place after nat_list_eq_equiv unique window before at).0 name

    own_before : (name : List ℕ) → pointwise nat_eq window name ≡ true → kept m.entries name ≡ Some before
    own_before name same = ap (kept m.entries) (sym (same_text window name (sym same))) ∙ lookup_from_place nat_list_eq_equiv m.entries place window before unique at

    own_after : (name : List ℕ) → pointwise nat_eq window name ≡ true → kept (with_value_at m place after).entries name ≡ Some after
    own_after name same = put name ∙ ap (λ b. cond b (Some after) (kept m.entries name)) same

    other_after : (name : List ℕ) → pointwise nat_eq window name ≡ false → kept (with_value_at m place after).entries name ≡ kept m.entries name
    other_after name differ = put name ∙ ap (λ b. cond b (Some after) (kept m.entries name)) differ

    -- one more opening at a place
    pub added_at : (number : ℕ) (group : List ℕ) → IsOpened number group (Some before) (Some after) → IsAddedAt window number group m.entries (with_value_at m place after).entries
    added_at number group opened = record {
      own = λ name same.
          subst (λ o. IsOpened number group o (kept (with_value_at m place after).entries name)) (sym (own_before name same))
          (subst (λ o. IsOpened number group (Some before) o) (sym (own_after name same)) opened);
      others = other_after;
      names = keys-with_value_at m place after;
    }

    -- an epoch that is closed there
    pub closed_opener : pending_in (kept m.entries window) ≡ before.pending
    closed_opener = ap pending_in (own_before window (nat_list_eq_equiv.refl window))

    pub closed_numbers : after.numbers ≡ before.numbers → (name : List ℕ) (other : ℕ) → numbers_in (kept (with_value_at m place after).entries name) other ≡ numbers_in (kept m.entries name) other
    closed_numbers same name other = by (pointwise nat_eq window name) refl
      where
        by : (b : Bool) → pointwise nat_eq window name ≡ b → numbers_in (kept (with_value_at m place after).entries name) other ≡ numbers_in (kept m.entries name) other
        by true own =
            ap (λ o. numbers_in o other) (own_after name own)
            ∙ ap (λ n. numbers_in (Some (record before { numbers = n })) other) same
            ∙ ap (λ o. numbers_in o other) (sym (own_before name own))
        by false differ = ap (λ o. numbers_in o other) (other_after name differ)

    pub closed_pending : after.pending ≡ None → (name : List ℕ) → pending_in (kept (with_value_at m place after).entries name) ≡ cond (pointwise nat_eq window name) None (pending_in (kept m.entries name))
    closed_pending none name = by (pointwise nat_eq window name) refl
      where
        by : (b : Bool) → pointwise nat_eq window name ≡ b → pending_in (kept (with_value_at m place after).entries name) ≡ cond b None (pending_in (kept m.entries name))
        by true own = ap pending_in (own_after name own) ∙ none
        by false differ = ap pending_in (other_after name differ)

  -- a window that is new goes last
  pub window_added : (window key : List ℕ) (own : Openings) (new : List (List ℕ × Openings)) → kept m.entries window ≡ None → key ≡ window → new ≡ insert_entry (pointwise nat_eq) m.entries key own → keys_of new ≡ keys m ++ window ∷ []
  window_added window key own new none same is =
      ap keys_of (is ∙ ap (λ k. insert_entry (pointwise nat_eq) m.entries k own) same ∙ insert_entry-new (pointwise nat_eq) m window own none)
      ∙ map-append (λ e. e.0) m.entries ((window, own) ∷ [])

-- the place of a window that is new, and those of the others
pub at_end : (old new : List (List ℕ × Openings)) (window : List ℕ) (place : ℕ) → keys_of new ≡ keys_of old ++ window ∷ [] → place ≡ length old → IsPlaceIn new window place
at_end old new window place added is = ap (λ l. slice_get l place) added ∙ at_push (keys_of old) window place (is ∙ sym (length-map old (λ e. e.0)))

pub others_stay : (old new : List (List ℕ × Openings)) (window : List ℕ) → keys_of new ≡ keys_of old ++ window ∷ [] → NamesStay old new
others_stay old new window added = λ name place at. ap (λ l. slice_get l place) added ∙ before_push (keys_of old) window name place at

-- nothing is open on a window of which nothing is kept
pub none_pending : (windows : List (List ℕ × Openings)) (window : List ℕ) → kept windows window ≡ None → (name : List ℕ) → pending_in (kept windows name) ≡ cond (pointwise nat_eq window name) None (pending_in (kept windows name))
none_pending windows window none name = by (pointwise nat_eq window name) refl
  where
    by : (b : Bool) → pointwise nat_eq window name ≡ b → pending_in (kept windows name) ≡ cond b None (pending_in (kept windows name))
    by true same = ap (λ n. pending_in (kept windows n)) (sym (same_text window name (sym same))) ∙ ap pending_in none
    by false differ = refl

-- the first opening on a window
pub first_opened : (number : ℕ) (group window name : List ℕ) (empty own : Openings) (old new : List (List ℕ × Openings)) → pointwise nat_eq window name ≡ true → kept old window ≡ None → kept new name ≡ Some own
    → empty.numbers.entries ≡ [] → IsOpened number group (Some empty) (Some own) → IsOpened number group (kept old name) (kept new name)
first_opened number group window name empty own old new same none is nothing opened =
    let before : kept old name ≡ None = ap (kept old) (sym (same_text window name (sym same))) ∙ none in
    record {
      numbers = λ other.
          ap (λ o. numbers_in o other) is
          ∙ opened.numbers other
          ∙ ap (λ l. listed l other ++ cond (has_number other group) (number ∷ []) []) nothing
          ∙ ap (λ o. numbers_in o other ++ cond (has_number other group) (number ∷ []) []) (sym before);
      pending = ap pending_in is ∙ opened.pending;
    }
