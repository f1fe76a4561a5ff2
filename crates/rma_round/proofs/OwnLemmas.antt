-- The calls of one rank that are of a kind, by the name that they are on.
use Rattle.std.proofs.Common.{◌≡◌, ℕ, zero, suc, ◌+◌, ◌<◌, Bool, true, false, cond, ◌∷◌, ◌++◌, List, [], length, Option, Some, None, nat_eq, take, get_or, slice_get, position, is_some, refl, sym, ap, subst, ◌∙◌, arith, append-nil}
use Rattle.std.specs.Prelude.{All, unwrap_or}
use Rattle.std.specs.List.{IsDistinct}
use Rattle.std.specs.Option.{option_map_or}
use Rattle.std.specs.Map.{lookup, keys_of, values_of}
use Rattle.std.specs.Cmp.Lexicographic.{pointwise, same_text}
use Rattle.std.proofs.lemmas.Bool.{eqb-true}
use Rattle.std.proofs.lemmas.Cmp.{nat_list_eq_equiv}
use Rattle.std.proofs.lemmas.List.{map-append}
use Rattle.std.proofs.lemmas.List.Quantifiers.{position-Some}
use Rattle.std.proofs.lemmas.Map.Entries.{lookup_from_place}
use Rattle.std.proofs.lemmas.Map.Views.{lookup-from_Contains}
use Rattle.std.proofs.lemmas.Option.{slice_get-get_or, slice_get_within, none-some}
use Rattle.indexmap.specs.IndexMap.{IndexMap, IsUnique, keys, values, get, insert_entry, with_value_at}
use Rattle.indexmap.proofs.CallerLemmas.{insert_entry-new, updates-with_value_at}
use Rattle.rma_call.specs.Call.{Call}
use Rattle.rma_call.specs.declared.what.What.{What}
use Rattle.rma_run.specs.Run.{with_calls}
use Rattle.rma_run.proofs.CallLemmas.{itself}
use Rattle.rma_run.proofs.ContainLemmas.{all_from_contains}
use Rattle.rma_run.proofs.WalkLemmas.{taken_there, taken_length}
use Rattle.rma_round.specs.declared.kind.Kind.{Kind}
use Rattle.rma_round.specs.declared.kind.Kind.TheVariants.{Collective, Free, Fence, Moving}
use Rattle.rma_round.specs.declared.kind_rounds.KindRounds.{KindRounds}
use Rattle.rma_round.specs.Kind.{named, is_on}
use Rattle.rma_round.specs.Round.{numbers}
use Rattle.rma_round.specs.inside.Rounds.{kept, numbers_in, AreOfKind}
use Rattle.rma_round.specs.inside.Lists.{list_of, index_in, HasNumbers, IsPlaceOf, ArePlaces, StayThere, IsPushed}
use Rattle.rma_round.specs.declared.own_calls.Place.{Place}
use Rattle.rma_round.proofs.NumberLemmas.{numbers_push, call_at}

pub some_at : {X : Type 0} (xs : List X) (i : ℕ) → i < length xs → (x : X) × (slice_get xs i ≡ Some x)
some_at [] i lt = absurd (omega arith)
some_at (x ∷ xs) zero lt = (x, refl)
some_at (x ∷ xs) (suc i) lt = some_at xs i (omega arith)

-- an element at the end, and those before it
pub at_push : {X : Type 0} (xs : List X) (x : X) (i : ℕ) → i ≡ length xs → slice_get (xs ++ x ∷ []) i ≡ Some x
at_push [] x zero is = refl
at_push [] x (suc i) is = absurd (omega arith)
at_push (y ∷ ys) x zero is = absurd (omega arith)
at_push (y ∷ ys) x (suc i) is = at_push ys x i (omega arith)

pub before_push : {X : Type 0} (xs : List X) (x y : X) (i : ℕ) → slice_get xs i ≡ Some y → slice_get (xs ++ x ∷ []) i ≡ Some y
before_push [] x y i at = absurd (cc)
before_push (z ∷ zs) x y zero at = at
before_push (z ∷ zs) x y (suc i) at = before_push zs x y i at

pub in_push : {X : Type 0} (P : Type 0) (xs : List X) (x y : X) (i : ℕ) → slice_get (xs ++ x ∷ []) i ≡ Some y → (slice_get xs i ≡ Some y → P) → (i ≡ length xs → x ≡ y → P) → P
in_push P [] x y zero at before last = last refl (cc)
in_push P [] x y (suc i) at before last = absurd (cc)
in_push P (z ∷ zs) x y zero at before last = before at
in_push P (z ∷ zs) x y (suc i) at before last = in_push P zs x y i at before (λ is same. last (ap suc is) same)

entry_at : {K X : Type 0} (es : List (K × X)) (i : ℕ) (k : K) (v : X) → slice_get (keys_of es) i ≡ Some k → slice_get (values_of es) i ≡ Some v → slice_get es i ≡ Some (k, v)
entry_at [] i k v key value = absurd (cc)
entry_at (e ∷ es) zero k v key value = let one : e.0 ≡ k = cc in let two : e.1 ≡ v = cc in λ j. Some (one j, two j)
entry_at (e ∷ es) (suc i) k v key value = entry_at es i k v key value

-- ---- lists by name

module _ {S : Type 0} (m : IndexMap (List ℕ) (List ℕ) S) where
  -- one more call in the list at a place
  pub list_pushed : (place number : ℕ) (own before : List ℕ) → IsUnique (pointwise nat_eq) m → slice_get (keys m) place ≡ Some own → slice_get (values m) place ≡ Some before → (name : List ℕ)
      → list_of (with_value_at m place (before ++ number ∷ [])).entries name ≡ list_of m.entries name ++ cond (pointwise nat_eq own name) (number ∷ []) []
  list_pushed place number own before unique key value name = by (pointwise nat_eq own name) refl
    where
      at : slice_get m.entries place ≡ Some (own, before)
      at = entry_at m.entries place own before key value

      pushed : lookup (pointwise nat_eq name) (with_value_at m place (before ++ number ∷ [])).entries ≡ cond (pointwise nat_eq own name) (Some (before ++ number ∷ [])) (lookup (pointwise nat_eq name) m.entries)
      pushed = (updates-with_value_at m place (before ++ number ∷ []) nat_list_eq_equiv unique own before at).0 name

      by : (b : Bool) → pointwise nat_eq own name ≡ b → list_of (with_value_at m place (before ++ number ∷ [])).entries name ≡ list_of m.entries name ++ cond b (number ∷ []) []
      by true same =
          let old = lookup_from_place nat_list_eq_equiv m.entries place own before unique at in
          ap (λ o. unwrap_or o []) (pushed ∙ ap (λ b. cond b (Some (before ++ number ∷ [])) (lookup (pointwise nat_eq name) m.entries)) same)
          ∙ ap (λ l. l ++ number ∷ []) (ap (λ o. unwrap_or o []) (sym old) ∙ ap (list_of m.entries) (same_text own name (sym same)))
      by false differ =
          ap (λ o. unwrap_or o []) (pushed ∙ ap (λ b. cond b (Some (before ++ number ∷ [])) (lookup (pointwise nat_eq name) m.entries)) differ)
          ∙ sym (append-nil (list_of m.entries name))

  no_entry : (o : Option (List ℕ)) → is_some o ≡ false → o ≡ None
  no_entry None none = refl
  no_entry (Some l) none = absurd (cc)

  -- a new name goes last
  pub name_added : (name key own : List ℕ) (new : List (List ℕ × List ℕ)) → is_some (get (pointwise nat_eq) m name) ≡ false → key ≡ name → new ≡ insert_entry (pointwise nat_eq) m.entries key own → keys_of new ≡ keys m ++ name ∷ []
  name_added name key own new none same is =
      ap keys_of (is ∙ ap (λ k. insert_entry (pointwise nat_eq) m.entries k own) same ∙ insert_entry-new (pointwise nat_eq) m name own (no_entry (get (pointwise nat_eq) m name) none))
      ∙ map-append (λ e. e.0) m.entries ((name, own) ∷ [])

-- a place past the end
pub no_value : {P : Type 0} (es : List (List ℕ × List ℕ)) (i : ℕ) (k : List ℕ) → slice_get (keys_of es) i ≡ Some k → None ≡ slice_get (values_of es) i → P
no_value [] i k key value = absurd (cc)
no_value (e ∷ es) zero k key value = absurd (cc)
no_value (e ∷ es) (suc i) k key value = no_value es i k key value

-- the place of a name that is there
pub found_at : (names : List (List ℕ)) (name : List ℕ) (place : ℕ) → Some place ≡ position (pointwise nat_eq name) names → slice_get names place ≡ Some name
found_at names name place is =
    let at = position-Some (pointwise nat_eq name) names place [] (sym is) in
    slice_get-get_or names place [] at.0 ∙ ap Some (sym (same_text name (get_or names place []) (sym at.1)))

-- a place stays that of what calls do
pub IsPlaceOf_stays : (kind : Kind) (old new : List (List ℕ)) (what : What) (place : Option ℕ) → StayThere old new → IsPlaceOf kind old what place → IsPlaceOf kind new what place
IsPlaceOf_stays kind old new what None stay none = none
IsPlaceOf_stays kind old new what (Some place) stay (name, at, is) = (name, stay place name at, is)

-- the places with one more
pub ArePlaces_more : (kind : Kind) (old new : List (List ℕ)) (whats : List What) (places : List Place) (what : What) (place : Place) → StayThere old new →
    slice_get whats (length places) ≡ Some what → IsPlaceOf kind new what (index_in kind place) → ArePlaces kind old whats places → ArePlaces kind new whats (places ++ place ∷ [])
ArePlaces_more kind old new whats places what place stay there is are number other found at in_places =
    in_push (IsPlaceOf kind new other (index_in kind found)) places place found number in_places
    (λ before. IsPlaceOf_stays kind old new other (index_in kind found) stay (are number other found at before))
    (λ last same. let one : what ≡ other = (let here = ap (slice_get whats) last in cc) in subst (λ p. IsPlaceOf kind new other (index_in kind p)) same (subst (λ w. IsPlaceOf kind new w (index_in kind place)) one is))

-- what holds of each kind
pub each_kind : (P : Kind → Type 0) → P Collective → P Free → P Fence → P Moving → (kind : Kind) → P kind
each_kind P collective free fence moving Collective = collective
each_kind P collective free fence moving Free = free
each_kind P collective free fence moving Fence = fence
each_kind P collective free fence moving Moving = moving

-- a call that is on no name of the kind is in no list of it
pub nothing_pushed : (kind : Kind) (number : ℕ) (lists : List (List ℕ × List ℕ)) → IsPushed kind None number lists lists
nothing_pushed kind number lists = record {
  names_stay = refl;
  lists_are = λ call none name. sym (append-nil (list_of lists name)) ∙ ap (λ o. list_of lists name ++ cond (option_map_or (λ own. pointwise nat_eq own name) o false) (number ∷ []) []) (sym none);
}

-- ---- the numbers of the calls

-- the numbers with those of one call more
pub numbers_taken : (kind : Kind) (name : List ℕ) (calls : List Call) (i : ℕ) (call : Call) → slice_get calls i ≡ Some call →
    numbers kind name (take i calls) ++ cond (is_on kind name call) (i ∷ []) [] ≡ numbers kind name (take (i + 1) calls)
numbers_taken kind name calls i call there =
    ap (λ k. numbers kind name (take i calls) ++ cond (is_on kind name call) (k ∷ []) []) (sym (taken_length calls i call there))
    ∙ sym (numbers_push kind name (take i calls) call)
    ∙ ap (numbers kind name) (sym (taken_there calls i call there))

no_element : {X : Type 0} (xs : List X) → ((i : ℕ) (x : X) → slice_get xs i ≡ Some x → ⊥) → [] ≡ xs
no_element [] none = refl
no_element (x ∷ xs) none = absurd (none 0 x refl)

-- where no name has a place there are no numbers
pub no_numbers : (kind : Kind) (names : List (List ℕ)) (whats : List What) (places : List Place) (calls : List Call) → names ≡ [] → length places ≡ length whats → HasNumbers whats calls → ArePlaces kind names whats places
    → (name : List ℕ) → [] ≡ numbers kind name calls
no_numbers kind names whats places calls empty long each are name =
    no_element (numbers kind name calls)
    (λ i number at.
    let one = call_at kind name calls i number at in
    let has = each number one.0 one.1 in
    let below = slice_get_within whats has.0 one.0.what has.1 in
    let place = some_at places has.0 (omega arith) in
    by one.0.what (index_in kind place.0) one.2 (are has.0 one.0.what place.0 has.1 place.1))
  where
    by : (what : What) (place : Option ℕ) → named kind what ≡ Some name → IsPlaceOf kind names what place → ⊥
    by what None is none = none-some name (sym none ∙ is)
    by what (Some place) is (own, at, same) = none-some own (ap (λ l. slice_get l place) (sym empty) ∙ at)

-- the calls of a rank are taken, but for those on the names that are left
pub record ArePartlyTaken (kind : Kind) (now : ℕ → List Call) (rank : ℕ) (left : List (List ℕ × List ℕ)) (rounds : KindRounds) : Type 0 where
  pub kind_is : rounds.kind ≡ kind
  pub others_are : (name : List ℕ) (other : ℕ) → nat_eq rank other ≡ false → numbers_in (kept rounds.names.entries name) other ≡ numbers kind name (now other)
  pub own_are : (name : List ℕ) → lookup (pointwise nat_eq name) left ≡ None → numbers_in (kept rounds.names.entries name) rank ≡ numbers kind name (now rank)
  pub left_are : All (λ e. e.1 ≡ numbers kind e.0 (now rank)) left

module _ (kind : Kind) (calls : ℕ → List Call) (rank : ℕ) (own : List Call) (none : calls rank ≡ []) where
  now_is : with_calls calls rank own rank ≡ own
  now_is = rw (itself rank, none) refl

  pub taken_begun : (rounds : KindRounds) (lists : List (List ℕ × List ℕ)) → IsDistinct (pointwise nat_eq) (keys_of lists) → ((name : List ℕ) → list_of lists name ≡ numbers kind name own) →
      AreOfKind kind calls rounds → ArePartlyTaken kind (with_calls calls rank own) rank lists rounds
  taken_begun rounds lists unique are_lists are = record {
    kind_is = are.kind_is;
    others_are = λ name other differ. are.numbers_are name other ∙ ap (λ b. numbers kind name (cond b (calls other ++ own) (calls other))) (sym differ);
    own_are = λ name missing.
        are.numbers_are name rank ∙ ap (numbers kind name) none ∙ ap (λ o. unwrap_or o []) (sym missing) ∙ are_lists name ∙ ap (numbers kind name) (sym now_is);
    left_are = all_from_contains (λ e. e.1 ≡ numbers kind e.0 (with_calls calls rank own rank)) lists
        (λ e has. ap (λ o. unwrap_or o []) (sym (lookup-from_Contains nat_list_eq_equiv e.0 e.1 lists unique has)) ∙ are_lists e.0 ∙ ap (numbers kind e.0) (sym now_is));
  }

module _ (kind : Kind) (now : ℕ → List Call) (rank : ℕ) where
  pub taken_more : (name own : List ℕ) (left : List (List ℕ × List ℕ)) (old new : KindRounds) → new.kind ≡ old.kind →
      ((other : List ℕ) (member : ℕ) → pointwise nat_eq name other ≡ true → numbers_in (kept new.names.entries other) member ≡ cond (nat_eq rank member) own (numbers_in (kept old.names.entries other) member)) →
      ((other : List ℕ) → pointwise nat_eq name other ≡ false → kept new.names.entries other ≡ kept old.names.entries other) →
      ArePartlyTaken kind now rank ((name, own) ∷ left) old → ArePartlyTaken kind now rank left new
  taken_more name own left old new stays put others are = record {
    kind_is = stays ∙ are.kind_is;
    others_are = λ other member differ. of_other other member differ (pointwise nat_eq name other) refl;
    own_are = λ other missing. of_own other missing (pointwise nat_eq name other) refl;
    left_are = λ k d lt. are.left_are (suc k) d (omega arith);
  }
    where
      of_other : (other : List ℕ) (member : ℕ) → nat_eq rank member ≡ false → (b : Bool) → pointwise nat_eq name other ≡ b → numbers_in (kept new.names.entries other) member ≡ numbers kind other (now member)
      of_other other member differ true same = put other member same ∙ ap (λ b. cond b own (numbers_in (kept old.names.entries other) member)) differ ∙ are.others_are other member differ
      of_other other member differ false apart = ap (λ o. numbers_in o member) (others other apart) ∙ are.others_are other member differ

      of_own : (other : List ℕ) → lookup (pointwise nat_eq other) left ≡ None → (b : Bool) → pointwise nat_eq name other ≡ b → numbers_in (kept new.names.entries other) rank ≡ numbers kind other (now rank)
      of_own other missing true same =
          put other rank same
          ∙ ap (λ b. cond b own (numbers_in (kept old.names.entries other) rank)) (itself rank)
          ∙ are.left_are 0 (name, own) (omega arith)
          ∙ ap (λ n. numbers kind n (now rank)) (same_text name other (sym same))
      of_own other missing false apart =
          ap (λ o. numbers_in o rank) (others other apart)
          ∙ are.own_are other (ap (λ b. cond b (Some own) (lookup (pointwise nat_eq other) left)) (nat_list_eq_equiv.symm other name ∙ apart) ∙ missing)

  pub taken_whole : (left : List (List ℕ × List ℕ)) (rounds : KindRounds) → left ≡ [] → ArePartlyTaken kind now rank left rounds → AreOfKind kind now rounds
  taken_whole left rounds done are = record {
    kind_is = are.kind_is;
    numbers_are = λ name other. by name other (nat_eq rank other) refl;
  }
    where
      by : (name : List ℕ) (other : ℕ) (b : Bool) → nat_eq rank other ≡ b → numbers_in (kept rounds.names.entries name) other ≡ numbers kind name (now other)
      by name other true same =
          subst (λ r. numbers_in (kept rounds.names.entries name) r ≡ numbers kind name (now r)) (eqb-true rank other same) (are.own_are name (ap (lookup (pointwise nat_eq name)) done))
      by name other false differ = are.others_are name other differ
