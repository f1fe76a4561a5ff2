-- What stands at places, where tables have grown.
use Rattle.std.proofs.Common.{◌≡◌, ℕ, suc, ◌+◌, ◌<◌, ◌^◌, List, [], ◌∷◌, ◌++◌, length, get_or, slice_get, Option, Some, None, Result, Ok, Err, OnErr, refl, sym, ap, subst, ◌∙◌, arith}
use Rattle.std.specs.Prelude.{All, option_map}
use Rattle.std.proofs.lemmas.List.{map-append, length-map, length-append}
use Rattle.std.proofs.lemmas.Option.{slice_get-map, slice_get_within, get_or_from_slice_get, none-some}
use Rattle.std.proofs.lemmas.List.Elements.{All-push}
use Rattle.rma_call.specs.declared.what.What.{What}
use Rattle.rma_call.specs.declared.groups.Groups.{Groups}
use Rattle.rma_call.specs.declared.groups.Place.{Place}
use Rattle.rma_call.specs.declared.entries.Entry.{Entry}
use Rattle.rma_call.specs.inside.CallList.{AreInTables}
use Rattle.rma_call.specs.declared.group.Group.{Group}
use Rattle.rma_call.specs.declared.groups.Place.TheVariants as place
use Rattle.rma_call.specs.declared.groups.Place.TheVariants.{Frame, Message, Window, Epoch, Moving, Rma, Local}
use Rattle.rma_call.specs.Group.{group_of}
use Rattle.rma_call.specs.inside.Groups.{Grows, IsThere, what_at, whats_at, len_of}

-- what stood there stands there still
pub whats_stay : (old new : Groups) (places : List Place) → Grows old new → All (IsThere old) places → whats_at new places ≡ whats_at old places
whats_stay old new [] grows there = refl
whats_stay old new (place ∷ places) grows there =
    ap (λ what. what ∷ whats_at new places) (grows place (there 0 place (omega arith))).1
    ∙ ap (λ whats. what_at old place ∷ whats) (whats_stay old new places grows (λ k d lt. there (suc k) d (omega arith)))

-- and is there
pub all_stay : (old new : Groups) (places : List Place) → Grows old new → All (IsThere old) places → All (IsThere new) places
all_stay old new places grows there = λ k d lt. (grows (get_or places k d) (there k d lt)).0

-- one place more
pub whats_more : (old new : Groups) (places : List Place) (place : Place) (what : What) → Grows old new → All (IsThere old) places → what_at new place ≡ what
    → whats_at new (places ++ place ∷ []) ≡ whats_at old places ++ what ∷ []
whats_more old new places place what grows there is =
    map-append (what_at new) places (place ∷ []) ∙ rw (whats_stay old new places grows there, is) refl

-- the numbers of entries stay in the tables
module _ (old new : Groups) (places : List Place) (sites : List (List ℕ)) (entries : List Entry) (grows : Grows old new)
    (holds : AreInTables (whats_at old places) sites entries × All (IsThere old) places) where
  pub tables_stay : AreInTables (whats_at new places) sites entries × All (IsThere new) places
  tables_stay = (subst (λ whats. AreInTables whats sites entries) (sym (whats_stay old new places grows holds.1)) holds.0, all_stay old new places grows holds.1)

  pub tables_more : (place : Place) → IsThere new place → length places + 1 < 2 ^ 32
      → AreInTables (whats_at new (places ++ place ∷ [])) sites entries × All (IsThere new) (places ++ place ∷ [])
  tables_more place there fits =
      let whats = whats_at new places in
      let long : length (whats_at new (places ++ place ∷ [])) ≡ length places + 1 = simp (length-map, length-append) (omega arith) in
      let stay = tables_stay in
      let short : length whats ≡ length places = length-map places (what_at new) in (
        record {
          whats_fit = omega (arith, long, fits);
          sites_fit = stay.0.sites_fit;
          below = λ k d lt. let it = stay.0.below k d lt in (omega (arith, long, short, it.0), it.1);
        },
        All-push (IsThere new) places place stay.1 there,
      )

pub on_err : {X E P : Type 0} (r : Result X E) → P → OnErr r P
on_err (Ok x) holds = tt
on_err (Err e) holds = holds

-- what stands at a place is of a group whose table has something
has_some : (groups : Groups) (place : Place) → IsThere groups place → 0 < len_of groups (group_of (what_at groups place))
has_some groups (Frame index) there = omega (arith, there)
has_some groups (Message index) there = omega (arith, there)
has_some groups (Window index) there = omega (arith, there)
has_some groups (Epoch index) there = omega (arith, there)
has_some groups (Moving index) there = omega (arith, there)
has_some groups (Rma index) there = omega (arith, there)
has_some groups (place.PlacedRma index) there = omega (arith, there.other)
has_some groups (Local index) there = omega (arith, there)

-- so none of these is of a group whose table has nothing
pub none_is_of : (groups : Groups) (places : List Place) (group : Group) (number : ℕ) (what : What) → All (IsThere groups) places → len_of groups group ≡ 0 →
    slice_get (whats_at groups places) number ≡ Some what → group_of what ≡ group → ⊥
none_is_of groups places group number what there none at same =
    by (slice_get places number) refl
  where
    by : (found : Option Place) → slice_get places number ≡ found → ⊥
    by None past = none-some what (sym (slice_get-map (what_at groups) places number ∙ ap (option_map (what_at groups)) past) ∙ at)
    by (Some place) found =
        let is : Some (what_at groups place) ≡ Some what = sym (slice_get-map (what_at groups) places number ∙ ap (option_map (what_at groups)) found) ∙ at in
        let stands : IsThere groups place = subst (IsThere groups) (get_or_from_slice_get places number place place found) (there number place (slice_get_within places number place found)) in
        let some = has_some groups place stands in
        let of : group_of (what_at groups place) ≡ group = (let it : what_at groups place ≡ what = cc in ap group_of it) ∙ same in
        let empty : len_of groups (group_of (what_at groups place)) ≡ 0 = ap (len_of groups) of ∙ none in
        omega (arith, some, empty)
