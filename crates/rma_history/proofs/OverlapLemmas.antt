-- Chains of accesses by the bytes that they touch, as they grow.
use Rattle.std.proofs.Common.{◌≡◌, ◌≢◌, ◌⊎◌, ◌↔◌, ℕ, ℤ, ◌+◌, ◌≤◌, ◌<◌, List, [], ◌∷◌, ◌++◌, length, get_or, set, Some, Result, Ok, Err, OnErr, OnOk, Contains, slice_get, inl, inr, sym, ap, subst, ◌∙◌, arith, ⊎_elim, get_or-set_other, get_or-set_same, length-set}
use Rattle.std.proofs.lemmas.Bool.{cases_eq, cases_lt}
use Rattle.std.proofs.lemmas.List.{get_or_append_left, get_or_push, length-append, set-get_or}
use Rattle.std.proofs.lemmas.List.Elements.{Contains-push_cases}
use Rattle.std.proofs.lemmas.Option.{get_or_from_slice_get, slice_get_within}
use Rattle.rma_bytes.specs.declared.run.Run.{Run}
use Rattle.rma_bytes.specs.Runs.{HasByte}
use Rattle.rma_cells.specs.Cell.{Cell}
use Rattle.rma_cells.specs.Cells.{StandsAt}
use Rattle.rma_rules.specs.Access.{Access}
use Rattle.rma_chain.specs.Chain.{Deed}
use Rattle.rma_chain.proofs.ListLemmas.{pushed}
use Rattle.rma_chain.proofs.PlaceLemmas.{read}
use Rattle.rma_history.specs.declared.reach.Hull.{Hull}
use Rattle.rma_history.specs.inside.Hull.{IsWithin}
use Rattle.rma_history.specs.inside.Overlaps.{GoesOn, IsHome, StandOnBytes}

-- the numbers below one are listed, with the next
pub listed_more : (xs ys : List ℕ) (n : ℕ) → ys ≡ xs ++ n ∷ [] → ((i : ℕ) → Contains xs i ↔ (i < n)) → (i : ℕ) → Contains ys i ↔ (i < n + 1)
listed_more xs ys n is below i = (
  λ there. ⊎_elim (λ old. let less = (below i).0 old in omega arith) (λ last. let same : i ≡ n = last in omega arith) ((pushed xs n i).0 (subst (λ l. Contains l i) is there)),
  λ less. subst (λ l. Contains l i) (sym is) ((pushed xs n i).1 (⊎_elim (λ old. inl ((below i).1 old)) (λ past. let last : i ≡ n = omega arith in inr last) (cases_lt i n))),
)

-- an access that goes on with a chain touches the bytes of one that it has
touches_those : (chain : List Access) (b : Access) → GoesOn chain b → (byte : ℤ) → HasByte b.runs byte → (a : Access) × Contains chain a × HasByte a.runs byte
touches_those chain b goes byte has =
    let first = goes.some in
    (first.0, first.1, subst (λ (r : List Run). HasByte r byte) (sym (ap (λ (d : Deed). d.runs) (goes.follows first.0 first.1).deeds)) has)

module _ (chains : List (List Access)) (hulls : List Hull) (cells : List (ℤ × Cell)) (settled : ℕ) (is : StandOnBytes chains hulls cells settled) where
  -- a number from that of the chains on cells on stands nowhere
  pub none_past : (b : ℤ) → StandsAt cells settled b → ⊥
  none_past b stands = let within = is.only settled b stands in omega arith

  -- the chain at an index goes on with an access
  module _ (index : ℕ) (chain : List Access) (b : Access) (at : slice_get chains index ≡ Some chain) (goes : GoesOn chain b) where
    abbrev longer : List (List Access)
    longer = set chains index (chain ++ b ∷ [])

    here : (list : List Access) → slice_get longer index ≡ Some list → chain ++ b ∷ [] ≡ list
    here list there = sym (get_or-set_same chains index (chain ++ b ∷ []) list (slice_get_within chains index chain at)) ∙ get_or_from_slice_get longer index list list there

    -- a byte that an access there touches was touched by one before
    before : (i : ℕ) (list : List Access) (a : Access) (byte : ℤ) → slice_get longer i ≡ Some list → Contains list a → HasByte a.runs byte
        → (old : List Access) × (slice_get chains i ≡ Some old) × ((x : Access) × Contains old x × HasByte x.runs byte)
    before i list a byte there contains has = ⊎_elim
        (λ (same : i ≡ index).
        let own = subst (λ n. slice_get longer n ≡ Some list) same there in
        (chain, subst (λ n. slice_get chains n ≡ Some chain) (sym same) at, by (Contains-push_cases chain b a (subst (λ (l : List Access). Contains l a) (sym (here list own)) contains))))
        (λ (other : i ≢ index).
        let left : i < length chains = (let size = length-set chains index (chain ++ b ∷ []) in let inside = slice_get_within longer i list there in omega arith) in
        let is_list = sym (get_or_from_slice_get longer i list list there) ∙ get_or-set_other chains index i (chain ++ b ∷ []) list other in
        (list, read chains i list left is_list, (a, contains, has)))
        (cases_eq i index)
      where
        by : Contains chain a ⊎ (b ≡ a) → (x : Access) × Contains chain x × HasByte x.runs byte
        by (inl earlier) = (a, earlier, has)
        by (inr last) = touches_those chain b goes byte (subst (λ (x : Access). HasByte x.runs byte) (sym last) has)

    stands_on : StandOnBytes longer hulls cells settled
    stands_on = record {
      size = is.size ∙ sym (length-set chains index (chain ++ b ∷ []));
      within = λ i list hull a byte there at_hull contains has. (let one = before i list a byte there contains has in is.within i one.0 hull one.2.0 byte one.1 at_hull one.2.1 one.2.2);
      first = (let size = length-set chains index (chain ++ b ∷ []) in let le : settled ≤ length chains = is.first in omega arith);
      all = λ i list a byte less there contains has. (let one = before i list a byte there contains has in is.all i one.0 one.2.0 byte less one.1 one.2.1 one.2.2);
      only = is.only;
    }

  -- so it does where an access was added to the chain or not
  pub goes_on : {T E : Type 0} (r : Result T E) (index : ℕ) (old new : List Access) (b : Access) → old ≡ get_or chains index old → IsHome chains index b → OnOk r (new ≡ old ++ b ∷ []) → OnErr r (new ≡ old)
      → StandOnBytes (set chains index new) hulls cells settled
  goes_on (Ok x) index old new b at home ok err =
      let same : old ≡ home.0 = at ∙ get_or_from_slice_get chains index home.0 old home.1 in
      subst (λ l. StandOnBytes (set chains index l) hulls cells settled) (sym (ok ∙ ap (λ l. l ++ b ∷ []) same)) (stands_on index home.0 b home.1 home.2)
  goes_on (Err e) index old new b at home ok err = subst (λ l. StandOnBytes l hulls cells settled) (sym (ap (set chains index) (err ∙ at) ∙ set-get_or chains index old)) is

  -- a chain begins
  module _ (chain : List Access) (hull : Hull) (reaches : (a : Access) (b : ℤ) → Contains chain a → HasByte a.runs b → IsWithin hull b) where
    abbrev more : List (List Access)
    more = chains ++ chain ∷ []

    size_more : length more ≡ length chains + 1
    size_more = length-append chains (chain ∷ [])

    old_at : (i : ℕ) (list : List Access) → i < length chains → slice_get more i ≡ Some list → slice_get chains i ≡ Some list
    old_at i list less there = read chains i list less (sym (get_or_from_slice_get more i list list there) ∙ get_or_append_left chains (chain ∷ []) list i less)

    last_at : (i : ℕ) (list : List Access) → length chains ≤ i → slice_get more i ≡ Some list → list ≡ chain
    last_at i list past there =
        let inside = slice_get_within more i list there in
        let end : i ≡ length chains = (let size = size_more in omega (arith, inside, size)) in
        sym (get_or_from_slice_get more i list list there) ∙ get_or_push chains chain list i (sym end)

    hull_before : (i : ℕ) (other : Hull) → i < length chains → slice_get (hulls ++ hull ∷ []) i ≡ Some other → slice_get hulls i ≡ Some other
    hull_before i other less there =
        let within : i < length hulls = (let size = is.size in omega arith) in
        read hulls i other within (sym (get_or_from_slice_get (hulls ++ hull ∷ []) i other other there) ∙ get_or_append_left hulls (hull ∷ []) other i within)

    hull_last : (i : ℕ) (other : Hull) → length chains ≤ i → slice_get (hulls ++ hull ∷ []) i ≡ Some other → other ≡ hull
    hull_last i other past there =
        let inside = slice_get_within (hulls ++ hull ∷ []) i other there in
        let size = length-append hulls (hull ∷ []) in
        let end : length hulls ≡ i = (let both = is.size in omega (arith, inside, size, both)) in
        sym (get_or_from_slice_get (hulls ++ hull ∷ []) i other other there) ∙ get_or_push hulls hull other i end

    pub begins : StandOnBytes more (hulls ++ hull ∷ []) cells settled
    begins = record {
      size = (let one = length-append hulls (hull ∷ []) in let two = size_more in let both = is.size in omega (arith, one, two, both));
      within = λ i list other a b there at_hull contains has. ⊎_elim
          (λ (less : i < length chains). is.within i list other a b (old_at i list less there) (hull_before i other less at_hull) contains has)
          (λ (past : length chains ≤ i). subst (λ h. IsWithin h b) (sym (hull_last i other past at_hull)) (reaches a b (subst (λ (l : List Access). Contains l a) (last_at i list past there) contains) has))
          (cases_lt i (length chains));
      first = (let le : settled ≤ length chains = is.first in let size = size_more in omega (arith, size));
      all = λ i list a b less there contains has. (let le : settled ≤ length chains = is.first in is.all i list a b less (old_at i list (omega arith) there) contains has);
      only = is.only;
    }

  -- the next chain stands on cells
  pub settles : (grown : List (ℤ × Cell)) → settled < length chains
      → ((chain : List Access) (a : Access) (b : ℤ) → slice_get chains settled ≡ Some chain → Contains chain a → HasByte a.runs b → StandsAt grown settled b)
      → ((id : ℕ) (b : ℤ) → StandsAt cells id b → StandsAt grown id b)
      → ((id : ℕ) (b : ℤ) → StandsAt grown id b → StandsAt cells id b ⊎ (id ≡ settled))
      → StandOnBytes chains hulls grown (settled + 1)
  settles grown less new still only = record {
    size = is.size;
    within = is.within;
    first = omega arith;
    all = λ i list a b below there contains has. ⊎_elim
        (λ (old : i < settled). still i b (is.all i list a b old there contains has))
        (λ (past : settled ≤ i).
        let same : i ≡ settled = omega arith in
        subst (λ n. StandsAt grown n b) (sym same) (new list a b (subst (λ n. slice_get chains n ≡ Some list) same there) contains has))
        (cases_lt i settled);
    only = λ id b stands. ⊎_elim (λ old. let lt = is.only id b old in omega arith) (λ same. omega (arith, same)) (only id b stands);
  }

-- both of two facts of a good answer
pub both_ok : {T E : Type 0} (P Q : Type 0) (r : Result T E) → OnOk r P → OnOk r Q → OnOk r (P × Q)
both_ok P Q (Ok x) one two = (one, two)
both_ok P Q (Err e) one two = one
