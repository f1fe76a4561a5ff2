-- The accesses of chains, as these grow.
use Rattle.std.proofs.Common.{◌≡◌, ◌≢◌, ◌↔◌, ◌⊎◌, ℕ, zero, suc, ◌+◌, ◌-◌, ◌<◌, List, [], ◌∷◌, ◌++◌, length, drop, get_or, set, Contains, Some, slice_get, inl, inr, refl, sym, ap, subst, ◌∙◌, arith, ⊎_elim}
use Rattle.std.proofs.lemmas.Bool.{cases_eq, cases_lt}
use Rattle.std.proofs.lemmas.List.{get_or-drop, get_or-set_other, get_or-set_same, length-drop, length-set}
use Rattle.std.proofs.lemmas.List.Elements.{Contains-append_cases, Contains-append_left, Contains-append_right, Contains-push, Contains-push_cases}
use Rattle.std.proofs.lemmas.Option.{get_or_from_slice_get, same_Some, slice_get_within}
use Rattle.rma_rules.specs.Access.{Access}
use Rattle.rma_chain.specs.Chain.{IsChain}
use Rattle.rma_chain.proofs.PlaceLemmas.{contained, placed, read}
use Rattle.rma_history.specs.inside.Overlaps.{accesses_of}

-- ---- what a list of chains has

-- an access of some chains is of one of them
pub in_chain : (chains : List (List Access)) (a : Access) → Contains (accesses_of chains) a → (i : ℕ) × (chain : List Access) × (slice_get chains i ≡ Some chain) × Contains chain a
in_chain [] a (k, less, is) = absurd (omega (arith, less))
in_chain (chain ∷ chains) a there = ⊎_elim
    (λ own. (0, chain, refl, own))
    (λ rest. let one = in_chain chains a rest in (suc one.0, one.1, one.2, one.3))
    (Contains-append_cases chain (accesses_of chains) a there)

-- and what one of them has they have
pub of_chain : (chains : List (List Access)) (i : ℕ) (chain : List Access) (a : Access) → slice_get chains i ≡ Some chain → Contains chain a → Contains (accesses_of chains) a
of_chain [] i chain a at there = absurd (let past = slice_get_within [] i chain at in omega (arith, past))
of_chain (first ∷ chains) zero chain a at there = Contains-append_left first (accesses_of chains) a (let same : first ≡ chain = same_Some first chain at in subst (λ l. Contains l a) (sym same) there)
of_chain (first ∷ chains) (suc i) chain a at there = Contains-append_right first (accesses_of chains) a (of_chain chains i chain a at there)

-- ---- one more chain

module _ (chains : List (List Access)) (chain : List Access) (a : Access) where
  pub begun : Contains (accesses_of (chains ++ chain ∷ [])) a ↔ (Contains (accesses_of chains) a ⊎ Contains chain a)
  begun = (there chains, back chains)
    where
      last : Contains (chain ++ []) a → Contains chain a
      last has = ⊎_elim (λ own. own) (λ none. let k = none.0 in let less = none.1 in absurd (omega (arith, less))) (Contains-append_cases chain [] a has)

      there : (rest : List (List Access)) → Contains (accesses_of (rest ++ chain ∷ [])) a → Contains (accesses_of rest) a ⊎ Contains chain a
      there [] has = inr (last has)
      there (first ∷ rest) has = ⊎_elim
          (λ own. inl (Contains-append_left first (accesses_of rest) a own))
          (λ later. more (there rest later))
          (Contains-append_cases first (accesses_of (rest ++ chain ∷ [])) a has)
        where
          more : Contains (accesses_of rest) a ⊎ Contains chain a → Contains (accesses_of (first ∷ rest)) a ⊎ Contains chain a
          more (inl one) = inl (Contains-append_right first (accesses_of rest) a one)
          more (inr one) = inr one

      back : (rest : List (List Access)) → Contains (accesses_of rest) a ⊎ Contains chain a → Contains (accesses_of (rest ++ chain ∷ [])) a
      back [] (inl none) = let less = none.1 in absurd (omega (arith, less))
      back [] (inr own) = Contains-append_left chain [] a own
      back (first ∷ rest) (inl has) = ⊎_elim
          (λ own. Contains-append_left first (accesses_of (rest ++ chain ∷ [])) a own)
          (λ later. Contains-append_right first (accesses_of (rest ++ chain ∷ [])) a (back rest (inl later)))
          (Contains-append_cases first (accesses_of rest) a has)
      back (first ∷ rest) (inr own) = Contains-append_right first (accesses_of (rest ++ chain ∷ [])) a (back rest (inr own))

-- ---- one more access of a chain

module _ (chains : List (List Access)) (i : ℕ) (chain : List Access) (b : Access) (at : slice_get chains i ≡ Some chain) where
  abbrev longer : List (List Access)
  longer = set chains i (chain ++ b ∷ [])

  within : i < length chains
  within = slice_get_within chains i chain at

  at_home : slice_get longer i ≡ Some (chain ++ b ∷ [])
  at_home =
      let size = length-set chains i (chain ++ b ∷ []) in
      let inside = within in
      read longer i (chain ++ b ∷ []) (omega (arith, size, inside)) (sym (get_or-set_same chains i (chain ++ b ∷ []) (chain ++ b ∷ []) inside))

  elsewhere : (j : ℕ) (other : List Access) → j ≢ i → slice_get longer j ≡ Some other → slice_get chains j ≡ Some other
  elsewhere j other apart is =
      let size = length-set chains i (chain ++ b ∷ []) in
      let inside = slice_get_within longer j other is in
      read chains j other (omega (arith, size, inside)) (sym (get_or_from_slice_get longer j other other is) ∙ get_or-set_other chains i j (chain ++ b ∷ []) other apart)

  still_elsewhere : (j : ℕ) (other : List Access) → j ≢ i → slice_get chains j ≡ Some other → slice_get longer j ≡ Some other
  still_elsewhere j other apart is =
      let size = length-set chains i (chain ++ b ∷ []) in
      let inside = slice_get_within chains j other is in
      read longer j other (omega (arith, size, inside)) (sym (get_or_from_slice_get chains j other other is) ∙ sym (get_or-set_other chains i j (chain ++ b ∷ []) other apart))

  pub went_on : (a : Access) → Contains (accesses_of longer) a ↔ (Contains (accesses_of chains) a ⊎ (a ≡ b))
  went_on a = (λ has. (let one = in_chain longer a has in there one.0 one.1 one.2 one.3), back)
    where
      own : Contains (chain ++ b ∷ []) a → Contains (accesses_of chains) a ⊎ (a ≡ b)
      own has = ⊎_elim (λ earlier. inl (of_chain chains i chain a at earlier)) (λ last. inr (sym last)) (Contains-push_cases chain b a has)

      there : (j : ℕ) (other : List Access) → slice_get longer j ≡ Some other → Contains other a → Contains (accesses_of chains) a ⊎ (a ≡ b)
      there j other is has = ⊎_elim
          (λ same. own (let here : slice_get longer i ≡ Some other = sym (ap (slice_get longer) same) ∙ is in let one : other ≡ chain ++ b ∷ [] = same_Some other (chain ++ b ∷ []) (sym here ∙ at_home) in subst (λ l. Contains l a) one has))
          (λ apart. inl (of_chain chains j other a (elsewhere j other apart is) has))
          (cases_eq j i)

      old : (j : ℕ) (other : List Access) → slice_get chains j ≡ Some other → Contains other a → Contains (accesses_of longer) a
      old j other is has = ⊎_elim
          (λ same. (let here : slice_get chains i ≡ Some other = sym (ap (slice_get chains) same) ∙ is in let one : other ≡ chain = same_Some other chain (sym here ∙ at) in
          of_chain longer i (chain ++ b ∷ []) a at_home (Contains-append_left chain (b ∷ []) a (subst (λ l. Contains l a) one has))))
          (λ apart. of_chain longer j other a (still_elsewhere j other apart is) has)
          (cases_eq j i)

      back : Contains (accesses_of chains) a ⊎ (a ≡ b) → Contains (accesses_of longer) a
      back (inl has) = let one = in_chain chains a has in old one.0 one.1 one.2 one.3
      back (inr is) = subst (Contains (accesses_of longer)) (sym is) (of_chain longer i (chain ++ b ∷ []) b at_home (Contains-push chain b))

-- ---- what is found of a chain

-- what is found with one of a chain, as it is found with one of the chain at its index
pub at_index : (F : Access → Type 0) (chains : List (List Access)) (i : ℕ) (chain : List Access) (Now After : Type 0) → slice_get chains i ≡ Some chain → After ↔ (Now ⊎ ((a : Access) × Contains chain a × F a))
    → After ↔ (Now ⊎ ((other : List Access) × (slice_get chains i ≡ Some other) × ((a : Access) × Contains other a × F a)))
at_index F chains i chain Now After at told = (λ after. there (told.0 after), λ either. told.1 (back either))
  where
    there : Now ⊎ ((a : Access) × Contains chain a × F a) → Now ⊎ ((other : List Access) × (slice_get chains i ≡ Some other) × ((a : Access) × Contains other a × F a))
    there (inl now) = inl now
    there (inr found) = inr (chain, at, found)

    back : Now ⊎ ((other : List Access) × (slice_get chains i ≡ Some other) × ((a : Access) × Contains other a × F a)) → Now ⊎ ((a : Access) × Contains chain a × F a)
    back (inl now) = inl now
    back (inr (other, is, found)) = inr (subst (λ (l : List Access). (a : Access) × Contains l a × F a) (same_Some other chain (sym is ∙ at)) found)

-- ---- a chain alone

-- those of a chain touch the same bytes as its first
pub same_runs : (chain : List Access) (first a : Access) → IsChain chain → 0 < length chain → first ≡ get_or chain 0 first → Contains chain a → first.runs ≡ a.runs
same_runs chain first a is some at there =
    let place = placed chain a there in
    ap (λ d. d.runs) (is 0 place.0 first a (omega arith) (read chain 0 first some at) place.1).deeds

-- what is left of a list was there
pub left_there : (chain : List Access) (n : ℕ) (a : Access) → Contains (drop n chain) a → Contains chain a
left_there chain n a there =
    let place = placed (drop n chain) a there in
    let less : place.0 < length (drop n chain) = slice_get_within (drop n chain) place.0 a place.1 in
    let size = length-drop n chain in
    contained chain (n + place.0) a (read chain (n + place.0) a (omega (arith, size, less)) (sym (get_or_from_slice_get (drop n chain) place.0 a a place.1) ∙ get_or-drop n chain place.0 a))

-- what was there is left, or stood among the first
pub left_or_first : (chain : List Access) (n : ℕ) (a : Access) → Contains chain a → ((k : ℕ) × (k < n) × (slice_get chain k ≡ Some a)) ⊎ Contains (drop n chain) a
left_or_first chain n a there = by (placed chain a there)
  where
    by : (i : ℕ) × (slice_get chain i ≡ Some a) → ((k : ℕ) × (k < n) × (slice_get chain k ≡ Some a)) ⊎ Contains (drop n chain) a
    by (i, at) = ⊎_elim
        (λ less. inl (i, less, at))
        (λ le.
        let within : i < length chain = slice_get_within chain i a at in
        let size = length-drop n chain in
        let same : n + (i - n) ≡ i = omega (arith, le) in
        inr (contained (drop n chain) (i - n) a (read (drop n chain) (i - n) a (omega (arith, size, within, le)) (sym (get_or_from_slice_get chain i a a at) ∙ sym (ap (λ k. get_or chain k a) same) ∙ sym (get_or-drop n chain (i - n) a)))))
        (cases_lt i n)

-- what a chain of one access has
pub one_alone : (b a : Access) → Contains (b ∷ []) a ↔ (a ≡ b)
one_alone b a = (there, λ is. (0, omega arith, sym is))
  where
    there : Contains (b ∷ []) a → a ≡ b
    there (zero, less, is) = sym is
    there (suc k, less, is) = absurd (omega (arith, less))

-- what is found with those of the chains at some indices is what is found with any, where it is found with no other
pub found_all : (F : Access → Type 0) (chains : List (List Access)) (met : List ℕ) (Old Now : Type 0)
    → ((i : ℕ) (chain : List Access) (a : Access) → slice_get chains i ≡ Some chain → Contains chain a → F a → Contains met i)
    → Now ↔ (Old ⊎ ((i : ℕ) × Contains met i × ((chain : List Access) × (slice_get chains i ≡ Some chain) × ((a : Access) × Contains chain a × F a))))
    → Now ↔ (Old ⊎ ((a : Access) × Contains (accesses_of chains) a × F a))
found_all F chains met Old Now all told = (λ now. there (told.0 now), λ either. told.1 (back either))
  where
    there : Old ⊎ ((i : ℕ) × Contains met i × ((chain : List Access) × (slice_get chains i ≡ Some chain) × ((a : Access) × Contains chain a × F a))) → Old ⊎ ((a : Access) × Contains (accesses_of chains) a × F a)
    there (inl old) = inl old
    there (inr (i, listed, (chain, at, (a, has, found)))) = inr (a, of_chain chains i chain a at has, found)

    back : Old ⊎ ((a : Access) × Contains (accesses_of chains) a × F a) → Old ⊎ ((i : ℕ) × Contains met i × ((chain : List Access) × (slice_get chains i ≡ Some chain) × ((a : Access) × Contains chain a × F a)))
    back (inl old) = inl old
    back (inr (a, has, found)) =
        let one = in_chain chains a has in
        inr (one.0, all one.0 one.1 a one.2 one.3 found, (one.1, one.2, (a, one.3, found)))

-- one more chain, of one access
pub begun_alone : (chains : List (List Access)) (chain : List Access) (b a : Access) → chain ≡ b ∷ [] → Contains (accesses_of (chains ++ chain ∷ [])) a ↔ (Contains (accesses_of chains) a ⊎ (a ≡ b))
begun_alone chains chain b a is = (λ there. ⊎_elim (λ old. inl old) (λ own. inr ((one_alone b a).0 (subst (λ l. Contains l a) is own))) ((begun chains chain a).0 there), back)
  where
    back : Contains (accesses_of chains) a ⊎ (a ≡ b) → Contains (accesses_of (chains ++ chain ∷ [])) a
    back (inl old) = (begun chains chain a).1 (inl old)
    back (inr same) = (begun chains chain a).1 (inr (subst (λ l. Contains l a) (sym is) ((one_alone b a).1 same)))
