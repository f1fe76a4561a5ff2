-- What lists contain, as they grow and shrink.
use Rattle.std.proofs.Common.{◌≡◌, ◌↔◌, ◌⊎◌, ℕ, ◌+◌, ◌<◌, List, [], ◌∷◌, ◌++◌, length, take, get_or, Contains, swap_remove, inl, inr, sym, ap, subst, ◌∙◌, arith, zero, suc, refl}
use Rattle.std.proofs.Common.{Some, None}
use Rattle.std.proofs.lemmas.List.{get_or_default, take_more}
use Rattle.std.proofs.lemmas.List.Elements.{Contains-append_left, Contains-push, Contains-push_cases}
use Rattle.std.proofs.lemmas.List.Sorted.{Contains-permutation, IsPermutation-swap_remove, IsPermutation-sym}

module _ {X : Type 0} where
  first_cases : (xs : List X) (x a : X) → Contains (x ∷ xs) a → (x ≡ a) ⊎ Contains xs a
  first_cases xs x a (zero, less, is) = inl is
  first_cases xs x a (suc k, less, is) = inr (k, omega arith, is)

  later_there : (xs : List X) (x a : X) → Contains xs a → Contains (x ∷ xs) a
  later_there xs x a (k, less, is) = (suc k, omega arith, is)

  -- where one is taken out, the others are left
  pub left_or_out : (xs : List X) (i : ℕ) (x : X) → i < length xs → x ≡ get_or xs i x → (a : X) → Contains xs a → (x ≡ a) ⊎ Contains (swap_remove xs i x) a
  left_or_out xs i x less at a there = first_cases (swap_remove xs i x) x a (Contains-permutation xs (x ∷ swap_remove xs i x) a (IsPermutation-swap_remove xs i x less at) there)

  -- and none is added
  pub was_there : (xs : List X) (i : ℕ) (x : X) → i < length xs → x ≡ get_or xs i x → (a : X) → Contains (swap_remove xs i x) a → Contains xs a
  was_there xs i x less at a left =
      Contains-permutation (x ∷ swap_remove xs i x) xs a (IsPermutation-sym xs (x ∷ swap_remove xs i x) (IsPermutation-swap_remove xs i x less at)) (later_there (swap_remove xs i x) x a left)

  -- what a list contains with one more
  pub pushed : (xs : List X) (x a : X) → Contains (xs ++ x ∷ []) a ↔ (Contains xs a ⊎ (a ≡ x))
  pushed xs x a = (λ there. turned (Contains-push_cases xs x a there), back)
    where
      turned : Contains xs a ⊎ (x ≡ a) → Contains xs a ⊎ (a ≡ x)
      turned (inl earlier) = inl earlier
      turned (inr last) = inr (sym last)

      back : Contains xs a ⊎ (a ≡ x) → Contains (xs ++ x ∷ []) a
      back (inl earlier) = Contains-append_left xs (x ∷ []) a earlier
      back (inr last) = subst (Contains (xs ++ x ∷ [])) (sym last) (Contains-push xs x)

  -- two values that a list has at one index are one
  one_there : (xs : List X) (i : ℕ) (x y : X) → i < length xs → x ≡ get_or xs i x → y ≡ get_or xs i y → y ≡ x
  one_there xs i x y less at other = other ∙ get_or_default xs i y x less ∙ sym at

  -- where what is taken out is such, all others are left
  pub left_or_such : (P : X → Type 0) (xs ys : List X) (i : ℕ) (x y : X) → i < length xs → x ≡ get_or xs i x → y ≡ get_or xs i y → ys ≡ swap_remove xs i x → P y → (a : X) → Contains xs a → Contains ys a ⊎ P a
  left_or_such P xs ys i x y less at other is such a there = by (left_or_out xs i x less at a there)
    where
      by : (x ≡ a) ⊎ Contains (swap_remove xs i x) a → Contains ys a ⊎ P a
      by (inl out) = inr (subst P (one_there xs i x y less at other ∙ out) such)
      by (inr left) = inl (subst (λ l. Contains l a) (sym is) left)

  -- what the first of a list are, with the next
  pub next_taken : (xs : List X) (i : ℕ) (x a : X) → i < length xs → x ≡ get_or xs i x → Contains (take (i + 1) xs) a ↔ (Contains (take i xs) a ⊎ (a ≡ x))
  next_taken xs i x a less at =
      let more : take (i + 1) xs ≡ take i xs ++ x ∷ [] = take_more xs i x less ∙ ap (λ y. take i xs ++ y ∷ []) (sym at) in
      subst (λ l. Contains l a ↔ (Contains (take i xs) a ⊎ (a ≡ x))) (sym more) (pushed (take i xs) x a)

-- ---- what is found, one after the other

module _ {X : Type 0} (F : X → Type 0) where
  pub found_more : (xs ys : List X) (made : X) → ys ≡ xs ++ made ∷ [] → ((x : X) → (Some made ≡ Some x) ↔ F x) → (x : X) → Contains ys x ↔ (Contains xs x ⊎ F x)
  found_more xs ys made is all x = (
    λ there. by (added.0 (subst (λ l. Contains l x) is there)),
    λ either. subst (λ l. Contains l x) (sym is) (added.1 (back either)),
  )
    where
      added : Contains (xs ++ made ∷ []) x ↔ (Contains xs x ⊎ (x ≡ made))
      added = pushed xs made x

      by : Contains xs x ⊎ (x ≡ made) → Contains xs x ⊎ F x
      by (inl earlier) = inl earlier
      by (inr same) = inr ((all x).0 (ap Some (sym same)))

      back : Contains xs x ⊎ F x → Contains xs x ⊎ (x ≡ made)
      back (inl earlier) = inl earlier
      back (inr found) = inr (let same = (all x).1 found in cc)

  pub found_none : (xs : List X) → ((x : X) → (None ≡ Some x) ↔ F x) → (x : X) → Contains xs x ↔ (Contains xs x ⊎ F x)
  found_none xs none x = (λ there. inl there, back)
    where
      back : Contains xs x ⊎ F x → Contains xs x
      back (inl there) = there
      back (inr found) = absurd (let other = (none x).1 found in cc)

module _ {X : Type 0} (F : X → Type 0) (Before Now After : Type 0) (xs : List X) where
  -- what is found with the first of a list, with the next
  pub found_next : (i : ℕ) (x : X) → i < length xs → x ≡ get_or xs i x → Now ↔ (Before ⊎ ((a : X) × Contains (take i xs) a × F a)) → After ↔ (Now ⊎ F x) → After ↔ (Before ⊎ ((a : X) × Contains (take (i + 1) xs) a × F a))
  found_next i x less at now after = (λ new. by (after.0 new), back)
    where
      with_first : Before ⊎ ((a : X) × Contains (take i xs) a × F a) → Before ⊎ ((a : X) × Contains (take (i + 1) xs) a × F a)
      with_first (inl old) = inl old
      with_first (inr (a, there, found)) = inr (a, (next_taken xs i x a less at).1 (inl there), found)

      by : Now ⊎ F x → Before ⊎ ((a : X) × Contains (take (i + 1) xs) a × F a)
      by (inl earlier) = with_first (now.0 earlier)
      by (inr found) = inr (x, (next_taken xs i x x less at).1 (inr refl), found)

      split : (a : X) → Contains (take i xs) a ⊎ (a ≡ x) → F a → After
      split a (inl there) found = after.1 (inl (now.1 (inr (a, there, found))))
      split a (inr same) found = after.1 (inr (subst F same found))

      back : Before ⊎ ((a : X) × Contains (take (i + 1) xs) a × F a) → After
      back (inl old) = after.1 (inl (now.1 (inl old)))
      back (inr (a, there, found)) = split a ((next_taken xs i x a less at).0 there) found
