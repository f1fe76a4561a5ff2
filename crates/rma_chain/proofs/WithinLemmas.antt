-- What is found at the indices of a list from one on and before another.
use Rattle.std.proofs.Common.{◌≡◌, ◌↔◌, ◌⊎◌, ℕ, ◌+◌, ◌≤◌, ◌<◌, List, Some, Contains, slice_get, inl, inr, sym, ap, subst, ◌∙◌, arith, ⊎_elim}
use Rattle.std.proofs.lemmas.Bool.{cases_lt}
use Rattle.rma_chain.proofs.PlaceLemmas.{contained, placed}

module _ {X : Type 0} (F : X → Type 0) (xs : List X) (from : ℕ) where
  abbrev pub Among : ℕ → Type 0
  Among to = (k : ℕ) × (x : X) × (from ≤ k) × (k < to) × (slice_get xs k ≡ Some x) × F x

  module _ (Before Now After : Type 0) (i : ℕ) where
    -- with the next
    pub found_at : (x : X) → from ≤ i → slice_get xs i ≡ Some x → Now ↔ (Before ⊎ Among i) → After ↔ (Now ⊎ F x) → After ↔ (Before ⊎ Among (i + 1))
    found_at x le at now after = (λ new. by (after.0 new), back)
      where
        more : Before ⊎ Among i → Before ⊎ Among (i + 1)
        more (inl old) = inl old
        more (inr (k, y, from_k, k_i, there, found)) = inr (k, y, from_k, omega arith, there, found)

        by : Now ⊎ F x → Before ⊎ Among (i + 1)
        by (inl earlier) = more (now.0 earlier)
        by (inr found) = inr (i, x, le, omega arith, at, found)

        one : (k : ℕ) (y : X) → k ≡ i → slice_get xs k ≡ Some y → y ≡ x
        one k y same there = let here : slice_get xs i ≡ Some y = sym (ap (slice_get xs) same) ∙ there in cc

        back : Before ⊎ Among (i + 1) → After
        back (inl old) = after.1 (inl (now.1 (inl old)))
        back (inr (k, y, from_k, less, there, found)) =
            ⊎_elim
            (λ earlier. after.1 (inl (now.1 (inr (k, y, from_k, earlier, there, found)))))
            (λ later. let same : k ≡ i = omega arith in after.1 (inr (subst F (one k y same there) found)))
            (cases_lt k i)

    -- where no index is left
    pub found_up_to : (to : ℕ) → to ≤ i → (i ≤ to) ⊎ (i ≤ from) → Now ↔ (Before ⊎ Among i) → Now ↔ (Before ⊎ Among to)
    found_up_to to le end now = (λ new. there (now.0 new), λ either. now.1 (back either))
      where
        less : (k : ℕ) → from ≤ k → k < i → (i ≤ to) ⊎ (i ≤ from) → k < to
        less k from_k k_i (inl le) = omega arith
        less k from_k k_i (inr le) = absurd (omega arith)

        there : Before ⊎ Among i → Before ⊎ Among to
        there (inl old) = inl old
        there (inr (k, y, from_k, k_i, at, found)) = inr (k, y, from_k, less k from_k k_i end, at, found)

        back : Before ⊎ Among to → Before ⊎ Among i
        back (inl old) = inl old
        back (inr (k, y, from_k, k_to, at, found)) = inr (k, y, from_k, omega arith, at, found)

-- where nothing is found before some index of a list nor from an earlier one on, nothing is found
pub none_there : {X : Type 0} (F : X → Type 0) (xs : List X) (from to : ℕ) → to ≤ from → ((k : ℕ) (x : X) → slice_get xs k ≡ Some x → k < from → F x → ⊥)
    → ((k : ℕ) (x : X) → slice_get xs k ≡ Some x → to ≤ k → F x → ⊥) → (x : X) → Contains xs x → F x → ⊥
none_there F xs from to le before after x has found =
    let place = placed xs x has in
    ⊎_elim (λ early. before place.0 x place.1 early found) (λ late. after place.0 x place.1 (omega arith) found) (cases_lt place.0 from)

module _ {X : Type 0} (F : X → Type 0) (xs : List X) (Old : Type 0) where
  -- where nothing is found at any index of a list
  pub found_of_none : ((x : X) → Contains xs x → F x → ⊥) → Old ↔ (Old ⊎ ((x : X) × Contains xs x × F x))
  found_of_none none = (λ old. inl old, back)
    where
      back : Old ⊎ ((x : X) × Contains xs x × F x) → Old
      back (inl old) = old
      back (inr (x, there, found)) = absurd (none x there found)

  -- where nothing is found before some indices of a list and after them, all that is found is found there
  pub found_of_all : (New : Type 0) (from to : ℕ) → ((k : ℕ) (x : X) → slice_get xs k ≡ Some x → k < from → F x → ⊥) → ((k : ℕ) (x : X) → slice_get xs k ≡ Some x → to ≤ k → F x → ⊥)
      → New ↔ (Old ⊎ Among F xs from to) → New ↔ (Old ⊎ ((x : X) × Contains xs x × F x))
  found_of_all New from to before after now = (λ new. there (now.0 new), λ either. now.1 (back either))
    where
      there : Old ⊎ Among F xs from to → Old ⊎ ((x : X) × Contains xs x × F x)
      there (inl old) = inl old
      there (inr (k, x, from_k, k_to, at, found)) = inr (x, contained xs k x at, found)

      inside : (x : X) (k : ℕ) → slice_get xs k ≡ Some x → F x → (k < from) ⊎ (from ≤ k) → (k < to) ⊎ (to ≤ k) → Among F xs from to
      inside x k at found (inl early) in_time = absurd (before k x at early found)
      inside x k at found (inr from_k) (inl k_to) = (k, x, from_k, k_to, at, found)
      inside x k at found (inr from_k) (inr late) = absurd (after k x at late found)

      back : Old ⊎ ((x : X) × Contains xs x × F x) → Old ⊎ Among F xs from to
      back (inl old) = inl old
      back (inr (x, has, found)) =
          let place = placed xs x has in
          inr (inside x place.0 place.1 found (cases_lt place.0 from) (cases_lt place.0 to))
