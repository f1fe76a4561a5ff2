-- What lists have that are had of the calls of a run.
use Rattle.std.proofs.Common.{◌≡◌, ℕ, zero, suc, ◌+◌, List, [], ◌∷◌, Option, Some, None, slice_get, refl, sym, ap, subst, ◌∙◌, arith, ⊎_elim}
use Rattle.std.specs.Prelude.{All, Contains}
use Rattle.std.proofs.lemmas.List.{get_or_default}
use Rattle.std.proofs.Common.{get_or}
use Rattle.std.specs.List.{filter_map, flat_map, cons_option}
use Rattle.std.proofs.lemmas.List.Elements.{Contains-append_left, Contains-append_right, Contains-append_cases}
use Rattle.rma_base.specs.declared.rank.Rank.{Rank}
use Rattle.rma_call.specs.Call.{Call, RankCalls}
use Rattle.rma_run.specs.Run.{by_number, by_rank}

module _ {X : Type 0} where
  pub has_first : (x : X) (xs : List X) → Contains (x ∷ xs) x
  has_first x xs = (0, omega arith, refl)

  pub has_later : (x y : X) (xs : List X) → Contains xs y → Contains (x ∷ xs) y
  has_later x y xs (k, lt, at) = (suc k, omega arith, at)

  pub has_none : {P : Type 0} (y : X) → Contains [] y → P
  has_none y (k, lt, at) = absurd (omega arith)

  -- the first element, or one of the others
  pub first_or_later : {P : Type 0} (x y : X) (xs : List X) → (x ≡ y → P) → (Contains xs y → P) → Contains (x ∷ xs) y → P
  first_or_later x y xs first later (zero, lt, at) = first at
  first_or_later x y xs first later (suc k, lt, at) = later (k, omega arith, at)

module _ {X Y : Type 0} (f : X → List Y) where
  -- what a map to lists has is of one of the lists
  pub in_flat_map : (xs : List X) (y : Y) → Contains (flat_map f xs) y → (x : X) × Contains xs x × Contains (f x) y
  in_flat_map [] y has = has_none y has
  in_flat_map (x ∷ xs) y has =
      ⊎_elim
      (λ (own : Contains (f x) y). (x, has_first x xs, own))
      (λ (rest : Contains (flat_map f xs) y). let one = in_flat_map xs y rest in (one.0, has_later x one.0 xs one.1, one.2))
      (Contains-append_cases (f x) (flat_map f xs) y has)

  pub flat_map_has : (xs : List X) (x : X) (y : Y) → Contains xs x → Contains (f x) y → Contains (flat_map f xs) y
  flat_map_has [] x y among has = has_none x among
  flat_map_has (z ∷ xs) x y among has =
      first_or_later z x xs
      (λ is. Contains-append_left (f z) (flat_map f xs) y (subst (λ a. Contains (f a) y) (sym is) has))
      (λ later. Contains-append_right (f z) (flat_map f xs) y (flat_map_has xs x y later has))
      among

module _ {X Y : Type 0} (f : X → Option Y) where
  pub in_filter_map : (xs : List X) (y : Y) → Contains (filter_map f xs) y → (x : X) × Contains xs x × (f x ≡ Some y)
  in_filter_map [] y has = has_none y has
  in_filter_map (x ∷ xs) y has = by (f x) refl has (in_filter_map xs y)
    where
      by : (o : Option Y) → f x ≡ o → Contains (cons_option o (filter_map f xs)) y → (Contains (filter_map f xs) y → (z : X) × Contains xs z × (f z ≡ Some y)) → (z : X) × Contains (x ∷ xs) z × (f z ≡ Some y)
      by None is has rest = let one = rest has in (one.0, has_later x one.0 xs one.1, one.2)
      by (Some z) is has rest =
          first_or_later z y (filter_map f xs)
          (λ at. (x, has_first x xs, is ∙ ap Some at))
          (λ later. let one = rest later in (one.0, has_later x one.0 xs one.1, one.2))
          has

  pub filter_map_has : (xs : List X) (x : X) (y : Y) → Contains xs x → f x ≡ Some y → Contains (filter_map f xs) y
  filter_map_has [] x y among is = has_none x among
  filter_map_has (z ∷ xs) x y among is =
      first_or_later z x xs
      (λ at. rw (ap f at ∙ is) (has_first y (filter_map f xs)))
      (λ later. by (f z) (filter_map_has xs x y later is))
      among
    where
      by : (o : Option Y) → Contains (filter_map f xs) y → Contains (cons_option o (filter_map f xs)) y
      by None has = has
      by (Some w) has = has_later w y (filter_map f xs) has

module _ {Y : Type 0} (f : ℕ → Call → List Y) where
  pub in_by_number : (n : ℕ) (calls : List Call) (y : Y) → Contains (by_number f n calls) y → (k : ℕ) × (call : Call) × (slice_get calls k ≡ Some call) × Contains (f (n + k) call) y
  in_by_number n [] y has = has_none y has
  in_by_number n (c ∷ cs) y has =
      ⊎_elim
      (λ (own : Contains (f n c) y). (0, c, refl, subst (λ m. Contains (f m c) y) (let e : n ≡ n + 0 = omega arith in e) own))
      (λ (rest : Contains (by_number f (n + 1) cs) y).
      let one = in_by_number (n + 1) cs y rest in
      (suc one.0, one.1, one.2, subst (λ m. Contains (f m one.1) y) (let e : n + 1 + one.0 ≡ n + suc one.0 = omega arith in e) one.3))
      (Contains-append_cases (f n c) (by_number f (n + 1) cs) y has)

  pub by_number_has : (n : ℕ) (calls : List Call) (k : ℕ) (call : Call) (y : Y) → slice_get calls k ≡ Some call → Contains (f (n + k) call) y → Contains (by_number f n calls) y
  by_number_has n [] k call y there has = absurd (cc)
  by_number_has n (c ∷ cs) zero call y there has =
      let is : c ≡ call = cc in
      Contains-append_left (f n c) (by_number f (n + 1) cs) y (subst (λ a. Contains (f n a) y) (sym is) (subst (λ m. Contains (f m call) y) (let e : n + 0 ≡ n = omega arith in e) has))
  by_number_has n (c ∷ cs) (suc k) call y there has =
      Contains-append_right (f n c) (by_number f (n + 1) cs) y
      (by_number_has (n + 1) cs k call y there (subst (λ m. Contains (f m call) y) (let e : n + suc k ≡ n + 1 + k = omega arith in e) has))

-- a call of a run: the log of its rank, its number, and the call itself
pub record IsCallIn (ranks : List RankCalls) (own : RankCalls) (number : ℕ) (call : Call) : Type 0 where
  pub of_run : Contains ranks own
  pub there : slice_get own.calls number ≡ Some call

module _ {Y : Type 0} (f : Rank → ℕ → Call → List Y) where
  -- what is had of the calls of a run is had of one of them
  pub in_by_rank : (ranks : List RankCalls) (y : Y) → Contains (by_rank f ranks) y → (own : RankCalls) × (number : ℕ) × (call : Call) × IsCallIn ranks own number call × Contains (f own.rank number call) y
  in_by_rank ranks y has =
      let rank = in_flat_map (λ (r : RankCalls). by_number (f r.rank) 0 r.calls) ranks y has in
      let one = in_by_number (f rank.0.rank) 0 rank.0.calls y rank.2 in
      (rank.0, one.0, one.1, record { of_run = rank.1; there = one.2 }, subst (λ n. Contains (f rank.0.rank n one.1) y) (let e : 0 + one.0 ≡ one.0 = omega arith in e) one.3)

  pub by_rank_has : (ranks : List RankCalls) (own : RankCalls) (number : ℕ) (call : Call) (y : Y) → IsCallIn ranks own number call → Contains (f own.rank number call) y → Contains (by_rank f ranks) y
  by_rank_has ranks own number call y is has =
      flat_map_has (λ (r : RankCalls). by_number (f r.rank) 0 r.calls) ranks own y is.of_run
      (by_number_has (f own.rank) 0 own.calls number call y is.there (subst (λ n. Contains (f own.rank n call) y) (let e : number ≡ 0 + number = omega arith in e) has))

-- what holds of each element of a list holds of all
pub all_from_contains : {X : Type 0} (P : X → Type 0) (xs : List X) → ((x : X) → Contains xs x → P x) → All P xs
all_from_contains P xs each = λ k d lt. each (get_or xs k d) (k, lt, get_or_default xs k (get_or xs k d) d lt)
