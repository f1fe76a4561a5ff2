-- The last call of a list before another one, and the first from a number on.
use Rattle.std.proofs.Common.{◌≡◌, ℕ, zero, suc, ◌-◌, ◌*◌, ◌<◌, ◌≤◌, ◌⊎◌, inl, inr, List, [], ◌∷◌, length, get_or, Contains, refl, sym, subst, arith, ⊎_elim}
use Rattle.std.specs.List.Sorted.{IsStrictlyIncreasing}
use Rattle.std.proofs.lemmas.Bool.{cases_lt}
use Rattle.std.proofs.lemmas.List.Elements.{Contains-get_or}
use Rattle.rma_base.specs.declared.rank.Rank.{Rank}
use Rattle.rma_base.specs.declared.point.Point.{Point}
use Rattle.rma_base.proofs.RankSetLemmas.{rises_to}
use Rattle.rma_window.specs.declared.window_id.WindowId.{WindowId}
use Rattle.rma_rules.specs.Spans.{Spans, publishing_of, visible_of}
use Rattle.rma_rules.proofs.BeforeLemmas.{call_at}
use Rattle.rma_cut.specs.Show.{IsFirstPublishing, IsLastVisible}

-- ---- in any list there is one, where there is any

head_cases : (x : ℕ) (xs : List ℕ) (w : ℕ) → Contains (x ∷ xs) w → (x ≡ w) ⊎ Contains xs w
head_cases x xs w (zero, lt, is) = inl is
head_cases x xs w (suc k, lt, is) = inr (k, omega arith, is)

in_head : (x : ℕ) (xs : List ℕ) → Contains (x ∷ xs) x
in_head x xs = (0, omega arith, refl)

in_tail : (x : ℕ) (xs : List ℕ) (w : ℕ) → Contains xs w → Contains (x ∷ xs) w
in_tail x xs w (k, lt, is) = (suc k, omega arith, is)

abbrev HasMost : List ℕ → ℕ → Type 0
HasMost xs call = (v : ℕ) × Contains xs v × (v < call) × ((w : ℕ) → Contains xs w → w < call → w ≤ v)

most_with : (x : ℕ) (xs : List ℕ) (call : ℕ) → HasMost xs call → HasMost (x ∷ xs) call
most_with x xs call (v, there, less, most) =
    ⊎_elim
    (λ (low : x < call). ⊎_elim
    (λ (below : v < x). (
      x,
      in_head x xs,
      low,
      λ w within lt.
          ⊎_elim (λ (same : x ≡ w). let le : w ≤ x = omega arith in le) (λ tail. let le : w ≤ v = most w tail lt in let so : w ≤ x = omega arith in so) (head_cases x xs w within),
    ))
    (λ (above : x ≤ v).
    (v, in_tail x xs v there, less, λ w within lt. ⊎_elim (λ (same : x ≡ w). let le : w ≤ v = omega arith in le) (λ tail. most w tail lt) (head_cases x xs w within)))
    (cases_lt v x))
    (λ (high : call ≤ x).
    (v, in_tail x xs v there, less, λ w within lt. ⊎_elim (λ (same : x ≡ w). absurd (omega arith)) (λ tail. most w tail lt) (head_cases x xs w within)))
    (cases_lt x call)

most_below : (xs : List ℕ) (call : ℕ) → ((w : ℕ) → Contains xs w → w < call → ⊥) ⊎ HasMost xs call
most_below [] call = inl (λ w there lt. let no : there.0 < 0 = there.1 in omega arith)
most_below (x ∷ xs) call =
    ⊎_elim
    (λ (none : (w : ℕ) → Contains xs w → w < call → ⊥). ⊎_elim
    (λ (low : x < call).
    inr (x, in_head x xs, low, λ w within lt. ⊎_elim (λ (same : x ≡ w). let le : w ≤ x = omega arith in le) (λ tail. absurd (none w tail lt)) (head_cases x xs w within)))
    (λ (high : call ≤ x). inl (λ w within lt. ⊎_elim (λ (same : x ≡ w). let no : ⊥ = omega arith in no) (λ tail. none w tail lt) (head_cases x xs w within)))
    (cases_lt x call))
    (λ more. inr (most_with x xs call more))
    (most_below xs call)

abbrev HasLeast : List ℕ → ℕ → Type 0
HasLeast xs low = (v : ℕ) × Contains xs v × (low ≤ 2 * v) × ((w : ℕ) → Contains xs w → low ≤ 2 * w → v ≤ w)

least_with : (x : ℕ) (xs : List ℕ) (low : ℕ) → HasLeast xs low → HasLeast (x ∷ xs) low
least_with x xs low (v, there, after, least) =
    ⊎_elim
    (λ (early : 2 * x < low).
    (v, in_tail x xs v there, after, λ w within le. ⊎_elim (λ (same : x ≡ w). absurd (omega arith)) (λ tail. least w tail le) (head_cases x xs w within)))
    (λ (late : low ≤ 2 * x). ⊎_elim
    (λ (below : x < v). (
      x,
      in_head x xs,
      late,
      λ w within le.
          ⊎_elim (λ (same : x ≡ w). let so : x ≤ w = omega arith in so) (λ tail. let at : v ≤ w = least w tail le in let so : x ≤ w = omega arith in so) (head_cases x xs w within),
    ))
    (λ (above : v ≤ x).
    (v, in_tail x xs v there, after, λ w within le. ⊎_elim (λ (same : x ≡ w). let so : v ≤ w = omega arith in so) (λ tail. least w tail le) (head_cases x xs w within)))
    (cases_lt x v))
    (cases_lt (2 * x) low)

least_from : (xs : List ℕ) (low : ℕ) → ((w : ℕ) → Contains xs w → low ≤ 2 * w → ⊥) ⊎ HasLeast xs low
least_from [] low = inl (λ w there le. let no : there.0 < 0 = there.1 in omega arith)
least_from (x ∷ xs) low =
    ⊎_elim
    (λ (none : (w : ℕ) → Contains xs w → low ≤ 2 * w → ⊥). ⊎_elim
    (λ (early : 2 * x < low). inl (λ w within le. ⊎_elim (λ (same : x ≡ w). let no : ⊥ = omega arith in no) (λ tail. none w tail le) (head_cases x xs w within)))
    (λ (late : low ≤ 2 * x).
    inr (x, in_head x xs, late, λ w within le. ⊎_elim (λ (same : x ≡ w). let so : x ≤ w = omega arith in so) (λ tail. absurd (none w tail le)) (head_cases x xs w within)))
    (cases_lt (2 * x) low))
    (λ more. inr (least_with x xs low more))
    (least_from xs low)

module _ (spans : Spans) (rank : Rank) (window : WindowId) where
  -- where a call of the rank before this one makes updates visible, one is the last
  pub has_last : (call v : ℕ) → Contains (visible_of spans rank window) v → v < call → (w : ℕ) × IsLastVisible spans rank window call w
  has_last call v there less =
      ⊎_elim
      (λ (none : (w : ℕ) → Contains (visible_of spans rank window) w → w < call → ⊥). absurd (none v there less))
      (λ (most : HasMost (visible_of spans rank window) call). (most.0, record { listed = most.1; before = most.2; last = most.3 }))
      (most_below (visible_of spans rank window) call)

  -- where a call is entered at or after a point and publishes, one is the first
  pub has_first : (done : Point) (v : ℕ) → Contains (publishing_of spans rank window) v → done.pos ≤ 2 * v → (w : ℕ) × IsFirstPublishing spans rank window done w
  has_first done v there after =
      ⊎_elim
      (λ (none : (w : ℕ) → Contains (publishing_of spans rank window) w → done.pos ≤ 2 * w → ⊥). absurd (none v there after))
      (λ (least : HasLeast (publishing_of spans rank window) done.pos). (least.0, record { listed = least.1; after = least.2; first = least.3 }))
      (least_from (publishing_of spans rank window) done.pos)

  -- ---- and no two

  pub one_last : (call v w : ℕ) → IsLastVisible spans rank window call v → IsLastVisible spans rank window call w → v ≡ w
  one_last call v w one two =
      let up : v ≤ w = two.last v one.listed one.before in
      let down : w ≤ v = one.last w two.listed two.before in
      omega arith

  pub one_first : (done : Point) (v w : ℕ) → IsFirstPublishing spans rank window done v → IsFirstPublishing spans rank window done w → v ≡ w
  one_first done v w one two =
      let up : v ≤ w = one.first w two.listed two.after in
      let down : w ≤ v = two.first v one.listed one.after in
      omega arith

-- ---- where the list ascends, and its first n calls are those before a number

module _ (calls : List ℕ) (up : IsStrictlyIncreasing calls) (call n : ℕ) (bound : n ≤ length calls) (low : (k : ℕ) → k < n → get_or calls k 0 < call)
    (high : (k : ℕ) → n ≤ k → k < length calls → call ≤ get_or calls k 0) where
  none_below : n ≡ 0 → (v : ℕ) → Contains calls v → v < call → ⊥
  none_below none v there less =
      let at = call_at calls v there in
      let within : at.0 < length calls = at.1 in
      let late : call ≤ v = subst (λ (w : ℕ). call ≤ w) at.2 (high at.0 (omega arith) within) in
      omega arith

  none_from : length calls ≤ n → (v : ℕ) → Contains calls v → call ≤ v → ⊥
  none_from all v there le =
      let at = call_at calls v there in
      let within : at.0 < length calls = at.1 in
      let early : v < call = subst (λ (w : ℕ). w < call) at.2 (low at.0 (omega arith)) in
      omega arith

  below_last : 0 < n → (v : ℕ) → Contains calls v → v < call → v ≤ get_or calls (n - 1) 0
  below_last some v there less =
      let at = call_at calls v there in
      let within : at.0 < length calls = at.1 in
      ⊎_elim
      (λ (early : at.0 < n). subst (λ (w : ℕ). w ≤ get_or calls (n - 1) 0) at.2 (rises_to calls up at.0 (n - 1) (omega arith) (omega arith)))
      (λ (later : n ≤ at.0). let late : call ≤ v = subst (λ (w : ℕ). call ≤ w) at.2 (high at.0 later within) in absurd (omega arith))
      (cases_lt at.0 n)

  above_first : n < length calls → (v : ℕ) → Contains calls v → call ≤ v → get_or calls n 0 ≤ v
  above_first some v there le =
      let at = call_at calls v there in
      let within : at.0 < length calls = at.1 in
      ⊎_elim
      (λ (early : at.0 < n). let less : v < call = subst (λ (w : ℕ). w < call) at.2 (low at.0 early) in absurd (omega arith))
      (λ (later : n ≤ at.0). subst (λ (w : ℕ). get_or calls n 0 ≤ w) at.2 (rises_to calls up n at.0 later within))
      (cases_lt at.0 n)

  module _ (spans : Spans) (rank : Rank) (window : WindowId) where
    pub no_last : calls ≡ visible_of spans rank window → n ≡ 0 → (v : ℕ) → IsLastVisible spans rank window call v → ⊥
    no_last is none v last = none_below none v (subst (λ (l : List ℕ). Contains l v) (sym is) last.listed) last.before

    pub is_last : calls ≡ visible_of spans rank window → 0 < n → IsLastVisible spans rank window call (get_or calls (n - 1) 0)
    is_last is some = record {
      listed = subst (λ (l : List ℕ). Contains l (get_or calls (n - 1) 0)) is (Contains-get_or calls (n - 1) 0 (omega arith));
      before = low (n - 1) (omega arith);
      last = λ other there less. below_last some other (subst (λ (l : List ℕ). Contains l other) (sym is) there) less;
    }

    pub no_first : calls ≡ publishing_of spans rank window → (done : Point) → ((v : ℕ) → done.pos ≤ 2 * v → call ≤ v) → length calls ≤ n → (v : ℕ) → IsFirstPublishing spans rank window done v → ⊥
    no_first is done from all v first = none_from all v (subst (λ (l : List ℕ). Contains l v) (sym is) first.listed) (from v first.after)

    pub is_first : calls ≡ publishing_of spans rank window → (done : Point) → ((v : ℕ) → done.pos ≤ 2 * v → call ≤ v) → ((v : ℕ) → call ≤ v → done.pos ≤ 2 * v) → n < length calls
        → IsFirstPublishing spans rank window done (get_or calls n 0)
    is_first is done from to some = record {
      listed = subst (λ (l : List ℕ). Contains l (get_or calls n 0)) is (Contains-get_or calls n 0 some);
      after = to (get_or calls n 0) (high n (omega arith) some);
      first = λ other there after. above_first some other (subst (λ (l : List ℕ). Contains l other) (sym is) there) (from other after);
    }
