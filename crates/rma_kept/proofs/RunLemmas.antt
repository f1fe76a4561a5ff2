-- Runs to which elements are added: between which addresses they lie, and how many elements fill them.
use Rattle.std.proofs.Common.{◌≡◌, ℕ, ◌+◌, ◌*◌, ◌<◌, ℤ, pos, negsuc, ◌+ℤ◌, Bool, true, false, List, [], ◌∷◌, All, inl, inr, ◌⊎◌, if◌then◌else◌, refl, sym, ap, ◌∙◌, arith}
use Rattle.std.specs.Prelude.{◌≤ℤ◌, ◌-ℤ◌, int_lt, unsigned_abs}
use Rattle.std.specs.Int.{int_min, int_max}
use Rattle.std.proofs.Math.Nat.{add-mul}
use Rattle.std.proofs.lemmas.Int.{ints, int_min_is, int_max_is}
use Rattle.std.proofs.lemmas.List.Elements.{All-cons, All-head, All-nil, All-tail}
use Rattle.rma_bytes.specs.declared.run.Run.{Run}
use Rattle.rma_bytes.specs.Runs.{end_of}
use Rattle.rma_buffer.specs.Layouts.{joined, with_run}
use Rattle.rma_kept.specs.Touched.{IsMultipleOf, LiesIn}

-- ---- two runs, joined

abs_of : (z : ℤ) → pos 0 ≤ℤ z → pos (unsigned_abs z) ≡ z
abs_of (pos n) h = refl
abs_of (negsuc n) h = absurd (omega (arith, ints))

ends_at_most : (a b : Run) → int_min a.start b.start ≤ℤ int_max (end_of a) (end_of b)
ends_at_most a b = omega (arith, ints, int_min_is a.start b.start, int_max_is (end_of a) (end_of b))

joined_end : (a b : Run) → end_of (joined a b) ≡ int_max (end_of a) (end_of b)
joined_end a b =
    let low = int_min a.start b.start in
    let high = int_max (end_of a) (end_of b) in
    let le : low ≤ℤ high = ends_at_most a b in
    let len = abs_of (high -ℤ low) (omega (arith, ints)) in
    ap (λ z. low +ℤ z) len ∙ omega (arith, ints)

-- ---- between two addresses

module _ (low high : ℤ) where
  joined_in : (a b : Run) → LiesIn low high a → LiesIn low high b → LiesIn low high (joined a b)
  joined_in a b x y =
      let end = joined_end a b in
      let from = x.0 in
      let to = x.1 in
      let from_of = y.0 in
      let to_of = y.1 in
      (omega (arith, ints, int_min_is a.start b.start), omega (arith, ints, end, int_max_is (end_of a) (end_of b)))

  abbrev In : Run → Type 0
  In run = LiesIn low high run

  step_in : (s t : Bool) (first : Run) (rest : List Run) (it : Run) → In first → All In rest → In it → ((other : Run) → In other → All In (with_run rest other))
      → All In (if s then it ∷ first ∷ rest else (if t then first ∷ with_run rest it else with_run rest (joined first it)))
  step_in true t first rest it one others here more = All-cons In it (first ∷ rest) here (All-cons In first rest one others)
  step_in false true first rest it one others here more = All-cons In first (with_run rest it) one (more it here)
  step_in false false first rest it one others here more = more (joined first it) (joined_in first it one here)

  pub with_run_in : (runs : List Run) (it : Run) → All In runs → In it → All In (with_run runs it)
  with_run_in [] it all here = All-cons In it [] here (All-nil In)
  with_run_in (first ∷ rest) it all here =
      step_in (int_lt (end_of it) first.start) (int_lt (end_of first) it.start) first rest it (All-head In first rest all) (All-tail In first rest all) here
      (λ other is. with_run_in rest other (All-tail In first rest all) is)

-- ---- filled by elements of one size

-- two runs have no byte in common
abbrev pub Apart : Run → Run → Type 0
Apart a b = (end_of a ≤ℤ b.start) ⊎ (end_of b ≤ℤ a.start)

-- no two of the runs have
abbrev pub AreApart : List Run → Type 0
AreApart [] = Unit {0}
AreApart (first ∷ rest) = All (Apart first) rest × AreApart rest

apart_joined : (a b x : Run) → 0 < x.len → b.start ≤ℤ end_of a → a.start ≤ℤ end_of b → Apart x a → Apart x b → Apart x (joined a b)
apart_joined a b x some left right (inl p) (inl q) = inl (omega (arith, ints, int_min_is a.start b.start))
apart_joined a b x some left right (inl p) (inr q) = absurd (omega (arith, ints))
apart_joined a b x some left right (inr p) (inl q) = absurd (omega (arith, ints))
apart_joined a b x some left right (inr p) (inr q) = inr (omega (arith, ints, joined_end a b, int_max_is (end_of a) (end_of b)))

apart_other : (a b : Run) → Apart a b → Apart b a
apart_other a b (inl p) = inr p
apart_other a b (inr p) = inl p

module _ (size : ℕ) where
  -- a run with bytes, filled by elements of the size
  abbrev pub Filled : Run → Type 0
  Filled run = (0 < run.len) × IsMultipleOf size run.len

  sum_of_both : (m n k : ℕ) → k ≡ m + n → IsMultipleOf size m → IsMultipleOf size n → IsMultipleOf size k
  sum_of_both m n k is x y = (x.0 + y.0, is ∙ ap (λ l. l + n) x.1 ∙ ap (λ l. x.0 * size + l) y.1 ∙ sym (add-mul x.0 y.0 size))

  abbrev AreFilled : List Run → Type 0
  AreFilled runs = All Filled runs × AreApart runs

  -- runs that a run more leaves filled and apart, from each other and from what was apart from all
  pub record IsFilledWith (runs : List Run) (it : Run) (new : List Run) : Type 0 where
    pub filled : All Filled new
    pub apart : AreApart new
    pub others : (x : Run) → 0 < x.len → Apart x it → All (Apart x) runs → All (Apart x) new

  -- two runs that touch
  joined_filled : (a b : Run) → b.start ≤ℤ end_of a → a.start ≤ℤ end_of b → Apart a b → Filled a → Filled b → Filled (joined a b)
  joined_filled a b left right apart x y =
      let len : (joined a b).len ≡ a.len + b.len = length_of apart in
      let some = x.0 in
      (omega (arith, len, some), sum_of_both a.len b.len (joined a b).len len x.1 y.1)
    where
      length_of : Apart a b → (joined a b).len ≡ a.len + b.len
      length_of (inl p) = omega (arith, ints, joined_end a b, int_min_is a.start b.start, int_max_is (end_of a) (end_of b))
      length_of (inr p) = omega (arith, ints, joined_end a b, int_min_is a.start b.start, int_max_is (end_of a) (end_of b))

  -- what is apart from two runs that touch is apart from both as one
  all_joined : (a b : Run) (runs : List Run) → b.start ≤ℤ end_of a → a.start ≤ℤ end_of b → All Filled runs → All (Apart a) runs → All (Apart b) runs → All (Apart (joined a b)) runs
  all_joined a b [] left right filled x y = All-nil (Apart (joined a b))
  all_joined a b (run ∷ runs) left right filled x y =
      All-cons (Apart (joined a b)) run runs
      (apart_other run (joined a b) (apart_joined a b run (All-head Filled run runs filled).0 left right
      (apart_other a run (All-head (Apart a) run runs x)) (apart_other b run (All-head (Apart b) run runs y))))
      (all_joined a b runs left right (All-tail Filled run runs filled) (All-tail (Apart a) run runs x) (All-tail (Apart b) run runs y))

  abbrev With : List Run → Type 0
  With rest = (other : Run) → Filled other → All (Apart other) rest → IsFilledWith rest other (with_run rest other)

  step_filled : (s t : Bool) (first : Run) (rest : List Run) (it : Run) → int_lt (end_of it) first.start ≡ s → int_lt (end_of first) it.start ≡ t
      → Filled first → All Filled rest → All (Apart first) rest → AreApart rest → Filled it → Apart it first → All (Apart it) rest → With rest
      → IsFilledWith (first ∷ rest) it (if s then it ∷ first ∷ rest else (if t then first ∷ with_run rest it else with_run rest (joined first it)))
  step_filled true t first rest it before after one others clear apart here beside away more = record {
    filled = All-cons Filled it (first ∷ rest) here (All-cons Filled first rest one others);
    apart = (All-cons (Apart it) first rest beside away, (clear, apart));
    others = λ x some own all. All-cons (Apart x) it (first ∷ rest) own all;
  }
  step_filled false true first rest it before after one others clear apart here beside away more =
      let new = more it here away in
      record {
        filled = All-cons Filled first (with_run rest it) one new.filled;
        apart = (new.others first one.0 (apart_other it first beside) clear, new.apart);
        others = λ x some own all. All-cons (Apart x) first (with_run rest it) (All-head (Apart x) first rest all) (new.others x some own (All-tail (Apart x) first rest all));
      }
  step_filled false false first rest it before after one others clear apart here beside away more =
      let left : it.start ≤ℤ end_of first = omega (arith, ints) in
      let right : first.start ≤ℤ end_of it = omega (arith, ints) in
      let new = more (joined first it) (joined_filled first it left right (apart_other it first beside) one here) (all_joined first it rest left right others clear away) in
      record {
        filled = new.filled;
        apart = new.apart;
        others = λ x some own all. new.others x some (apart_joined first it x some left right (All-head (Apart x) first rest all) own) (All-tail (Apart x) first rest all);
      }

  pub with_run_filled : (runs : List Run) (it : Run) → All Filled runs → AreApart runs → Filled it → All (Apart it) runs → IsFilledWith runs it (with_run runs it)
  with_run_filled [] it all apart here away = record {
    filled = All-cons Filled it [] here (All-nil Filled);
    apart = (All-nil (Apart it), tt);
    others = λ x some own rest. All-cons (Apart x) it [] own (All-nil (Apart x));
  }
  with_run_filled (first ∷ rest) it all apart here away =
      let others = All-tail Filled first rest all in
      step_filled (int_lt (end_of it) first.start) (int_lt (end_of first) it.start) first rest it refl refl (All-head Filled first rest all) others apart.0 apart.1 here
      (All-head (Apart it) first rest away) (All-tail (Apart it) first rest away) (λ other is clear. with_run_filled rest other others apart.1 is clear)
