-- The layout of touched elements is the one that the definition computes.
use Rattle.std.proofs.Common.{◌≡◌, ◌≢◌, ℕ, ℤ, pos, Bool, true, false, not, nat_lt, ◌&&◌, ◌||◌, List, [], ◌∷◌, fold, All, Option, Some, None, inl, inr, ⊎_elim, ◌⊎◌, ◌↔◌, if◌then◌else◌, refl, sym, ap, subst, ◌∙◌, arith}
use Rattle.std.specs.Prelude.{◌≤ℤ◌, ◌<ℤ◌, int_lt, int_le}
use Rattle.std.specs.Int.{int_max}
use Rattle.std.proofs.lemmas.Bool.{false≢true}
use Rattle.std.proofs.lemmas.Int.{ints, int_max_is}
use Rattle.rma_base.proofs.NameLemmas.{and_left, and_right}
use Rattle.rma_base.specs.Limits.{address_limit, block_limit, element_limit}
use Rattle.rma_bytes.proofs.RunLemmas.{canonical_unique}
use Rattle.rma_bytes.specs.Layout.{Layout}
use Rattle.rma_bytes.specs.declared.run.Run.{Run}
use Rattle.rma_bytes.specs.Runs.{HasByte, IsCanonical, IsInBounds}
use Rattle.rma_layout.proofs.SignatureLemmas.{size_some}
use Rattle.rma_layout.specs.Layout.{IsByteOfElement, IsElementOf, IsLayoutOf, SharesByte, TouchesByte}
use Rattle.rma_layout.specs.Refusal.{first_fault, is_all_in, is_between, lowest, refusal}
use Rattle.rma_layout.specs.declared.space.Space.{Space}
use Rattle.rma_layout.specs.declared.space.Space.TheVariants.{Local, Target}
use Rattle.rma_typemap.proofs.SpaceLemmas.{Decides_int_le}
use Rattle.rma_typemap.specs.Typemap.{block_count, start_of, end_of}
use Rattle.rma_buffer.specs.Layouts.{element_of, layout_of, meet, run_of, runs_of, shares_byte, with_run}
use Rattle.rma_buffer.proofs.BasicLemmas.{same_is_equal, same_itself}
use Rattle.rma_buffer.proofs.RunsLemmas.{with_run_bytes, with_run_canonical}
use Rattle.rma_buffer.proofs.Words.{Basic, is_same, list_all, list_any, All-cons, All-nil, All-head, All-tail}

-- ---- the runs

low_enough : (space : Space) (z : ℤ) → lowest space ≤ℤ z → lowest Target ≤ℤ z
low_enough Local z h = omega (arith, ints)
low_enough Target z h = h

fits : (space : Space) (e : Basic × ℤ) → is_between space (start_of e) (end_of e) ≡ true → IsInBounds (run_of e)
fits space e h =
    let start = low_enough space (start_of e) ((Decides_int_le (lowest space) (start_of e)).0 (and_left (int_le (lowest space) (start_of e)) (int_le (end_of e) (pos address_limit)) h)) in
    let end = (Decides_int_le (end_of e) (pos address_limit)).0 (and_right (int_le (lowest space) (start_of e)) (int_le (end_of e) (pos address_limit)) h) in
    (omega (arith, ints), omega (arith, ints))

abbrev with_element : List Run → Basic × ℤ → List Run
with_element runs e = with_run runs (run_of e)

folded_canonical : (space : Space) (es : List (Basic × ℤ)) (runs : List Run) → list_all (λ e. is_between space (start_of e) (end_of e)) es ≡ true → IsCanonical runs → IsCanonical (fold with_element runs es)
folded_canonical space [] runs within good = good
folded_canonical space (e ∷ es) runs within good =
    let this = is_between space (start_of e) (end_of e) in
    let others = list_all (λ e. is_between space (start_of e) (end_of e)) es in
    folded_canonical space es (with_element runs e) (and_right this others within) (with_run_canonical runs (run_of e) good (fits space e (and_left this others within)) (size_some e.0))

folded_bytes : (space : Space) (es : List (Basic × ℤ)) (runs : List Run) (n : ℤ) → list_all (λ e. is_between space (start_of e) (end_of e)) es ≡ true → IsCanonical runs →
    HasByte (fold with_element runs es) n ↔ (TouchesByte es n ⊎ HasByte runs n)
folded_bytes space [] runs n within good = (λ h. inr h, λ h. ⊎_elim (λ p. absurd p) (λ p. p) h)
folded_bytes space (e ∷ es) runs n within good =
    let this = is_between space (start_of e) (end_of e) in
    let others = list_all (λ e. is_between space (start_of e) (end_of e)) es in
    let one = with_run_bytes runs (run_of e) n good (size_some e.0) in
    let next = with_run_canonical runs (run_of e) good (fits space e (and_left this others within)) (size_some e.0) in
    let rest = folded_bytes space es (with_element runs e) n (and_right this others within) next in (
      λ h. ⊎_elim (λ p. inl (inr p)) (λ q. ⊎_elim (λ p. inl (inl p)) (λ p. inr p) (one.0 q)) (rest.0 h),
      λ h. ⊎_elim (λ p. ⊎_elim (λ q. rest.1 (inr (one.1 (inl q)))) (λ q. rest.1 (inl q)) p) (λ p. rest.1 (inr (one.1 (inr p)))) h,
    )

pub runs_canonical : (space : Space) (es : List (Basic × ℤ)) → is_all_in space es ≡ true → IsCanonical (runs_of es)
unfolding runs_of is_all_in
runs_canonical space es within = folded_canonical space es [] within tt

pub runs_bytes : (space : Space) (es : List (Basic × ℤ)) (n : ℤ) → is_all_in space es ≡ true → HasByte (runs_of es) n ↔ TouchesByte es n
unfolding runs_of is_all_in
runs_bytes space es n within =
    let all = folded_bytes space es [] n within tt in
    (λ h. ⊎_elim (λ p. p) (λ p. absurd p) (all.0 h), λ h. all.1 (inl h))

-- ---- bytes that elements share

or_is : (a b : Bool) → (a || b) ≡ true → (a ≡ true) ⊎ (b ≡ true)
or_is true b h = inl refl
or_is false b h = inr h

or_first : (a b : Bool) → a ≡ true → (a || b) ≡ true
or_first true b h = refl
or_first false b h = absurd (false≢true h)

or_second : (a b : Bool) → b ≡ true → (a || b) ≡ true
or_second true b h = refl
or_second false b h = h

both_hold : (a b : Bool) → a ≡ true → b ≡ true → (a && b) ≡ true
both_hold true b h k = k
both_hold false b h k = absurd (false≢true h)

less : (x y : ℤ) → x <ℤ y → int_lt x y ≡ true
less x y h = by (int_lt x y) refl
  where
    by : (t : Bool) → int_lt x y ≡ t → int_lt x y ≡ true
    by true e = e
    by false e = absurd (omega (arith, ints))

meet_from : (a b : Basic × ℤ) (n : ℤ) → IsByteOfElement a n → IsByteOfElement b n → meet a b ≡ true
meet_from a b n x y =
    let from = x.0 in
    let to = x.1 in
    let from_of = y.0 in
    let to_of = y.1 in
    both_hold (int_lt (start_of a) (end_of b)) (int_lt (start_of b) (end_of a)) (less (start_of a) (end_of b) (omega (arith, ints))) (less (start_of b) (end_of a) (omega (arith, ints)))

meet_at : (a b : Basic × ℤ) → meet a b ≡ true → (n : ℤ) × IsByteOfElement a n × IsByteOfElement b n
meet_at a b h =
    let left : int_lt (start_of a) (end_of b) ≡ true = and_left (int_lt (start_of a) (end_of b)) (int_lt (start_of b) (end_of a)) h in
    let right : int_lt (start_of b) (end_of a) ≡ true = and_right (int_lt (start_of a) (end_of b)) (int_lt (start_of b) (end_of a)) h in
    let one = size_some a.0 in
    let other = size_some b.0 in
    let is = int_max_is (start_of a) (start_of b) in
    (int_max (start_of a) (start_of b), (omega (arith, ints, is), omega (arith, ints, is)), (omega (arith, ints, is), omega (arith, ints, is)))

any_from : (e : Basic × ℤ) (es : List (Basic × ℤ)) (n : ℤ) → IsByteOfElement e n → TouchesByte es n → list_any (meet e) es ≡ true
any_from e [] n h k = absurd k
any_from e (x ∷ xs) n h (inl k) = or_first (meet e x) (list_any (meet e) xs) (meet_from e x n h k)
any_from e (x ∷ xs) n h (inr k) = or_second (meet e x) (list_any (meet e) xs) (any_from e xs n h k)

any_at : (e : Basic × ℤ) (es : List (Basic × ℤ)) → list_any (meet e) es ≡ true → (n : ℤ) × IsByteOfElement e n × TouchesByte es n
any_at e [] h = absurd (false≢true h)
any_at e (x ∷ xs) h =
    ⊎_elim (λ p. let at = meet_at e x p in (at.0, at.1, inl at.2)) (λ p. let at = any_at e xs p in (at.0, at.1, inr at.2)) (or_is (meet e x) (list_any (meet e) xs) h)

pub shares_from : (es : List (Basic × ℤ)) → SharesByte es → shares_byte es ≡ true
shares_from [] h = absurd h
shares_from (e ∷ es) (inl h) = or_first (list_any (meet e) es) (shares_byte es) (any_from e es h.0 h.1 h.2)
shares_from (e ∷ es) (inr h) = or_second (list_any (meet e) es) (shares_byte es) (shares_from es h)

pub shares_to : (es : List (Basic × ℤ)) → shares_byte es ≡ true → SharesByte es
shares_to [] h = absurd (false≢true h)
shares_to (e ∷ es) h = ⊎_elim (λ p. inl (any_at e es p)) (λ p. inr (shares_to es p)) (or_is (list_any (meet e) es) (shares_byte es) h)

pub same_bool : (a b : Bool) → (a ≡ true → b ≡ true) → (b ≡ true → a ≡ true) → a ≡ b
same_bool true true h k = refl
same_bool false false h k = refl
same_bool true false h k = sym (h refl)
same_bool false true h k = k refl

-- ---- the basic datatype of all

all_same : (b : Basic) (es : List (Basic × ℤ)) → All (λ e. e.0 ≡ b) es → list_all (λ other. is_same b other.0) es ≡ true
all_same b [] h = refl
all_same b (e ∷ es) h =
    both_hold (is_same b e.0) (list_all (λ other. is_same b other.0) es) (ap (is_same b) (All-head (λ (e : Basic × ℤ). e.0 ≡ b) e es h) ∙ same_itself b) (all_same b es (All-tail (λ (e : Basic × ℤ). e.0 ≡ b) e es h))

same_all : (b : Basic) (es : List (Basic × ℤ)) → list_all (λ other. is_same b other.0) es ≡ true → All (λ e. e.0 ≡ b) es
same_all b [] h = All-nil (λ (e : Basic × ℤ). e.0 ≡ b)
same_all b (e ∷ es) h =
    let this = is_same b e.0 in
    let others = list_all (λ (other : Basic × ℤ). is_same b other.0) es in
    All-cons (λ (e : Basic × ℤ). e.0 ≡ b) e es (sym (same_is_equal b e.0 (and_left this others h))) (same_all b es (and_right this others h))

cons_is_not_nil : (e : Basic × ℤ) (es : List (Basic × ℤ)) → (e ∷ es) ≢ []
cons_is_not_nil e es h = cc

chosen : (t : Bool) (b : Basic) → t ≡ false → (if t then Some b else None) ≡ None
chosen true b h = absurd (cc)
chosen false b h = refl

pub element_is : (es : List (Basic × ℤ)) (o : Option Basic) → IsElementOf es o → o ≡ element_of es
element_is [] None h = refl
element_is [] (Some b) h = absurd (h.0 refl)
element_is (e ∷ es) None h = by (list_all (λ (other : Basic × ℤ). is_same e.0 other.0) es) refl
  where
    by : (t : Bool) → list_all (λ (other : Basic × ℤ). is_same e.0 other.0) es ≡ t → None ≡ (if t then Some e.0 else None)
    by true k = absurd (h e.0 (cons_is_not_nil e es) (All-cons (λ (x : Basic × ℤ). x.0 ≡ e.0) e es refl (same_all e.0 es k)))
    by false k = refl
element_is (e ∷ es) (Some b) h =
    let first : e.0 ≡ b = All-head (λ (x : Basic × ℤ). x.0 ≡ b) e es h.1 in
    let same = all_same b es (All-tail (λ (x : Basic × ℤ). x.0 ≡ b) e es h.1) in
    let at_first : list_all (λ (other : Basic × ℤ). is_same e.0 other.0) es ≡ true = subst (λ x. list_all (λ (other : Basic × ℤ). is_same x other.0) es ≡ true) (sym first) same in
    ap Some (sym first) ∙ sym (ap (λ t. if t then Some e.0 else None) at_first)

-- ---- the layout

pub same_layout : (runs others : List Run) (o p : Option Basic) (s t : Bool) → runs ≡ others → o ≡ p → s ≡ t →
    (let layout : Layout = record { runs = runs; element = o; overlaps = s } in layout) ≡ record { runs = others; element = p; overlaps = t }
same_layout runs others o p s t e f g = rw (e, f, g) refl

pub layout_is : (space : Space) (es : List (Basic × ℤ)) (layout : Layout) → is_all_in space es ≡ true → IsLayoutOf es layout → layout ≡ layout_of es
unfolding layout_of
layout_is space es layout within h =
    let runs : layout.runs ≡ runs_of es = canonical_unique layout.runs (runs_of es) h.canonical (runs_canonical space es within)
    (λ n. let mine = h.bytes n in let its = runs_bytes space es n within in (λ p. its.1 (mine.0 p), λ p. mine.1 (its.0 p))) in
    let overlaps : layout.overlaps ≡ shares_byte es = same_bool layout.overlaps (shares_byte es) (λ p. shares_from es (h.overlaps.0 p)) (λ p. h.overlaps.1 (shares_to es p)) in
    same_layout layout.runs (runs_of es) layout.element (element_of es) layout.overlaps (shares_byte es) runs (element_is es layout.element h.element) overlaps

none_of_three : (a b c : Bool) → first_fault a b (not c) ≡ None → c ≡ true
none_of_three true b c h = absurd (cc)
none_of_three false true c h = absurd (cc)
none_of_three false false true h = refl
none_of_three false false false h = absurd (cc)

pub all_in : (space : Space) (es : List (Basic × ℤ)) (entries : ℕ) → refusal space es entries ≡ None → is_all_in space es ≡ true
unfolding refusal
all_in space es entries h = none_of_three (nat_lt element_limit entries) (nat_lt block_limit (block_count es)) (is_all_in space es) h
