-- Which bytes are among others, and whether one stands at two places.
use Rattle.std.proofs.Common.{◌≡◌, ◌≢◌, ℕ, zero, suc, ◌<◌, ◌≤◌, ℤ, pos, ◌+ℤ◌, Bool, true, false, List, [], ◌∷◌, ◌++◌, length, ◌⊎◌, inl, inr, ⊎_elim, ◌↔◌, refl, sym, ap, subst, ◌∙◌, arith}
use Rattle.std.specs.Prelude.{◌≤ℤ◌, ◌<ℤ◌}
use Rattle.rma_layout.specs.inside.Bytes.{IsAmong, Repeats}
use Rattle.rma_layout.proofs.Words.{ints, span, Decides-int_eq, false≢true}
use Rattle.rma_typemap.proofs.Words.{int_eq}

pub among_append : (xs ys : List ℤ) (b : ℤ) → IsAmong (xs ++ ys) b ↔ (IsAmong xs b ⊎ IsAmong ys b)
among_append [] ys b = (λ h. inr h, λ h. ⊎_elim (λ p. absurd p) (λ q. q) h)
among_append (x ∷ xs) ys b =
    let rest = among_append xs ys b in (
      λ h. ⊎_elim (λ p. inl (inl p)) (λ q. ⊎_elim (λ r. inl (inr r)) (λ r. inr r) (rest.0 q)) h,
      λ h. ⊎_elim (λ p. ⊎_elim (λ r. inl r) (λ r. inr (rest.1 (inl r))) p) (λ q. inr (rest.1 (inr q))) h,
    )

after : (at b : ℤ) → at ≤ℤ b → (b ≡ at → ⊥) → (at +ℤ pos 1) ≤ℤ b
after at b low differ = grind (arith, ints)

pub among_span : (at : ℤ) (n : ℕ) (b : ℤ) → IsAmong (span at n) b ↔ ((at ≤ℤ b) × (b <ℤ (at +ℤ pos n)))
unfolding span
among_span at zero b = (λ h. absurd h, λ h. let lt = h.0 in let gt = h.1 in absurd (omega (arith, ints)))
among_span at (suc n) b =
    let rest = among_span (at +ℤ pos 1) n b in (
      λ h. ⊎_elim (λ (e : b ≡ at). (omega (arith, ints), omega (arith, ints))) (λ q. let r = rest.0 q in let low = r.0 in let high = r.1 in (omega (arith, ints), omega (arith, ints))) h,
      λ h. let low = h.0 in let high = h.1 in first (λ bounds. (among_span (at +ℤ pos 1) n b).1 bounds) (int_eq b at) refl low high,
    )
  where
    first : (((at +ℤ pos 1) ≤ℤ b) × (b <ℤ ((at +ℤ pos 1) +ℤ pos n)) → IsAmong (span (at +ℤ pos 1) n) b) → (t : Bool) → int_eq b at ≡ t → at ≤ℤ b → b <ℤ (at +ℤ pos (suc n)) → (b ≡ at) ⊎ IsAmong (span (at +ℤ pos 1) n) b
    first later true e low high = inl ((Decides-int_eq b at).0 e)
    first later false e low high =
        let differ : b ≡ at → ⊥ = λ same. false≢true (sym e ∙ (Decides-int_eq b at).1 same) in
        inr (later (after at b low differ, omega (arith, ints)))

-- ---- twice

is_among : (b : ℤ) → (ys : List ℤ) → IsAmong ys b ⊎ (IsAmong ys b → ⊥)
is_among b [] = inr (λ h. h)
is_among b (y ∷ ys) = first (is_among b ys) (int_eq b y) refl
  where
    first : IsAmong ys b ⊎ (IsAmong ys b → ⊥) → (t : Bool) → int_eq b y ≡ t → IsAmong (y ∷ ys) b ⊎ (IsAmong (y ∷ ys) b → ⊥)
    first rest true e = inl (inl ((Decides-int_eq b y).0 e))
    first rest false e =
        ⊎_elim (λ p. inl (inr p)) (λ q. inr (λ h. ⊎_elim (λ same. false≢true (sym e ∙ (Decides-int_eq b y).1 same)) q h)) rest

pub repeats_or_not : (xs : List ℤ) → Repeats xs ⊎ (Repeats xs → ⊥)
repeats_or_not [] = inr (λ h. h)
repeats_or_not (x ∷ xs) =
    ⊎_elim (λ p. inl (inl p)) (λ q. ⊎_elim (λ p. inl (inr p)) (λ r. inr (λ h. ⊎_elim q r h)) (repeats_or_not xs)) (is_among x xs)

-- the others, without one
record Without (x : ℤ) (ys : List ℤ) : Type 0 where
  others : List ℤ
  fewer : length ys ≡ suc (length others)
  keeps : (b : ℤ) → IsAmong ys b → b ≢ x → IsAmong others b

without : (x : ℤ) (ys : List ℤ) → IsAmong ys x → Without x ys
without x [] h = absurd h
without x (y ∷ ys) (inl e) = record { others = ys; fewer = refl; keeps = λ b h differ. ⊎_elim (λ same. absurd (differ (same ∙ sym e))) (λ q. q) h }
without x (y ∷ ys) (inr h) =
    let rest = without x ys h in
    record { others = y ∷ rest.others; fewer = ap suc rest.fewer; keeps = λ b k differ. ⊎_elim (λ same. inl same) (λ q. inr (rest.keeps b q differ)) k }

-- bytes of which none stands twice are no more than those that they are among
pub no_more : (xs ys : List ℤ) → (Repeats xs → ⊥) → ((b : ℤ) → IsAmong xs b → IsAmong ys b) → length xs ≤ length ys
no_more [] ys once all = omega arith
no_more (x ∷ xs) ys once all =
    let w = without x ys (all x (inl refl)) in
    let rest = no_more xs w.others (λ h. once (inr h)) (λ b h. w.keeps b (all b (inr h)) (λ same. once (inl (subst (IsAmong xs) same h)))) in
    omega (arith, w.fewer, rest)

-- the same bytes with one place less
fewer_places : (xs : List ℤ) → Repeats xs → (ys : List ℤ) × (length xs ≡ suc (length ys)) × ((b : ℤ) → IsAmong xs b → IsAmong ys b)
fewer_places [] h = absurd h
fewer_places (x ∷ xs) (inl h) = (xs, refl, λ b k. ⊎_elim (λ same. subst (IsAmong xs) (sym same) h) (λ q. q) k)
fewer_places (x ∷ xs) (inr h) =
    let rest = fewer_places xs h in
    (x ∷ rest.0, ap suc rest.1, λ b k. ⊎_elim (λ same. inl same) (λ q. inr (rest.2 b q)) k)

-- of the same bytes, written without one twice, there are fewer exactly where one stands twice
pub fewer_where_repeated : (all once : List ℤ) → (Repeats once → ⊥) → ((b : ℤ) → IsAmong once b ↔ IsAmong all b) → (length once < length all) ↔ Repeats all
fewer_where_repeated all once distinct same = (
  λ lt. ⊎_elim (λ p. p) (λ q. let le = no_more all once q (λ b h. (same b).1 h) in absurd (omega arith)) (repeats_or_not all),
  λ twice. let f = fewer_places all twice in let le = no_more once f.0 distinct (λ b h. f.2 b ((same b).0 h)) in let one = f.1 in omega (arith, le, one),
)

-- bytes side by side, and others
pub span_once : (at : ℤ) (n : ℕ) (ys : List ℤ) → Repeats (span at n ++ ys) ↔ (((b : ℤ) × IsAmong (span at n) b × IsAmong ys b) ⊎ Repeats ys)
unfolding span
span_once at zero ys = (λ h. inr h, λ h. ⊎_elim (λ p. absurd p.1) (λ q. q) h)
span_once at (suc n) ys =
    let rest = span_once (at +ℤ pos 1) n ys in
    let later = among_span (at +ℤ pos 1) n at in
    let both = among_append (span (at +ℤ pos 1) n) ys at in
    let not_here : IsAmong (span (at +ℤ pos 1) n) at → ⊥ = λ h. let r = later.0 h in let low = r.0 in omega (arith, ints) in (
      λ h. ⊎_elim (λ p. ⊎_elim (λ q. absurd (not_here q)) (λ q. inl (at, inl refl, q)) (both.0 p)) (λ p. ⊎_elim (λ q. inl (q.0, inr q.1, q.2)) (λ q. inr q) (rest.0 p)) h,
      λ h. ⊎_elim (λ p. ⊎_elim (λ same. inl (both.1 (inr (subst (IsAmong ys) same p.2)))) (λ q. inr (rest.1 (inl (p.0, q, p.2)))) p.1) (λ q. inr (rest.1 (inr q))) h,
    )
