-- Texts that are compared many bytes at a time.
use Rattle.std.proofs.Common.{◌≡◌, ℕ, ◌+◌, ◌-◌, ◌≤◌, ◌&&◌, ◌++◌, ◌%◌, ◌^◌, Bool, true, false, not, cond, eqb, List, [], ◌∷◌, length, map, take, drop, refl, sym, subst, ap, ap₂, ◌∙◌, ⊎_elim, arith, w8}
use Rattle.std.specs.Prelude.{nat_eq}
use Rattle.std.specs.Bool.{Decides}
use Rattle.std.specs.Cmp.Lexicographic.{pointwise}
use Rattle.std.specs.Simd.Lanes.{chunk, mask_l, top, zip2}
use Rattle.std.proofs.lemmas.Bool.{cases_Bool, eqb-true}
use Rattle.std.proofs.lemmas.Bool.Decides.{Decides-eqb, same_from_decides}
use Rattle.std.proofs.lemmas.List.{drop-drop, take-append-drop, take_rest}
use Rattle.std.proofs.lemmas.Simd.{length-zip2, mask_l-mod, tops_compared}
use Rattle.std.proofs.lemmas.Slice.Eq.{bytes_eq-Decides}

-- no lane differs where no bit is set
none_differs : (xs ys : List ℕ) → length xs ≡ length ys → mask_l (zip2 (λ a b. not (eqb a b)) xs ys) ≡ 0 → xs ≡ ys
none_differs [] [] long none = refl
none_differs [] (y ∷ ys) long none = cc long
none_differs (x ∷ xs) [] long none = cc long
none_differs (x ∷ xs) (y ∷ ys) long none =
    ⊎_elim
    (λ (same : eqb x y ≡ true). ap₂ (λ a b. a ∷ b) (eqb-true x y same) (none_differs xs ys (omega (arith, long)) (omega (arith, rw same at none))))
    (λ (other : eqb x y ≡ false). absurd (omega (arith, rw other at none)))
    (cases_Bool (eqb x y))

same_differs : (xs : List ℕ) → mask_l (zip2 (λ a b. not (eqb a b)) xs xs) ≡ 0
same_differs [] = refl
same_differs (x ∷ xs) = grind (arith, same_differs xs)

-- what `to_bitmask` gives of the lanes that differ
abbrev differing : List ℕ → List ℕ → ℕ
differing xs ys = mask_l (map (top 7) (zip2 (λ a b. cond (not (eqb a b)) 255 0) xs ys)) % 2 ^ 64

pub no_bit_tells : (n : ℕ) (xs ys : List ℕ) → length xs ≡ n → length ys ≡ n → n ≤ 64 → Decides (eqb (differing xs ys) 0) (xs ≡ ys)
no_bit_tells n xs ys one other few =
    let t : ℕ → ℕ → Bool = λ a b. not (eqb a b) in
    let long : length xs ≡ length ys = one ∙ sym other in
    let bits : differing xs ys ≡ mask_l (zip2 t xs ys) =
    ap (λ ms. mask_l ms % 2 ^ 64) (tops_compared w8 t xs ys) ∙ mask_l-mod (zip2 t xs ys) 64 (omega (arith, length-zip2 t xs ys long, one)) in
    let decides = Decides-eqb (differing xs ys) 0 in (
      λ none. none_differs xs ys long (sym bits ∙ decides.0 none),
      λ same. decides.1 (bits ∙ subst (λ them. mask_l (zip2 t xs them) ≡ 0) same (same_differs xs)),
    )

-- the bytes from one place to another make the end of a text
chunk_end : (n : ℕ) (xs : List ℕ) → n ≤ length xs → chunk (length xs - n) n xs ≡ drop (length xs - n) xs
chunk_end n xs within = ap (λ count. take count (drop (length xs - n) xs)) (omega arith) ∙ take_rest xs (length xs - n)

-- texts are the same that agree in their first bytes and in their last ones, so that they are covered
same_ends : (n : ℕ) (own other : List ℕ) → length own ≡ length other → n ≤ length own → length own ≤ n + n → chunk 0 n own ≡ chunk 0 n other
    → chunk (length own - n) n own ≡ chunk (length own - n) n other → own ≡ other
same_ends n own other long within covered front back =
    let ends : drop (length own - n) own ≡ drop (length own - n) other =
    sym (chunk_end n own within) ∙ back ∙ ap (λ l. chunk (l - n) n other) long ∙ chunk_end n other (omega (arith, long)) ∙ ap (λ l. drop (l - n) other) (sym long) in
    let behind : (xs : List ℕ) → drop (n - (length own - n)) (drop (length own - n) xs) ≡ drop n xs = λ xs. drop-drop (n - (length own - n)) (length own - n) xs ∙ ap (λ i. drop i xs) (omega arith) in
    let rests : drop n own ≡ drop n other = sym (behind own) ∙ ap (drop (n - (length own - n))) ends ∙ behind other in
    sym (take-append-drop n own) ∙ ap₂ (λ a b. a ++ b) front rests ∙ take-append-drop n other

both_true : (a b : Bool) → (a && b) ≡ true → (a ≡ true) × (b ≡ true)
both_true true b is = (refl, is)
both_true false b is = cc is

pub ends_tell : (n : ℕ) (own other : List ℕ) (front back : Bool) → length own ≡ length other → n ≤ length own → length own ≤ n + n → Decides front (chunk 0 n own ≡ chunk 0 n other)
    → Decides back (chunk (length own - n) n own ≡ chunk (length own - n) n other) → (front && back) ≡ pointwise nat_eq own other
ends_tell n own other front back long within covered fronts backs =
    same_from_decides (front && back) (pointwise nat_eq own other) (
      λ both. let are = both_true front back both in same_ends n own other long within covered (fronts.0 are.0) (backs.0 are.1),
      λ same. ap₂ (λ a b. a && b) (fronts.1 (ap (chunk 0 n) same)) (backs.1 (ap (chunk (length own - n) n) same)),
    )
    (bytes_eq-Decides own other)
