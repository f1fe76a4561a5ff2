-- Elements that are touched at another address: all of them are moved by the same distance.
use Rattle.std.proofs.Common.{◌≡◌, ◌≢◌, ℕ, ◌+◌, ℤ, pos, ◌+ℤ◌, ◌-ℤ◌, List, [], ◌∷◌, ◌++◌, map, take, All, Option, Some, None, inl, inr, ⊎_elim, ◌↔◌, refl, sym, ap, ap₂, subst, ◌∙◌, arith}
use Rattle.std.specs.Prelude.{◌*ℤ◌}
use Rattle.std.proofs.lemmas.List.{take-map}
use Rattle.std.proofs.lemmas.List.Elements.{All-map}
use Rattle.rma_bytes.specs.Layout.{Layout}
use Rattle.rma_bytes.specs.Runs as run
use Rattle.rma_bytes.proofs.IndexLemmas.{moved_bytes}
use Rattle.rma_layout.proofs.Words.{ints, Basic, Typemap, elements, start_of, end_of, gap, map-append, Decides-int_eq}
use Rattle.rma_layout.specs.Touched.{placed, touched}
use Rattle.rma_layout.specs.Layout.{TouchesByte, SharesByte, IsElementOf, IsLayoutOf}
use Rattle.rma_typemap.specs.Typemap.{element, lower_mark, upper_mark, copy_at, copies_at, gaps_after, block_count}
use Rattle.rma_typemap.specs.Bounds.{extent}
use Rattle.rma_typemap.specs.Constructors.{numbers}

-- an element, moved by a distance
abbrev pub moved_by : ℤ → Basic × ℤ → Basic × ℤ
moved_by d e = (e.0, e.1 +ℤ d)

-- ---- the elements that are touched

copy_moved : (by d : ℤ) (m : Typemap) → elements (copy_at (by +ℤ d) m) ≡ map (moved_by d) (elements (copy_at by m))
copy_moved by d [] = refl
copy_moved by d (element basic at ∷ m) = ap₂ (λ (x : ℤ) (es : List (Basic × ℤ)). (basic, x) ∷ es) (omega (arith, ints)) (copy_moved by d m)
copy_moved by d (lower_mark at ∷ m) = copy_moved by d m
copy_moved by d (upper_mark at ∷ m) = copy_moved by d m

elements_append : (m n : Typemap) → elements (m ++ n) ≡ elements m ++ elements n
elements_append [] n = refl
elements_append (element basic at ∷ m) n = ap (λ (es : List (Basic × ℤ)). (basic, at) ∷ es) (elements_append m n)
elements_append (lower_mark at ∷ m) n = elements_append m n
elements_append (upper_mark at ∷ m) n = elements_append m n

copies_moved : (xs : List ℤ) (d : ℤ) (m : Typemap) → elements (copies_at (map (λ x. x +ℤ d) xs) m) ≡ map (moved_by d) (elements (copies_at xs m))
copies_moved [] d m = refl
copies_moved (x ∷ xs) d m =
    elements_append (copy_at (x +ℤ d) m) (copies_at (map (λ y. y +ℤ d) xs) m)
    ∙ ap₂ (λ (es fs : List (Basic × ℤ)). es ++ fs) (copy_moved x d m) (copies_moved xs d m)
    ∙ sym (ap (map (moved_by d)) (elements_append (copy_at x m) (copies_at xs m)) ∙ map-append (moved_by d) (elements (copy_at x m)) (elements (copies_at xs m)))

places_moved : (ns : List ℤ) (a b e : ℤ) → map (λ j. b +ℤ j *ℤ e) ns ≡ map (λ x. x +ℤ (b -ℤ a)) (map (λ j. a +ℤ j *ℤ e) ns)
places_moved [] a b e = refl
places_moved (n ∷ ns) a b e = ap₂ (λ (x : ℤ) (xs : List ℤ). x ∷ xs) (let s = n *ℤ e in omega (arith, ints)) (places_moved ns a b e)

pub touched_moved : (m : Typemap) (count : ℕ) (a b : ℤ) (n : ℕ) → touched m count b n ≡ map (moved_by (b -ℤ a)) (touched m count a n)
unfolding touched placed
touched_moved m count a b n =
    ap (λ xs. take n (elements (copies_at xs m))) (places_moved (numbers count) a b (extent m))
    ∙ ap (take n) (copies_moved (map (λ j. a +ℤ j *ℤ extent m) (numbers count)) (b -ℤ a) m)
    ∙ take-map (moved_by (b -ℤ a)) n (elements (copies_at (map (λ j. a +ℤ j *ℤ extent m) (numbers count)) m))

-- ---- what is known of them

pub touches_moved : (d : ℤ) (es : List (Basic × ℤ)) (b : ℤ) → TouchesByte (map (moved_by d) es) b ↔ TouchesByte es (b -ℤ d)
touches_moved d [] b = (λ h. h, λ h. h)
touches_moved d (e ∷ es) b = let rest = touches_moved d es b in grind (arith, ints)

pub shares_moved : (d : ℤ) (es : List (Basic × ℤ)) → SharesByte (map (moved_by d) es) ↔ SharesByte es
shares_moved d [] = (λ h. h, λ h. h)
shares_moved d (e ∷ es) =
    let rest = shares_moved d es in (
      λ h.
          ⊎_elim
          (λ p.
          let at = p.1 in
          let low = at.0 in
          let high = at.1 in
          inl (p.0 -ℤ d, (omega (arith, ints), omega (arith, ints)), (touches_moved d es p.0).0 p.2))
          (λ q. inr (rest.0 q)) h,
      λ h.
          ⊎_elim
          (λ p.
          let at = p.1 in
          let low = at.0 in
          let high = at.1 in
          let back : (p.0 +ℤ d) -ℤ d ≡ p.0 = omega (arith, ints) in
          inl (p.0 +ℤ d, (omega (arith, ints), omega (arith, ints)), (touches_moved d es (p.0 +ℤ d)).1 (subst (TouchesByte es) (sym back) p.2)))
          (λ q. inr (rest.1 q)) h,
    )

all_moved : (d : ℤ) (es : List (Basic × ℤ)) (basic : Basic) → All (λ (e : Basic × ℤ). e.0 ≡ basic) es → All (λ (e : Basic × ℤ). e.0 ≡ basic) (map (moved_by d) es)
all_moved d es basic all = All-map (λ (e : Basic × ℤ). e.0 ≡ basic) (moved_by d) es all

moved_back : (d : ℤ) (es : List (Basic × ℤ)) → map (moved_by (pos 0 -ℤ d)) (map (moved_by d) es) ≡ es
moved_back d [] = refl
moved_back d (e ∷ es) = ap₂ (λ (x : ℤ) (fs : List (Basic × ℤ)). (e.0, x) ∷ fs) (omega (arith, ints)) (moved_back d es)

not_empty : (d : ℤ) (es : List (Basic × ℤ)) → es ≢ [] → map (moved_by d) es ≢ []
not_empty d [] some = λ h. some refl
not_empty d (e ∷ es) some = λ h. absurd (cc)

pub element_moved : (d : ℤ) (es : List (Basic × ℤ)) (common : Option Basic) → IsElementOf es common → IsElementOf (map (moved_by d) es) common
element_moved d es None none = λ basic some all.
    none basic (λ h. some (ap (map (moved_by d)) h)) (subst (All (λ (e : Basic × ℤ). e.0 ≡ basic)) (moved_back d es) (all_moved (pos 0 -ℤ d) (map (moved_by d) es) basic all))
element_moved d es (Some basic) is = (not_empty d es is.0, all_moved d es basic is.1)

gap_moved : (d at start : ℤ) → gap (at +ℤ d) (start +ℤ d) ≡ gap at start
unfolding gap
gap_moved d at start = grind (arith, ints, Decides-int_eq (start +ℤ d) (at +ℤ d), Decides-int_eq start at)

gaps_moved : (d at : ℤ) (es : List (Basic × ℤ)) → gaps_after (at +ℤ d) (map (moved_by d) es) ≡ gaps_after at es
gaps_moved d at [] = refl
gaps_moved d at (e ∷ es) =
    let end : end_of (moved_by d e) ≡ end_of e +ℤ d = omega (arith, ints) in
    ap₂ (λ (x y : ℕ). x + y) (gap_moved d at (start_of e)) (ap (λ x. gaps_after x (map (moved_by d) es)) end ∙ gaps_moved d (end_of e) es)

pub blocks_moved : (d : ℤ) (es : List (Basic × ℤ)) → block_count (map (moved_by d) es) ≡ block_count es
blocks_moved d [] = refl
blocks_moved d (e ∷ es) =
    let end : end_of (moved_by d e) ≡ end_of e +ℤ d = omega (arith, ints) in
    ap (λ x. 1 + x) (ap (λ x. gaps_after x (map (moved_by d) es)) end ∙ gaps_moved d (end_of e) es)

pub layout_moved : (d : ℤ) (es : List (Basic × ℤ)) (layout : Layout) → run.IsCanonical (map (run.moved d) layout.runs) → IsLayoutOf es layout
    → IsLayoutOf (map (moved_by d) es) (record layout { runs = map (run.moved d) layout.runs })
layout_moved d es layout canonical is = record {
  bytes = λ b.
      let one = moved_bytes d layout.runs b in
      let two = is.bytes (b -ℤ d) in
      let three = touches_moved d es b in
      (λ h. three.1 (two.0 (one.0 h)), λ h. one.1 (two.1 (three.0 h)));
  canonical = canonical;
  overlaps = let shares = shares_moved d es in (λ h. shares.1 (is.overlaps.0 h), λ h. is.overlaps.1 (shares.0 h));
  element = element_moved d es layout.element is.element;
}
