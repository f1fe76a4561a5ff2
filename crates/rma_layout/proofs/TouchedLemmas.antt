-- The touched elements as the list of their bytes.
use Rattle.std.proofs.Common.{◌≡◌, ℕ, zero, suc, ◌+◌, ◌<◌, ℤ, pos, ◌+ℤ◌, ◌*ℤ◌, true, ◌&&◌, List, [], ◌∷◌, ◌++◌, map, length, take, drop, All, Option, Some, None, inl, inr, ⊎_elim, ◌↔◌, refl, sym, ap, subst, ◌∙◌, arith}
use Rattle.std.specs.Prelude.{◌≤ℤ◌, ◌<ℤ◌, ◌-ℤ◌, int_le}
use Rattle.rma_layout.proofs.Words.{ints, address_limit, take-append-drop, Basic, basic_size, Typemap, elements, start_of, end_of, gap, Block, span, bytes_of, bytes_in, typemap_bytes, copies, breaks, breaks_from, end_from}
use Rattle.rma_layout.specs.Touched.{touched, placed}
use Rattle.rma_layout.specs.Layout.{TouchesByte, SharesByte}
use Rattle.rma_layout.specs.Refusal.{lowest, is_between, is_all_in}
use Rattle.rma_layout.specs.inside.Bytes.{IsAmong, Repeats, IsBlockIn}
use Rattle.rma_layout.specs.declared.space.Space.{Space}
use Rattle.rma_layout.proofs.BytesLemmas.{breaks_append, breaks_of_span, end_of_span, bytes_of_cons, bytes_of_nil, span_none}
use Rattle.rma_layout.proofs.ElementLemmas.{bytes_in_cons, bytes_in_nil}
use Rattle.rma_layout.proofs.SignatureLemmas.{size_some}
use Rattle.rma_layout.proofs.AmongLemmas.{among_append, among_span, span_once}
use Rattle.rma_layout.proofs.StepLemmas.{bytes_in_append, bytes_at_all, even_copies}
use Rattle.rma_typemap.proofs.Words.{extent, numbers, gaps_after, block_count}
use Rattle.rma_typemap.proofs.SpaceLemmas.{Decides_int_le}
use Rattle.rma_base.proofs.NameLemmas.{and_left, and_right}
use Rattle.std.proofs.Math.Seq.{take-append_seam}
use Rattle.std.proofs.lemmas.List.Elements.{All-nil, All-cons, All-head, All-tail}

-- ---- the bytes of the touched elements

pub placed_bytes : (m : Typemap) (count : ℕ) (address : ℤ) → typemap_bytes (placed m count address) ≡ copies count address (extent m) (typemap_bytes m)
unfolding placed
placed_bytes m count address = bytes_at_all (map (λ j. address +ℤ j *ℤ extent m) (numbers count)) m ∙ even_copies (λ j. address +ℤ j *ℤ extent m) address (extent m) count (typemap_bytes m) (λ i. refl)

prefix_bytes : (es : List (Basic × ℤ)) (n : ℕ) → bytes_in (take n es) ≡ take (length (bytes_in (take n es))) (bytes_in es)
prefix_bytes es n =
    let one = bytes_in (take n es) in
    sym (ap (take (length one)) (ap bytes_in (sym (take-append-drop n es)) ∙ bytes_in_append (take n es) (drop n es)) ∙ take-append_seam one (bytes_in (drop n es)))

-- they are the first bytes of the copies
pub touched_bytes_are : (m : Typemap) (count : ℕ) (address : ℤ) (n total : ℕ) → total ≡ length (bytes_in (touched m count address n)) →
    bytes_in (touched m count address n) ≡ take total (copies count address (extent m) (typemap_bytes m))
unfolding touched
touched_bytes_are m count address n total is =
    prefix_bytes (elements (placed m count address)) n ∙ ap (take (length (bytes_in (touched m count address n)))) (placed_bytes m count address)
    ∙ ap (λ k. take k (copies count address (extent m) (typemap_bytes m))) (sym is)

-- ---- blocks

no_breaks : (end : Option ℤ) → breaks_from end [] ≡ 0
unfolding breaks_from
no_breaks end = refl

gaps_are : (at : ℤ) (es : List (Basic × ℤ)) → gaps_after at es ≡ breaks_from (Some at) (bytes_in es)
gaps_are at [] = sym (ap (breaks_from (Some at)) bytes_in_nil ∙ no_breaks (Some at))
gaps_are at (e ∷ es) =
    let here = span (start_of e) (basic_size e.0) in
    ap (λ k. gap at (start_of e) + k) (gaps_are (end_of e) es)
    ∙ sym (ap (breaks_from (Some at)) (bytes_in_cons e es) ∙ breaks_append (Some at) here (bytes_in es)
    ∙ ap (λ k. k + breaks_from (end_from (Some at) here) (bytes_in es)) (breaks_of_span (Some at) (start_of e) (basic_size e.0) (size_some e.0))
    ∙ ap (λ x. gap at (start_of e) + breaks_from x (bytes_in es)) (end_of_span (Some at) (start_of e) (basic_size e.0) (size_some e.0)))

pub blocks_are : (es : List (Basic × ℤ)) → block_count es ≡ breaks (bytes_in es)
blocks_are [] = sym (ap breaks bytes_in_nil ∙ no_breaks None)
blocks_are (e ∷ es) =
    let here = span (start_of e) (basic_size e.0) in
    ap (λ k. 1 + k) (gaps_are (end_of e) es)
    ∙ sym (ap breaks (bytes_in_cons e es) ∙ breaks_append None here (bytes_in es)
    ∙ ap (λ k. k + breaks_from (end_from None here) (bytes_in es)) (breaks_of_span None (start_of e) (basic_size e.0) (size_some e.0))
    ∙ ap (λ x. 1 + breaks_from x (bytes_in es)) (end_of_span None (start_of e) (basic_size e.0) (size_some e.0)))

-- ---- bytes

pub touches_are : (es : List (Basic × ℤ)) (b : ℤ) → IsAmong (bytes_in es) b ↔ TouchesByte es b
touches_are [] b = subst (λ xs. IsAmong xs b ↔ ⊥) (sym bytes_in_nil) (λ h. h, λ h. h)
touches_are (e ∷ es) b =
    let both = among_append (span (start_of e) (basic_size e.0)) (bytes_in es) b in
    let here = among_span (start_of e) (basic_size e.0) b in
    let rest = touches_are es b in
    subst (λ xs. IsAmong xs b ↔ TouchesByte (e ∷ es) b) (sym (bytes_in_cons e es))
    (λ h. ⊎_elim (λ p. inl (here.0 p)) (λ q. inr (rest.0 q)) (both.0 h), λ h. both.1 (⊎_elim (λ p. inl (here.1 p)) (λ q. inr (rest.1 q)) h))

pub shares_are : (es : List (Basic × ℤ)) → Repeats (bytes_in es) ↔ SharesByte es
shares_are [] = subst (λ xs. Repeats xs ↔ ⊥) (sym bytes_in_nil) (λ h. h, λ h. h)
shares_are (e ∷ es) =
    let once = span_once (start_of e) (basic_size e.0) (bytes_in es) in
    let rest = shares_are es in
    subst (λ xs. Repeats xs ↔ SharesByte (e ∷ es)) (sym (bytes_in_cons e es)) (
      λ h. ⊎_elim (λ p. inl (p.0, (among_span (start_of e) (basic_size e.0) p.0).0 p.1, (touches_are es p.0).0 p.2)) (λ q. inr (rest.0 q)) (once.0 h),
      λ h. once.1 (⊎_elim (λ p. inl (p.0, (among_span (start_of e) (basic_size e.0) p.0).1 p.1, (touches_are es p.0).1 p.2)) (λ q. inr (rest.1 q)) h),
    )

-- ---- the space

-- all bytes lie in a space
abbrev pub AreIn : Space → List ℤ → Type 0
AreIn space bytes = (b : ℤ) → IsAmong bytes b → (lowest space ≤ℤ b) × (b <ℤ pos address_limit)

pub between_is : (space : Space) (at end : ℤ) → (is_between space at end ≡ true) ↔ ((lowest space ≤ℤ at) × (end ≤ℤ pos address_limit))
between_is space at end =
    let low = Decides_int_le (lowest space) at in
    let high = Decides_int_le end (pos address_limit) in (
      λ h. (low.0 (and_left (int_le (lowest space) at) (int_le end (pos address_limit)) h), high.0 (and_right (int_le (lowest space) at) (int_le end (pos address_limit)) h)),
      λ h. ap (λ t. t && int_le end (pos address_limit)) (low.1 h.0) ∙ ap (λ t. true && t) (high.1 h.1),
    )

span_is_in : (space : Space) (at : ℤ) (n : ℕ) → 0 < n → (is_between space at (at +ℤ pos n) ≡ true) ↔ AreIn space (span at n)
span_is_in space at n some =
    let is = between_is space at (at +ℤ pos n) in
    let last : ℤ = (at +ℤ pos n) -ℤ pos 1 in (
      λ h b among. let fits = is.0 h in let low = fits.0 in let high = fits.1 in let r = (among_span at n b).0 among in let from = r.0 in let to = r.1 in (omega (arith, ints), omega (arith, ints)),
      λ all.
          let first = all at ((among_span at n at).1 (omega (arith, ints), omega (arith, ints))) in
          let end = all last ((among_span at n last).1 (omega (arith, ints), omega (arith, ints))) in
          let low = first.0 in
          let high = end.1 in
          is.1 (low, omega (arith, ints)),
    )

are_in_append : (space : Space) (xs ys : List ℤ) → AreIn space (xs ++ ys) ↔ (AreIn space xs × AreIn space ys)
are_in_append space xs ys = (
  λ h. (λ b p. h b ((among_append xs ys b).1 (inl p)), λ b p. h b ((among_append xs ys b).1 (inr p))),
  λ h b p. ⊎_elim (λ q. h.0 b q) (λ q. h.1 b q) ((among_append xs ys b).0 p),
)

pub elements_in : (space : Space) (es : List (Basic × ℤ)) → (is_all_in space es ≡ true) ↔ AreIn space (bytes_in es)
unfolding is_all_in
elements_in space [] = (λ h b p. absurd (subst (λ xs. IsAmong xs b) bytes_in_nil p), λ h. refl)
elements_in space (e ∷ es) =
    let here = span_is_in space (start_of e) (basic_size e.0) (size_some e.0) in
    let rest = elements_in space es in
    let both = are_in_append space (span (start_of e) (basic_size e.0)) (bytes_in es) in
    let this = is_between space (start_of e) (end_of e) in
    let others = is_all_in space es in
    subst (λ xs. ((this && others) ≡ true) ↔ AreIn space xs) (sym (bytes_in_cons e es)) (
      λ h. both.1 (here.0 (and_left this others h), rest.0 (and_right this others h)),
      λ h. let p = both.0 h in ap (λ t. t && others) (here.1 p.0) ∙ ap (λ t. true && t) (rest.1 p.1),
    )

block_in : (space : Space) (b : Block) → IsBlockIn space b ↔ AreIn space (span b.start b.len)
block_in space b = cases b.len refl
  where
    cases : (n : ℕ) → b.len ≡ n → IsBlockIn space b ↔ AreIn space (span b.start b.len)
    cases zero e = (λ h c p. absurd (subst (λ xs. IsAmong xs c) (ap (span b.start) e ∙ span_none b.start) p), λ h. inl e)
    cases (suc n) e = let is = span_is_in space b.start b.len (omega arith) in (λ h. ⊎_elim (λ none. absurd (omega arith)) is.0 h, λ h. inr (is.1 h))

pub blocks_in : (space : Space) (bs : List Block) → All (IsBlockIn space) bs ↔ AreIn space (bytes_of bs)
blocks_in space [] = (λ h b p. absurd (subst (λ xs. IsAmong xs b) bytes_of_nil p), λ h. All-nil (IsBlockIn space))
blocks_in space (b ∷ bs) =
    let here = block_in space b in
    let rest = blocks_in space bs in
    let both = are_in_append space (span b.start b.len) (bytes_of bs) in
    subst (λ xs. All (IsBlockIn space) (b ∷ bs) ↔ AreIn space xs) (sym (bytes_of_cons b bs)) (
      λ h. both.1 (here.0 (All-head (IsBlockIn space) b bs h), rest.0 (All-tail (IsBlockIn space) b bs h)),
      λ h. let p = both.0 h in All-cons (IsBlockIn space) b bs (here.1 p.0) (rest.1 p.1),
    )
