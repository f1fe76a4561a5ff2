-- Buffers of a basic datatype, whose elements lie side by side.
use Rattle.std.proofs.Common.{◌≡◌, ◌≢◌, ℕ, ◌<◌, ◌≤◌, ◌*◌, ℤ, pos, ◌+ℤ◌, ◌*ℤ◌, false, List, [], ◌∷◌, ◌++◌, map, length, All, Some, None, inl, ⊎_elim, refl, sym, ap, subst, ◌∙◌, arith}
use Rattle.std.specs.List.{range_with_len}
use Rattle.std.specs.Prelude.{◌≤ℤ◌}
use Rattle.rma_datatype.specs.declared.basic.Basic.TheVariants.{SignedChar}
use Rattle.std.proofs.Math.Nat.{mul-le-mul}
use Rattle.std.proofs.lemmas.List.FromFn.{length-range_with_len}
use Rattle.std.proofs.lemmas.List.Elements.{All-nil, All-cons}
use Rattle.rma_base.specs.Limits.{element_limit}
use Rattle.rma_layout.proofs.Words.{ints, address_limit, append-nil, length-map, take_all, false≢true, Basic, basic_size, Typemap, elements, span, bytes_in, typemap_bytes, copies, breaks}
use Rattle.rma_layout.specs.Touched.{touched, placed}
use Rattle.rma_layout.specs.Layout.{IsLayoutOf, SharesByte}
use Rattle.rma_layout.specs.Refusal.{refusal}
use Rattle.rma_layout.specs.inside.Bytes.{IsAmong, Repeats}
use Rattle.rma_layout.specs.declared.space.Space.{Space}
use Rattle.rma_layout.specs.declared.space.Space.TheVariants.{Local, Target}
use Rattle.rma_layout.proofs.AmongLemmas.{among_span, span_once}
use Rattle.rma_layout.proofs.BytesLemmas.{breaks_of_span, copies_of_span}
use Rattle.rma_layout.proofs.ElementLemmas.{bytes_in_cons, bytes_in_nil}
use Rattle.rma_layout.proofs.PlaceLemmas.{not_refused}
use Rattle.rma_layout.proofs.SignatureLemmas.{size_some}
use Rattle.rma_layout.proofs.TouchedLemmas.{AreIn, blocks_are, elements_in, placed_bytes, shares_are, touches_are}
use Rattle.rma_typemap.proofs.Words.{block_count, extent, numbers}
use Rattle.rma_typemap.specs.Bounds.{lower_bound, upper_bound}
use Rattle.rma_typemap.specs.Typemap.{copies_at, element}

-- ---- one element

abbrev pub one : Basic → Typemap
one basic = element basic (pos 0) ∷ []

extent_is : (basic : Basic) → extent (one basic) ≡ pos (basic_size basic)
unfolding extent lower_bound upper_bound
extent_is SignedChar = refl
extent_is _ = refl

bytes_of_one : (basic : Basic) → typemap_bytes (one basic) ≡ span (pos 0) (basic_size basic)
bytes_of_one basic =
    bytes_in_cons (basic, pos 0) [] ∙ ap (λ xs. span (pos 0) (basic_size basic) ++ xs) bytes_in_nil ∙ append-nil (span (pos 0) (basic_size basic))

-- ---- its copies

abbrev IsIts : Basic → Basic × ℤ → Type 0
IsIts basic e = e.0 ≡ basic

each : (basic : Basic) (xs : List ℤ) → (length (elements (copies_at xs (one basic))) ≡ length xs) × All (IsIts basic) (elements (copies_at xs (one basic)))
each basic [] = (refl, All-nil (IsIts basic))
each basic (x ∷ xs) =
    let rest = each basic xs in
    let long = rest.0 in
    (omega (arith, long), All-cons (IsIts basic) (basic, x +ℤ pos 0) (elements (copies_at xs (one basic))) refl rest.1)

module _ (basic : Basic) (count : ℕ) (address : ℤ) where
  abbrev es : List (Basic × ℤ)
  es = touched (one basic) count address count

  abbrev places : List ℤ
  places = map (λ j. address +ℤ j *ℤ extent (one basic)) (numbers count)

  many : length (elements (copies_at places (one basic))) ≡ count
  many =
      (each basic places).0 ∙ length-map (numbers count) (λ j. address +ℤ j *ℤ extent (one basic))
      ∙ length-map (range_with_len 0 count) pos ∙ length-range_with_len 0 count

  all_touched : es ≡ elements (copies_at places (one basic))
  unfolding touched placed
  all_touched = take_all count (elements (copies_at places (one basic))) (omega (arith, many))

  bytes_are : bytes_in es ≡ span address (count * basic_size basic)
  unfolding placed
  bytes_are =
      ap bytes_in all_touched ∙ placed_bytes (one basic) count address
      ∙ ap (λ d. copies count address d (typemap_bytes (one basic))) (extent_is basic)
      ∙ ap (copies count address (pos (basic_size basic))) (bytes_of_one basic)
      ∙ copies_of_span count (basic_size basic) address (pos 0)
      ∙ ap (λ a. span a (count * basic_size basic)) (omega (arith, ints))

  module _ (some : 0 < count) (few : count ≤ element_limit) (low : pos 0 ≤ℤ address) (high : (address +ℤ pos (count * basic_size basic)) ≤ℤ pos address_limit) where
    some_bytes : 0 < count * basic_size basic
    some_bytes =
        let least : 1 ≤ count = omega arith in
        let size : 1 ≤ basic_size basic = omega (arith, size_some basic) in
        let most : 1 * 1 ≤ count * basic_size basic = mul-le-mul least size in
        omega arith

    never_shares : SharesByte es → ⊥
    never_shares h =
        let twice : Repeats (span address (count * basic_size basic) ++ []) =
        subst Repeats (bytes_are ∙ sym (append-nil (span address (count * basic_size basic)))) ((shares_are es).1 h) in
        ⊎_elim (λ p. absurd p.2) (λ q. absurd q) ((span_once address (count * basic_size basic) []).0 twice)

    not_empty : es ≢ []
    not_empty none =
        let long : length es ≡ count = ap length all_touched ∙ many in
        let nothing : length es ≡ 0 = ap length none in
        absurd (omega arith)

    pub basic_layout : IsLayoutOf es (record { runs = record { start = address; len = count * basic_size basic } ∷ []; element = Some basic; overlaps = false })
    basic_layout = record {
      bytes = λ b.
          let within = among_span address (count * basic_size basic) b in
          let touches = touches_are es b in (
            λ h. touches.0 (subst (λ xs. IsAmong xs b) (sym bytes_are) (within.1 (⊎_elim (λ p. p) (λ q. absurd q) h))),
            λ h. inl (within.0 (subst (λ xs. IsAmong xs b) bytes_are (touches.1 h))),
          );
      canonical = let positive = some_bytes in ((omega (arith, ints), omega (arith, ints)), positive, tt, tt);
      overlaps = (λ h. absurd (false≢true h), λ h. absurd (never_shares h));
      element = (not_empty, subst (All (IsIts basic)) (sym all_touched) (each basic places).1);
    }

    one_block : block_count es ≡ 1
    one_block = blocks_are es ∙ ap breaks bytes_are ∙ breaks_of_span None address (count * basic_size basic) some_bytes

    lies_in : (space : Space) → AreIn space (span address (count * basic_size basic))
    lies_in Local = λ b h. let at = (among_span address (count * basic_size basic) b).0 h in let from = at.0 in let to = at.1 in (omega (arith, ints), omega (arith, ints))
    lies_in Target = λ b h. let at = (among_span address (count * basic_size basic) b).0 h in let from = at.0 in let to = at.1 in (omega (arith, ints), omega (arith, ints))

    pub basic_taken : (space : Space) → refusal space es count ≡ None
    basic_taken space = not_refused space es count few (omega (arith, one_block)) ((elements_in space es).1 (subst (AreIn space) (sym bytes_are) (lies_in space)))
