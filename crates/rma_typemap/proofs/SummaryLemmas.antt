-- The summary of copies, of one typemap after another, and of copies at equal distances.
use Rattle.std.proofs.Common.{◌≡◌, ℕ, suc, max, ℤ, pos, ◌+ℤ◌, List, [], ◌∷◌, ◌++◌, map, sum_by, Option, Some, None, refl, ap, ◌∙◌, arith}
use Rattle.rma_typemap.proofs.Words.{ints, length-append, length-map, map-append, sum_by-append, sum_by-cons, Basic, basic_size, Span, Blocks, Summary, Typemap, element, lower_mark, upper_mark, copy_at, elements_of, lowers_of, uppers_of, elements, lower_marks, upper_marks, start_of, end_of, alignment_of, span, make_blocks, span_of, intervals, points, summary_of, summary, empty_summary, joined, displaced, with_more, size}
use Rattle.std.proofs.lemmas.List.Concat.{flat_map-append}
use Rattle.rma_typemap.proofs.SpanLemmas.{span_of_append, span_of_moved, moved_interval, stretched_span_more, stretched_span_one}
use Rattle.rma_typemap.proofs.BlocksLemmas.{moved_element, end_of_moved, blocks_of_append, blocks_of_moved, repeated_blocks_more, repeated_blocks_one}

-- summaries with equal fields are equal
abbrev made : ℕ → ℕ → ℕ → Option Span → Option Span → Option Span → Option Blocks → Summary
made entries size alignment bytes lower upper blocks = record { entries = entries; size = size; alignment = alignment; bytes = bytes; lower = lower; upper = upper; blocks = blocks }

pub same_summary : (a b : Summary) → a.entries ≡ b.entries → a.size ≡ b.size → a.alignment ≡ b.alignment → a.bytes ≡ b.bytes → a.lower ≡ b.lower → a.upper ≡ b.upper → a.blocks ≡ b.blocks → a ≡ b
same_summary a b e s l y w u c =
    let all : made a.entries a.size a.alignment a.bytes a.lower a.upper a.blocks ≡ made b.entries b.size b.alignment b.bytes b.lower b.upper b.blocks = cc in
    all

-- ---- one after another

alignment_of_append : (xs ys : List (Basic × ℤ)) → alignment_of (xs ++ ys) ≡ max (alignment_of xs) (alignment_of ys)
alignment_of_append [] ys = omega arith
alignment_of_append (e ∷ xs) ys = let rest = alignment_of_append xs ys in omega arith

pub summary_of_append : (es fs : List (Basic × ℤ)) (ls ms us vs : List ℤ) → summary_of (es ++ fs) (ls ++ ms) (us ++ vs) ≡ joined (summary_of es ls us) (summary_of fs ms vs)
summary_of_append es fs ls ms us vs =
    same_summary _ _ (length-append es fs) (sum_by-append (λ (e : Basic × ℤ). basic_size e.0) es fs) (alignment_of_append es fs)
    (ap span_of (map-append (λ (e : Basic × ℤ). (start_of e, end_of e)) es fs) ∙ span_of_append (intervals es) (intervals fs))
    (ap span_of (map-append (λ (x : ℤ). (x, x)) ls ms) ∙ span_of_append (points ls) (points ms))
    (ap span_of (map-append (λ (x : ℤ). (x, x)) us vs) ∙ span_of_append (points us) (points vs))
    (blocks_of_append es fs)

pub elements_append : (m n : Typemap) → elements (m ++ n) ≡ elements m ++ elements n
elements_append m n = flat_map-append elements_of m n

pub summary_append : (m n : Typemap) → summary (m ++ n) ≡ joined (summary m) (summary n)
unfolding summary
summary_append m n = rw (flat_map-append elements_of m n, flat_map-append lowers_of m n, flat_map-append uppers_of m n) (summary_of_append (elements m) (elements n) (lower_marks m) (lower_marks n) (upper_marks m) (upper_marks n))

-- ---- moved

sum_by_moved : (by : ℤ) (es : List (Basic × ℤ)) → sum_by (λ (e : Basic × ℤ). basic_size e.0) (map (moved_element by) es) ≡ sum_by (λ (e : Basic × ℤ). basic_size e.0) es
sum_by_moved by [] = refl
sum_by_moved by (e ∷ es) = simp (sum_by-cons, sum_by_moved by es)

alignment_of_moved : (by : ℤ) (es : List (Basic × ℤ)) → alignment_of (map (moved_element by) es) ≡ alignment_of es
alignment_of_moved by [] = refl
alignment_of_moved by (e ∷ es) = ap (max (basic_size e.0)) (alignment_of_moved by es)

intervals_moved : (by : ℤ) (es : List (Basic × ℤ)) → intervals (map (moved_element by) es) ≡ map (moved_interval by) (intervals es)
intervals_moved by [] = refl
intervals_moved by (e ∷ es) = cc (end_of_moved by e, intervals_moved by es)

points_moved : (by : ℤ) (xs : List ℤ) → points (map (λ x. by +ℤ x) xs) ≡ map (moved_interval by) (points xs)
points_moved by [] = refl
points_moved by (x ∷ xs) = ap (λ ys. (by +ℤ x, by +ℤ x) ∷ ys) (points_moved by xs)

pub summary_of_moved : (by : ℤ) (es : List (Basic × ℤ)) (ls us : List ℤ) → summary_of (map (moved_element by) es) (map (λ x. by +ℤ x) ls) (map (λ x. by +ℤ x) us) ≡ displaced by (summary_of es ls us)
summary_of_moved by es ls us =
    same_summary _ _ (length-map es (moved_element by)) (sum_by_moved by es) (alignment_of_moved by es)
    (ap span_of (intervals_moved by es) ∙ span_of_moved by (intervals es))
    (ap span_of (points_moved by ls) ∙ span_of_moved by (points ls))
    (ap span_of (points_moved by us) ∙ span_of_moved by (points us))
    (blocks_of_moved by es)

pub parts_copy_at : (by : ℤ) (m : Typemap) →
    (elements (copy_at by m) ≡ map (moved_element by) (elements m)) × (lower_marks (copy_at by m) ≡ map (λ x. by +ℤ x) (lower_marks m)) × (upper_marks (copy_at by m) ≡ map (λ x. by +ℤ x) (upper_marks m))
parts_copy_at by [] = (refl, refl, refl)
parts_copy_at by (element b at ∷ m) = let rest = parts_copy_at by m in (ap (λ es. (b, by +ℤ at) ∷ es) rest.0, rest.1, rest.2)
parts_copy_at by (lower_mark at ∷ m) = let rest = parts_copy_at by m in (rest.0, ap (λ xs. (by +ℤ at) ∷ xs) rest.1, rest.2)
parts_copy_at by (upper_mark at ∷ m) = let rest = parts_copy_at by m in (rest.0, rest.1, ap (λ xs. (by +ℤ at) ∷ xs) rest.2)

pub summary_copy_at : (by : ℤ) (m : Typemap) → summary (copy_at by m) ≡ displaced by (summary m)
unfolding summary
summary_copy_at by m = let parts = parts_copy_at by m in rw (parts.0, parts.1, parts.2) (summary_of_moved by (elements m) (lower_marks m) (upper_marks m))

-- ---- copies at equal distances

pub one_before : (n : ℕ) (from stride : ℤ) (a : Summary) → joined (displaced from a) (displaced (from +ℤ stride) (with_more n stride a)) ≡ displaced from (with_more (suc n) stride a)
one_before n from stride a =
    same_summary _ _ (omega arith) (omega arith) (omega arith)
    (stretched_span_more n from stride a.bytes) (stretched_span_more n from stride a.lower) (stretched_span_more n from stride a.upper)
    (repeated_blocks_more n from stride a.blocks)

pub one_alone : (from stride : ℤ) (a : Summary) → joined (displaced from a) empty_summary ≡ displaced from (with_more 0 stride a)
one_alone from stride a =
    same_summary _ _ (omega arith) (omega arith) (omega arith)
    (stretched_span_one from stride a.bytes) (stretched_span_one from stride a.lower) (stretched_span_one from stride a.upper)
    (repeated_blocks_one from stride a.blocks)

pub summary_nil : summary [] ≡ empty_summary
unfolding summary
summary_nil = refl

-- ---- one element

abbrev pub single : ℕ → ℤ → Summary
single size end = record { entries = 1; size = size; alignment = size; bytes = Some (span (pos 0) end); lower = None; upper = None; blocks = Some (make_blocks 0 (pos 0) end) }

pub summary_single : (b : Basic) (size : ℕ) (end : ℤ) → size ≡ basic_size b → end ≡ pos (basic_size b) → single size end ≡ summary (element b (pos 0) ∷ [])
unfolding summary
summary_single b size end e f =
    let reached : end ≡ pos 0 +ℤ pos (basic_size b) = omega (arith, ints) in
    same_summary _ _ refl
    (omega (arith, sum_by-cons (λ (x : Basic × ℤ). basic_size x.0) (b, pos 0) []))
    (omega arith)
    (ap (λ z. Some (span (pos 0) z)) reached)
    refl
    refl
    (ap (λ z. Some (make_blocks 0 (pos 0) z)) reached)
