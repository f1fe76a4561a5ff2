-- Reading a set of ranks back that was written, and what a field states that is read as one.
use Rattle.std.proofs.Common.{◌≡◌, ℕ, ℤ, ◌+◌, ◌^◌, ◌<◌, ◌≤◌, not, Bool, true, false, List, [], ◌∷◌, ◌++◌, length, map, Option, Some, None, Ok, Err, refl, sym, ap, subst, ◌∙◌, arith, ⊎_elim, eqb, leb, if◌then◌else◌}
use Rattle.std.specs.Prelude.{pos, negsuc, filter, decimal, codes, nat_eq}
use Rattle.std.specs.Cmp.Lexicographic.{pointwise}
use Rattle.std.specs.List.{list_all, join_with_byte}
use Rattle.std.proofs.lemmas.Bool.{cases_Bool, false≢true, le-leb}
use Rattle.std.proofs.lemmas.Bool.Decides.{nat_tests}
use Rattle.rma_base.proofs.NameLemmas.{and_left, and_right}
use Rattle.rma_base.specs.RankSet.{ascending}
use Rattle.rma_base.specs.declared.form_reason.FormReason.TheVariants.{BadNumber}
use Rattle.rma_field.specs.Ranks.{ranks_text}
use Rattle.rma_field.specs.Ranks.{is_rank, natural_of, numbers, onto_first_piece, pieces, rank_set, repeats, set_of}
use Rattle.rma_field.proofs.DecimalLemmas.{is_decimal, some_decimal, decimal_decimal, number_decimal, other_byte}
use Rattle.rma_field.proofs.RankFieldLemmas.{pieces_other, repeats_ranks, rank_set_ranks}
use Rattle.rma_field.proofs.RisingLemmas.{Rises, Rises_ascending, ascending_rising, has_repeat_rising}

flip : (x y : ℕ) → eqb x y ≡ false → eqb y x ≡ false
flip x y differs = grind (arith, nat_tests)

not_comma : (byte : ℕ) → is_decimal byte ≡ true → eqb byte 44 ≡ false
not_comma byte decimal = flip 44 byte (other_byte 44 byte refl decimal)

pub first_differs : (byte : ℕ) → is_decimal byte ≡ true → eqb byte 110 ≡ false
first_differs byte decimal = flip 110 byte (other_byte 110 byte refl decimal)

-- a piece of decimal digits, with a comma and more behind it
pieces_more : (piece rest : List ℕ) → list_all is_decimal piece ≡ true → pieces (piece ++ 44 ∷ rest) ≡ piece ∷ pieces rest
pieces_more [] rest all = refl
pieces_more (byte ∷ piece) rest all =
    pieces_other byte (piece ++ 44 ∷ rest) (not_comma byte (and_left (is_decimal byte) _ all))
    ∙ ap (onto_first_piece byte) (pieces_more piece rest (and_right (is_decimal byte) _ all))

pieces_one : (piece : List ℕ) → list_all is_decimal piece ≡ true → pieces piece ≡ piece ∷ []
pieces_one [] all = refl
pieces_one (byte ∷ piece) all =
    pieces_other byte piece (not_comma byte (and_left (is_decimal byte) _ all)) ∙ ap (onto_first_piece byte) (pieces_one piece (and_right (is_decimal byte) _ all))

pieces_join : (first : List ℕ) (more : List (List ℕ)) → list_all (list_all is_decimal) (first ∷ more) ≡ true → pieces (join_with_byte 44 (first ∷ more)) ≡ first ∷ more
pieces_join first [] all = pieces_one first (and_left (list_all is_decimal first) _ all)
pieces_join first (next ∷ more) all =
    pieces_more first (join_with_byte 44 (next ∷ more)) (and_left (list_all is_decimal first) _ all)
    ∙ ap (λ them. first ∷ them) (pieces_join next more (and_right (list_all is_decimal first) _ all))

pub small : (last n : ℕ) → last ≤ 1023 → n ≤ last → n < 2 ^ 64
small last n few low = omega arith

pub decimals : (last low : ℕ) (ns : List ℕ) → last ≤ 1023 → Rises last low ns → list_all (list_all is_decimal) (map decimal ns) ≡ true
decimals last low [] few up = refl
decimals last low (n ∷ ns) few up = rw (decimal_decimal n (small last n few up.1)) (decimals last (n + 1) ns few up.2)

numbers_decimals : (last low : ℕ) (ns : List ℕ) → last ≤ 1023 → Rises last low ns → numbers (map decimal ns) ≡ Some (map pos ns)
numbers_decimals last low [] few up = refl
numbers_decimals last low (n ∷ ns) few up = rw (number_decimal n (small last n few up.1), numbers_decimals last (n + 1) ns few up.2) refl

ranks_rising : (last low : ℕ) (ns : List ℕ) → Rises last low ns → list_all (is_rank last) (map pos ns) ≡ true
ranks_rising last low [] up = refl
ranks_rising last low (n ∷ ns) up = rw (le-leb n last up.1) (ranks_rising last (n + 1) ns up.2)

kept : (last low : ℕ) (ns : List ℕ) → Rises last low ns → map natural_of (filter (is_rank last) (map pos ns)) ≡ ns
kept last low [] up = refl
kept last low (n ∷ ns) up = rw (le-leb n last up.1) (ap (λ them. n ∷ them) (kept last (n + 1) ns up.2))

-- the text begins with a decimal digit
abbrev begins_decimal : List ℕ → Bool
begins_decimal [] = false
begins_decimal (byte ∷ rest) = is_decimal byte

begins_join : (first : List ℕ) (more : List (List ℕ)) → 0 < length first → list_all is_decimal first ≡ true → begins_decimal (join_with_byte 44 (first ∷ more)) ≡ true
begins_join [] more some all = absurd (omega arith)
begins_join (byte ∷ first) [] some all = and_left (is_decimal byte) _ all
begins_join (byte ∷ first) (next ∷ more) some all = and_left (is_decimal byte) _ all

not_none : (text : List ℕ) → begins_decimal text ≡ true → pointwise nat_eq text (codes "none") ≡ false
not_none [] begins = refl
not_none (byte ∷ rest) begins = rw (first_differs byte begins) refl

pub rank_set_text : (last : ℕ) (ns : List ℕ) → last ≤ 1023 → Rises last 0 ns → rank_set last (ranks_text ns) ≡ Ok ns
rank_set_text last [] few up = refl
rank_set_text last (n ∷ ns) few up =
    let text = ranks_text (n ∷ ns) in
    let other = not_none text (begins_join (decimal n) (map decimal ns) (some_decimal n (small last n few up.1)) (decimal_decimal n (small last n few up.1))) in
    let read : numbers (pieces text) ≡ Some (map pos (n ∷ ns)) = ap numbers (pieces_join (decimal n) (map decimal ns) (decimals last 0 (n ∷ ns) few up)) ∙ numbers_decimals last 0 (n ∷ ns) few up in
    let near : false ≡ not (list_all (is_rank last) (map pos (n ∷ ns))) = sym (ap not (ranks_rising last 0 (n ∷ ns) up)) in
    rank_set_ranks last text (map pos (n ∷ ns)) (n ∷ ns) false other read (sym (kept last 0 (n ∷ ns) up)) near refl
    ∙ ap (λ again. if again then Err BadNumber else Ok (ascending (n ∷ ns))) (has_repeat_rising last 0 (n ∷ ns) up)
    ∙ ap Ok (ascending_rising last (n ∷ ns) up)

ranks_naturals : (last : ℕ) (zs : List ℤ) → list_all (is_rank last) zs ≡ true → list_all (λ n. leb n last) (map natural_of zs) ≡ true
ranks_naturals last [] all = refl
ranks_naturals last (pos n ∷ zs) all = rw (and_left (leb n last) _ all) (ranks_naturals last zs (and_right (leb n last) _ all))
ranks_naturals last (negsuc n ∷ zs) all = absurd (false≢true all)

set_of_rises : (last : ℕ) (read : Option (List ℤ)) (ns : List ℕ) → set_of last read ≡ Ok ns → Rises last 0 ns
set_of_rises last None ns is = absurd (cc is)
set_of_rises last (Some zs) ns is =
    ⊎_elim
    (λ (again : repeats zs ≡ true). absurd (let bad = rw again at is in cc bad))
    (λ (once : repeats zs ≡ false). ⊎_elim
    (λ (ranks : list_all (is_rank last) zs ≡ true).
    let same : ascending (map natural_of zs) ≡ ns = let it = rw (once, ranks) at is in cc it in
    subst (Rises last 0) same (Rises_ascending last (map natural_of zs) (ranks_naturals last zs ranks) (sym (repeats_ranks last zs ranks) ∙ once)))
    (λ (far : list_all (is_rank last) zs ≡ false). absurd (let bad = rw (once, far) at is in cc bad))
    (cases_Bool (list_all (is_rank last) zs)))
    (cases_Bool (repeats zs))

-- the ranks of a set that is read rise
pub rank_set_rises : (last : ℕ) (text ns : List ℕ) → rank_set last text ≡ Ok ns → Rises last 0 ns
rank_set_rises last text ns is =
    ⊎_elim
    (λ (none : pointwise nat_eq text (codes "none") ≡ true).
    let same : [] ≡ ns = let it = rw none at is in cc it in
    subst (Rises last 0) same tt)
    (λ (other : pointwise nat_eq text (codes "none") ≡ false). set_of_rises last (numbers (pieces text)) ns (rw other at is))
    (cases_Bool (pointwise nat_eq text (codes "none")))
