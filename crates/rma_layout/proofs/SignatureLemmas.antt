-- The sizes of the first elements of a signature, and of copies of it.
use Rattle.std.proofs.Common.{◌≡◌, ℕ, zero, suc, ◌+◌, ◌-◌, ◌*◌, ◌<◌, ◌≤◌, min, ℤ, pos, ◌+ℤ◌, ◌*ℤ◌, List, [], ◌∷◌, ◌++◌, map, replicate, length, get_or, take, drop, sum_by, refl, sym, ap, subst, ◌∙◌, arith}
use Rattle.rma_layout.proofs.Words.{Basic, basic_size, Typemap, elements, drop_more, length-append, take_all, span, bytes_in}
use Rattle.rma_layout.proofs.BytesLemmas.{take_append, length_span}
use Rattle.rma_layout.proofs.ElementLemmas.{bytes_in_cons, bytes_in_nil}
use Rattle.rma_layout.specs.Touched.{touched, placed}
use Rattle.rma_type.specs.Signature.{spread, basics_of}
use Rattle.rma_type.specs.declared.sig_run.SigRun.{SigRun}
use Rattle.rma_type.proofs.RunLemmas.{no_run}
use Rattle.rma_typemap.proofs.Words.{sum_by-cons, sum_by-append, copies, signature, entry_count, size, copies_at, copy_at, extent, numbers, range_with_len}
use Rattle.rma_typemap.proofs.SignatureLemmas.{copies_zero, copies_suc, length_signature, signature_append}
use Rattle.rma_typemap.proofs.SummaryLemmas.{parts_copy_at}
use Rattle.rma_typemap.proofs.BlocksLemmas.{moved_element}
use Rattle.rma_datatype.specs.declared.basic.Basic.TheVariants.{SignedChar}
use Rattle.std.proofs.lemmas.List.{take-map, take-append-le, length-take, length-map, length-replicate}
use Rattle.std.proofs.lemmas.List.FromFn.{length-range_with_len}
use Rattle.std.proofs.lemmas.Simd.{map-map}

-- ---- sizes

pub size_small : (b : Basic) → basic_size b ≤ 8
size_small SignedChar = omega arith
size_small _ = omega arith

pub size_some : (b : Basic) → 0 < basic_size b
size_some SignedChar = omega arith
size_some _ = omega arith

pub sizes_small : (bs : List Basic) → sum_by basic_size bs ≤ 8 * length bs
sizes_small [] = omega arith
sizes_small (b ∷ bs) = omega (arith, sum_by-cons basic_size b bs, size_small b, sizes_small bs)

pub prefix_small : (bs : List Basic) (n : ℕ) → sum_by basic_size (take n bs) ≤ 8 * length bs
prefix_small bs n = omega (arith, sizes_small (take n bs), length-take n bs)

-- ---- runs

sizes_of_run : (left n : ℕ) (b : Basic) → sum_by basic_size (take left (replicate n b)) ≡ min left n * basic_size b
sizes_of_run zero n b = let none : min 0 n ≡ 0 = omega arith in ap (λ k. 0) none ∙ sym (ap (λ k. k * basic_size b) none ∙ omega arith)
sizes_of_run (suc left) zero b = let none : min (suc left) 0 ≡ 0 = omega arith in sym (ap (λ k. k * basic_size b) none ∙ omega arith)
sizes_of_run (suc left) (suc n) b =
    let one_more : min (suc left) (suc n) ≡ suc (min left n) = omega arith in
    sum_by-cons basic_size b (take left (replicate n b)) ∙ ap (λ k. basic_size b + k) (sizes_of_run left n b)
    ∙ sym (ap (λ k. k * basic_size b) one_more ∙ omega arith)

pub prefix_step : (runs : List SigRun) (left i count size : ℕ) → i < length runs → count ≡ min left (get_or runs i no_run).count → size ≡ basic_size (get_or runs i no_run).basic →
    sum_by basic_size (take left (spread (drop i runs))) ≡ count * size + sum_by basic_size (take (left - count) (spread (drop (i + 1) runs)))
prefix_step runs left i count size lt count_is size_is =
    let run = get_or runs i no_run in
    let rest = spread (drop (i + 1) runs) in
    let n = run.count in
    let long = length-replicate n run.basic in
    let less : left - length (basics_of run) ≡ left - count = omega (arith, long, count_is) in
    ap (λ rs. sum_by basic_size (take left (spread rs))) (drop_more runs i no_run lt) ∙ ap (sum_by basic_size) (take_append left (basics_of run) rest)
    ∙ sum_by-append basic_size (take left (basics_of run)) (take (left - length (basics_of run)) rest) ∙ ap (λ k. k + sum_by basic_size (take (left - length (basics_of run)) rest)) (sizes_of_run left n run.basic)
    ∙ ap (λ k. min left n * basic_size run.basic + sum_by basic_size (take k rest)) less
    ∙ ap (λ k. k * basic_size run.basic + sum_by basic_size (take (left - count) rest)) (sym count_is) ∙ ap (λ k. count * k + sum_by basic_size (take (left - count) rest)) (sym size_is)

-- ---- copies

pub sizes_of_copies : (c q r : ℕ) (bs : List Basic) → r < length bs → q * length bs + r ≤ c * length bs → sum_by basic_size (take (q * length bs + r) (copies c bs)) ≡ q * sum_by basic_size bs + sum_by basic_size (take r bs)
sizes_of_copies zero zero r bs lt le =
    let none : r ≡ 0 = omega arith in
    let nothing : take (0 * length bs + r) (copies 0 bs) ≡ [] = ap (take (0 * length bs + r)) (copies_zero bs) ∙ take_all (0 * length bs + r) [] (omega arith) in
    ap (sum_by basic_size) nothing ∙ sym (ap (λ k. 0 * sum_by basic_size bs + sum_by basic_size (take k bs)) none ∙ omega arith)
sizes_of_copies zero (suc q) r bs lt le = absurd (omega arith)
sizes_of_copies (suc c) zero r bs lt le =
    let n : 0 * length bs + r ≡ r = omega arith in
    ap (λ k. sum_by basic_size (take k (copies (suc c) bs))) n ∙ ap (λ xs. sum_by basic_size (take r xs)) (copies_suc c bs) ∙ ap (sum_by basic_size) (take-append-le r bs (copies c bs) (omega arith)) ∙ omega arith
sizes_of_copies (suc c) (suc q) r bs lt le =
    let n = suc q * length bs + r in
    let less : n - length bs ≡ q * length bs + r = omega arith in
    let rest = sizes_of_copies c q r bs lt (omega arith) in
    ap (λ xs. sum_by basic_size (take n xs)) (copies_suc c bs) ∙ ap (sum_by basic_size) (take_append n bs (copies c bs))
    ∙ ap (λ xs. sum_by basic_size (xs ++ take (n - length bs) (copies c bs))) (take_all n bs (omega arith))
    ∙ ap (λ k. sum_by basic_size (bs ++ take k (copies c bs))) less ∙ sum_by-append basic_size bs (take (q * length bs + r) (copies c bs)) ∙ omega (arith, rest)

-- ---- the elements that are touched

signature_moved : (by : ℤ) (m : Typemap) → signature (copy_at by m) ≡ signature m
unfolding signature
signature_moved by m = ap (map (λ (e : Basic × ℤ). e.0)) (parts_copy_at by m).0 ∙ map-map (λ (e : Basic × ℤ). e.0) (moved_element by) (elements m)

signature_none : signature [] ≡ []
unfolding signature
signature_none = refl

signature_copies : (xs : List ℤ) (m : Typemap) → signature (copies_at xs m) ≡ copies (length xs) (signature m)
signature_copies [] m = signature_none ∙ sym (copies_zero (signature m))
signature_copies (x ∷ xs) m =
    signature_append (copy_at x m) (copies_at xs m) ∙ ap (λ s. s ++ signature (copies_at xs m)) (signature_moved x m) ∙ ap (λ s. signature m ++ s) (signature_copies xs m) ∙ sym (copies_suc (length xs) (signature m))

signature_placed : (m : Typemap) (count : ℕ) (address : ℤ) → signature (placed m count address) ≡ copies count (signature m)
unfolding placed
signature_placed m count address =
    signature_copies (map (λ j. address +ℤ j *ℤ extent m) (numbers count)) m
    ∙ ap (λ k. copies k (signature m)) (length-map (numbers count) (λ j. address +ℤ j *ℤ extent m) ∙ length-map (range_with_len 0 count) pos ∙ length-range_with_len 0 count)

-- the basic datatypes of the touched elements
pub basics_touched : (m : Typemap) (count : ℕ) (address : ℤ) (n : ℕ) → map (λ (e : Basic × ℤ). e.0) (touched m count address n) ≡ take n (copies count (signature m))
unfolding touched signature
basics_touched m count address n = sym (take-map (λ (e : Basic × ℤ). e.0) n (elements (placed m count address))) ∙ ap (take n) (signature_placed m count address)

length_bytes_in : (es : List (Basic × ℤ)) → length (bytes_in es) ≡ sum_by basic_size (map (λ (e : Basic × ℤ). e.0) es)
length_bytes_in [] = ap length bytes_in_nil
length_bytes_in (e ∷ es) =
    let basics = map (λ (x : Basic × ℤ). x.0) es in
    ap length (bytes_in_cons e es) ∙ length-append (span e.1 (basic_size e.0)) (bytes_in es) ∙ omega (arith, length_span e.1 (basic_size e.0), length_bytes_in es, sum_by-cons basic_size e.0 basics)

sizes_of_map : (es : List (Basic × ℤ)) → sum_by basic_size (map (λ (e : Basic × ℤ). e.0) es) ≡ sum_by (λ (e : Basic × ℤ). basic_size e.0) es
sizes_of_map [] = refl
sizes_of_map (e ∷ es) = sum_by-cons basic_size e.0 (map (λ (x : Basic × ℤ). x.0) es) ∙ ap (λ k. basic_size e.0 + k) (sizes_of_map es) ∙ sym (sum_by-cons (λ (x : Basic × ℤ). basic_size x.0) e es)

size_is : (m : Typemap) → sum_by basic_size (signature m) ≡ size m
unfolding signature size
size_is m = sizes_of_map (elements m)

pub none_touched : (m : Typemap) (count : ℕ) (address : ℤ) (n : ℕ) → n ≡ 0 → touched m count address n ≡ []
unfolding touched
none_touched m count address n none = ap (λ k. take k (elements (placed m count address))) none

-- the bytes of the touched elements, by whole copies and the first elements of one
pub length_touched : (m : Typemap) (count : ℕ) (address : ℤ) (n q r : ℕ) → n ≡ q * entry_count m + r → r < entry_count m → n ≤ count * entry_count m →
    length (bytes_in (touched m count address n)) ≡ q * size m + sum_by basic_size (take r (signature m))
length_touched m count address n q r is lt le =
    let long = length_signature m in
    let same : n ≡ q * length (signature m) + r = is ∙ ap (λ k. q * k + r) (sym long) in
    let fits : q * length (signature m) + r ≤ count * length (signature m) = subst (λ k. q * k + r ≤ count * k) (sym long) (subst (λ k. k ≤ count * entry_count m) is le) in
    length_bytes_in (touched m count address n) ∙ ap (sum_by basic_size) (basics_touched m count address n)
    ∙ ap (λ k. sum_by basic_size (take k (copies count (signature m)))) same
    ∙ sizes_of_copies count q r (signature m) (omega arith) fits ∙ ap (λ k. q * k + sum_by basic_size (take r (signature m))) (size_is m)
