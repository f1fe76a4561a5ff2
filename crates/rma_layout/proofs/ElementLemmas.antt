-- Elements as the list of their bytes.
use Rattle.std.proofs.Common.{◌≡◌, ℕ, ℤ, Bool, true, false, List, [], ◌∷◌, ◌++◌, length, sum_by, Some, refl, sym, ap, ◌∙◌, arith}
use Rattle.rma_layout.proofs.Words.{Basic, basic_size, Typemap, elements, start_of, end_of, gap, span, bytes_in, typemap_bytes, Decides-int_eq, false≢true}
use Rattle.rma_layout.proofs.BytesLemmas.{span_append, span_none}
use Rattle.rma_typemap.specs.declared.blocks.Blocks.{Blocks}
use Rattle.rma_typemap.proofs.Words.{int_eq, gaps_after, end_after, blocks_of, make_blocks, size, sum_by-cons}
use Rattle.rma_typemap.proofs.BlocksLemmas.{gap_other}

-- the bytes of an element
pub bytes_in_cons : (e : Basic × ℤ) (es : List (Basic × ℤ)) → bytes_in (e ∷ es) ≡ span (start_of e) (basic_size e.0) ++ bytes_in es
unfolding bytes_in
bytes_in_cons e es = refl

pub bytes_in_nil : bytes_in [] ≡ []
unfolding bytes_in
bytes_in_nil = refl

no_gap : (at start : ℤ) → gap at start ≡ 0 → start ≡ at
no_gap at start h = cases (int_eq start at) refl
  where
    cases : (t : Bool) → int_eq start at ≡ t → start ≡ at
    cases true e = (Decides-int_eq start at).0 e
    cases false e = absurd (omega (arith, gap_other at start (λ same. false≢true (sym e ∙ (Decides-int_eq start at).1 same))))

all_in_row : (at : ℤ) (es : List (Basic × ℤ)) → gaps_after at es ≡ 0 → bytes_in es ≡ span at (sum_by (λ (e : Basic × ℤ). basic_size e.0) es)
all_in_row at [] h = bytes_in_nil ∙ sym (span_none at)
all_in_row at (e ∷ es) h =
    let sizes = λ (x : Basic × ℤ). basic_size x.0 in
    let here : start_of e ≡ at = no_gap at (start_of e) (omega arith) in
    bytes_in_cons e es ∙ ap (λ xs. span (start_of e) (basic_size e.0) ++ xs) (all_in_row (end_of e) es (omega arith))
    ∙ sym (span_append (start_of e) (basic_size e.0) (sum_by sizes es)) ∙ ap (λ n. span (start_of e) n) (sym (sum_by-cons sizes e es)) ∙ ap (λ x. span x (sum_by sizes (e ∷ es))) here

block_bytes : (es : List (Basic × ℤ)) (b : Blocks) → blocks_of es ≡ Some b → b.gaps ≡ 0 → span b.first (sum_by (λ (e : Basic × ℤ). basic_size e.0) es) ≡ bytes_in es
block_bytes [] b h none = absurd (cc)
block_bytes (e ∷ es) b h none =
    let same : make_blocks (gaps_after (end_of e) es) (start_of e) (end_after (end_of e) es) ≡ b = cc in
    let gaps : gaps_after (end_of e) es ≡ 0 = ap (λ (x : Blocks). x.gaps) same ∙ none in
    let sizes = λ (x : Basic × ℤ). basic_size x.0 in
    ap (λ (x : Blocks). span x.first (sum_by sizes (e ∷ es))) (sym same) ∙ ap (span (start_of e)) (sum_by-cons sizes e es) ∙ span_append (start_of e) (basic_size e.0) (sum_by sizes es)
    ∙ ap (λ xs. span (start_of e) (basic_size e.0) ++ xs) (sym (all_in_row (end_of e) es gaps)) ∙ sym (bytes_in_cons e es)

-- the bytes of a typemap whose elements form one block
pub one_block_bytes : (m : Typemap) (b : Blocks) (first : ℤ) (len : ℕ) → blocks_of (elements m) ≡ Some b → b.gaps ≡ 0 → first ≡ b.first → len ≡ size m → span first len ≡ typemap_bytes m
unfolding size
one_block_bytes m b first len is none at all = ap (λ x. span x len) at ∙ ap (span b.first) all ∙ block_bytes (elements m) b is none

pub no_elements : (m : Typemap) → length (elements m) ≡ 0 → typemap_bytes m ≡ []
no_elements m none = empty (elements m) none
  where
    empty : (es : List (Basic × ℤ)) → length es ≡ 0 → bytes_in es ≡ []
    empty [] h = bytes_in_nil
    empty (e ∷ es) h = absurd (omega arith)
