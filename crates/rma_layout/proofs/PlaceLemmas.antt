-- From what is written to the layout, or to why there is none.
use Rattle.std.proofs.Common.{◌≡◌, ℕ, ◌<◌, ◌≤◌, ℤ, Bool, true, false, List, [], ◌++◌, length, take, All, Option, Some, None, ◌↔◌, refl, sym, ap, subst, ◌∙◌, arith}
use Rattle.std.specs.Prelude.{nat_lt, not, IsTrue}
use Rattle.std.proofs.lemmas.Bool.Decides.{nat_tests}
use Rattle.rma_base.specs.Limits.{element_limit, block_limit}
use Rattle.rma_bytes.specs.declared.run.Run.{Run}
use Rattle.rma_bytes.specs.Runs.{HasByte, SameBytes, IsCanonical}
use Rattle.rma_layout.proofs.Words.{Basic, Typemap, Block, Output, LayoutError, Fault, Memory, TooManyElements, TooManyBlocks, OutOfSpace, IsRefusal, IsSound, written, bytes_of, bytes_in, typemap_bytes, copies, breaks}
use Rattle.rma_layout.specs.Touched.{touched}
use Rattle.rma_layout.specs.Layout.{IsLayoutOf, IsElementOf}
use Rattle.rma_layout.specs.Refusal.{refusal, first_fault, is_all_in, IsErrorOf}
use Rattle.rma_layout.specs.inside.Bytes.{IsAmong, IsBlockIn}
use Rattle.rma_layout.specs.declared.space.Space.{Space}
use Rattle.rma_layout.proofs.BytesLemmas.{bytes_of_nil}
use Rattle.rma_layout.proofs.AmongLemmas.{fewer_where_repeated}
use Rattle.rma_layout.proofs.RunsLemmas.{lengths, bytes_of_runs, length_of_runs, among_runs, runs_once}
use Rattle.rma_layout.proofs.TouchedLemmas.{touched_bytes_are, blocks_are, touches_are, shares_are, elements_in, blocks_in, AreIn}
use Rattle.rma_typemap.proofs.Words.{extent, block_count}

-- ---- refusals

above : (m n : ℕ) → m < n → nat_lt m n ≡ true
above m n h = grind (arith, nat_tests)

not_above : (m n : ℕ) → n ≤ m → nat_lt m n ≡ false
not_above m n h = grind (arith, nat_tests)

module _ (space : Space) (es : List (Basic × ℤ)) (entries : ℕ) where
  pub many_elements : element_limit < entries → refusal space es entries ≡ Some TooManyElements
  unfolding refusal
  many_elements h = ap (λ t. first_fault t (nat_lt block_limit (block_count es)) (not (is_all_in space es))) (above element_limit entries h)

  many_blocks : entries ≤ element_limit → block_limit < block_count es → refusal space es entries ≡ Some TooManyBlocks
  unfolding refusal
  many_blocks few h =
      ap (λ t. first_fault t (nat_lt block_limit (block_count es)) (not (is_all_in space es))) (not_above element_limit entries few)
      ∙ ap (λ t. first_fault false t (not (is_all_in space es))) (above block_limit (block_count es) h)

  pub out_of_space : entries ≤ element_limit → block_count es ≤ block_limit → is_all_in space es ≡ false → refusal space es entries ≡ Some OutOfSpace
  unfolding refusal
  out_of_space few blocks h =
      ap (λ t. first_fault t (nat_lt block_limit (block_count es)) (not (is_all_in space es))) (not_above element_limit entries few)
      ∙ ap (λ t. first_fault false t (not (is_all_in space es))) (not_above block_limit (block_count es) blocks) ∙ ap (λ t. first_fault false false (not t)) h

  pub not_refused : entries ≤ element_limit → block_count es ≤ block_limit → is_all_in space es ≡ true → refusal space es entries ≡ None
  unfolding refusal
  not_refused few blocks h =
      ap (λ t. first_fault t (nat_lt block_limit (block_count es)) (not (is_all_in space es))) (not_above element_limit entries few)
      ∙ ap (λ t. first_fault false t (not (is_all_in space es))) (not_above block_limit (block_count es) blocks) ∙ ap (λ t. first_fault false false (not t)) h

  pub error_of : (bytes : List ℤ) (error : LayoutError) → entries ≤ element_limit → bytes ≡ bytes_in es → IsRefusal bytes error → IsErrorOf (refusal space es entries) error
  error_of bytes Memory few is h = tt
  error_of bytes (Fault TooManyElements) few is h = absurd h
  error_of bytes (Fault TooManyBlocks) few is h = many_blocks few (omega (arith, blocks_are es, ap breaks is, h))
  error_of bytes (Fault OutOfSpace) few is h = absurd h

-- ---- what is written

module _ (m : Typemap) (count : ℕ) (address : ℤ) (entries : ℕ) (start : Output) (none : start.blocks.items ≡ []) (left : start.left ≡ length (bytes_in (touched m count address entries))) where
  -- as much of the copies as is to be written is what the touched elements have
  pub all_touched : written start ++ take start.left (copies count address (extent m) (typemap_bytes m)) ≡ bytes_in (touched m count address entries)
  all_touched =
      ap (λ bs. bytes_of bs ++ take start.left (copies count address (extent m) (typemap_bytes m))) none ∙ ap (λ xs. xs ++ take start.left (copies count address (extent m) (typemap_bytes m))) bytes_of_nil
      ∙ sym (touched_bytes_are m count address entries start.left left)

module _ (space : Space) (es : List (Basic × ℤ)) (entries : ℕ) (out : Output) (sound : IsSound out) (is : written out ≡ bytes_in es) (few : entries ≤ element_limit) where
  few_blocks : block_count es ≤ block_limit
  few_blocks = let counted = sound.count in let most = sound.few in omega (arith, blocks_are es, ap breaks is)

  in_space : All (IsBlockIn space) out.blocks.items → is_all_in space es ≡ true
  in_space h = (elements_in space es).1 (subst (AreIn space) is ((blocks_in space out.blocks.items).0 h))

  all_in : is_all_in space es ≡ true → All (IsBlockIn space) out.blocks.items
  all_in h = (blocks_in space out.blocks.items).1 (subst (AreIn space) (sym is) ((elements_in space es).0 h))

  pub refused_space : (All (IsBlockIn space) out.blocks.items → ⊥) → refusal space es entries ≡ Some OutOfSpace
  refused_space never = out_of_space space es entries few few_blocks (cases (is_all_in space es) refl)
    where
      cases : (t : Bool) → is_all_in space es ≡ t → is_all_in space es ≡ false
      cases true e = absurd (never (all_in e))
      cases false e = e

  pub taken : All (IsBlockIn space) out.blocks.items → refusal space es entries ≡ None
  taken h = not_refused space es entries few few_blocks (in_space h)

-- ---- the layout

is_true_below : (m n : ℕ) → IsTrue (nat_lt m n) ↔ (m < n)
is_true_below m n = grind (arith, nat_tests)

module _ (es : List (Basic × ℤ)) (blocks : List Block) (is : bytes_of blocks ≡ bytes_in es) (given runs : List Run) (total : ℕ) (all : total ≡ length (bytes_in es))
    (bytes : (b : ℤ) → HasByte given b ↔ IsAmong (bytes_of blocks) b) (same : SameBytes runs given) (canonical : IsCanonical runs) where
  has_bytes : (b : ℤ) → HasByte runs b ↔ IsAmong (bytes_in es) b
  has_bytes b =
      let one = same b in
      let two = subst (λ xs. HasByte given b ↔ IsAmong xs b) is (bytes b) in
      (λ h. two.0 (one.0 h), λ h. one.1 (two.1 h))

  pub layout_of : (element : Option Basic) (sum : ℕ) → sum ≡ lengths runs → IsElementOf es element → IsLayoutOf es (record { runs = runs; element = element; overlaps = nat_lt sum total })
  layout_of element sum sum_is element_is =
      let once = bytes_of_runs runs in
      let among : (b : ℤ) → IsAmong once b ↔ IsAmong (bytes_in es) b = λ b.
      (λ h. (has_bytes b).0 ((among_runs runs b).0 h), λ h. (among_runs runs b).1 ((has_bytes b).1 h)) in
      let fewer = fewer_where_repeated (bytes_in es) once (runs_once runs canonical) among in
      let test = is_true_below sum total in
      let shares = shares_are es in
      let long = length_of_runs runs in
      record {
        bytes = λ b. let touches = touches_are es b in (λ h. touches.0 ((has_bytes b).0 h), λ h. (has_bytes b).1 (touches.1 h));
        canonical = canonical;
        overlaps = (λ h. let lt = test.0 h in shares.0 (fewer.0 (omega (arith, long, all))), λ h. let lt = fewer.1 (shares.1 h) in test.1 (omega (arith, long, all)));
        element = element_is;
      }
