-- The walks: what it means for a list to have one more run, and the step of each loop.
use Rattle.std.proofs.Common.{ℕ, ◌≡◌, ◌+◌, ◌<◌, ◌≤◌, min, List, [], ◌∷◌, ◌++◌, length, get_or, drop, inl, inr, ◌⊎◌, ◌↔◌, arith, length-append}
use Rattle.std.specs.Prelude.{ℤ, pos, ◌-ℤ◌, ◌≤ℤ◌, ◌<ℤ◌, nat_lt}
use Rattle.std.proofs.lemmas.Int.{ints}
use Rattle.std.proofs.lemmas.List.{drop_more, drop_all}
use Rattle.std.proofs.lemmas.Bool.{cond_both, ltb-true, ltb-false}
use Rattle.rma_bytes.specs.declared.run.Run.{Run}
use Rattle.rma_bytes.specs.Runs.{end_of, IsByteOf, HasByte, SameBytes, IsInBounds, BeginsAfter, IsCanonical}
use Rattle.rma_bytes.specs.inside.Walks.{AscendFrom, LieBefore, kept}
use Rattle.rma_bytes.proofs.RunLemmas.{no_run, byte_after, start_is_byte}

-- what holds of the runs with one more, and of the runs alone where that is empty, holds of what is kept
by_kept : (runs : List Run) (run : Run) (P : List Run → Type 0) → (0 < run.len → P (runs ++ run ∷ [])) → (run.len ≤ 0 → P runs) → P (kept runs run)
by_kept runs run P some none =
    cond_both (nat_lt 0 run.len) (runs ++ run ∷ []) runs P (λ e. some (ltb-true 0 run.len e)) (λ e. none (ltb-false 0 run.len e))

has_byte_push : (runs : List Run) (run : Run) (b : ℤ) → HasByte (runs ++ run ∷ []) b ↔ (HasByte runs b ⊎ IsByteOf run b)
has_byte_push [] run b = grind arith
has_byte_push (x ∷ xs) run b = let rest = has_byte_push xs run b in grind arith

pub kept_bytes : (runs : List Run) (run : Run) (b : ℤ) → HasByte (kept runs run) b ↔ (HasByte runs b ⊎ IsByteOf run b)
kept_bytes runs run b = by_kept runs run (λ l. HasByte l b ↔ (HasByte runs b ⊎ IsByteOf run b)) (λ some. has_byte_push runs run b) (λ none. grind (arith, ints))

canonical_push : (runs : List Run) (run : Run) → IsCanonical runs → IsInBounds run → 0 < run.len → LieBefore runs run.start → IsCanonical (runs ++ run ∷ [])
canonical_push [] run good bounds some apart = (bounds, some, tt, tt)
canonical_push (x ∷ xs) run good bounds some apart = (good.0, good.1, begins xs good.2, canonical_push xs run good.3 bounds some (λ b has. apart b (inr has)))
  where
    begins : (later : List Run) → BeginsAfter (end_of x) later → BeginsAfter (end_of x) (later ++ run ∷ [])
    begins [] after = let last = apart (end_of x -ℤ pos 1) (inl (omega (arith, ints), omega (arith, ints))) in omega (arith, ints)
    begins (y ∷ ys) after = after

pub kept_canonical : (runs : List Run) (run : Run) → IsCanonical runs → IsInBounds run → (0 < run.len → LieBefore runs run.start) → IsCanonical (kept runs run)
kept_canonical runs run good bounds apart =
    by_kept runs run IsCanonical (λ some. canonical_push runs run good bounds some (apart some)) (λ none. good)

pub kept_length : (runs : List Run) (run : Run) → length (kept runs run) ≤ length runs + min 1 run.len
kept_length runs run =
    by_kept runs run (λ l. length l ≤ length runs + min 1 run.len) (λ some. omega (arith, length-append runs (run ∷ []))) (λ none. omega arith)

-- the union of blocks: the runs made so far, the last one, which may still grow, and the blocks that are left
pub record IsMerging (blocks runs : List Run) (last : Run) (rest : List Run) : Type 0 where
  pub canonical : IsCanonical runs
  pub bounds : IsInBounds last
  pub apart : LieBefore runs last.start
  pub ascend : AscendFrom last.start rest
  pub bytes : (b : ℤ) → HasByte blocks b ↔ (HasByte runs b ⊎ HasByte (last ∷ rest) b)

ascend_from_earlier : (s t : ℤ) (runs : List Run) → AscendFrom s runs → t ≤ℤ s → AscendFrom t runs
ascend_from_earlier s t [] up earlier = tt
ascend_from_earlier s t (x ∷ xs) up earlier = (omega (arith, ints), up.1)

module _ (blocks runs : List Run) (last : Run) (i : ℕ) where
  merging_block : i < length blocks → IsMerging blocks runs last (drop i blocks) → IsMerging blocks runs last (get_or blocks i no_run ∷ drop (i + 1) blocks)
  merging_block lt m = rw (drop_more blocks i no_run lt) at m

  pub merging_join : (whole : Run) → i < length blocks → IsMerging blocks runs last (drop i blocks) → whole.start ≡ last.start → IsInBounds whole
      → ((b : ℤ) → IsByteOf whole b ↔ (IsByteOf last b ⊎ IsByteOf (get_or blocks i no_run) b)) → IsMerging blocks runs whole (drop (i + 1) blocks)
  merging_join whole lt merging starts bounds bytes =
      let m = merging_block lt merging in record {
        canonical = m.canonical;
        bounds = bounds;
        apart = λ b has. let before = m.apart b has in omega (arith, ints);
        ascend = ascend_from_earlier _ whole.start _ m.ascend.1 (let first = m.ascend.0 in omega (arith, ints));
        bytes = λ b. grind (arith, m.bytes b, bytes b);
      }

  pub merging_next : i < length blocks → IsMerging blocks runs last (drop i blocks) → IsInBounds (get_or blocks i no_run)
      → end_of last <ℤ (get_or blocks i no_run).start → IsMerging blocks (kept runs last) (get_or blocks i no_run) (drop (i + 1) blocks)
  merging_next lt merging bounds beyond =
      let m = merging_block lt merging in record {
        canonical = kept_canonical runs last m.canonical m.bounds (λ some. m.apart);
        bounds = bounds;
        apart = λ b has. let first = m.ascend.0 in grind (arith, ints, kept_bytes runs last b, m.apart b);
        ascend = m.ascend.1;
        bytes = λ b. grind (arith, m.bytes b, kept_bytes runs last b);
      }

  pub merging_end : length blocks ≤ i → IsMerging blocks runs last (drop i blocks) → IsCanonical (kept runs last) × SameBytes (kept runs last) blocks
  merging_end ended merging =
      let m = rw (drop_all i blocks ended) at merging in
      (kept_canonical runs last m.canonical m.bounds (λ some. m.apart), λ (b : ℤ). grind (arith, m.bytes b, kept_bytes runs last b))

-- the intersection: the runs made so far, and what is left of both lists
pub record IsSharing (mine theirs runs more others : List Run) : Type 0 where
  pub left_mine : IsCanonical more
  pub left_theirs : IsCanonical others
  pub canonical : IsCanonical runs
  pub apart : (b : ℤ) → HasByte more b → HasByte others b → LieBefore runs b
  pub bytes : (b : ℤ) → (HasByte mine b × HasByte theirs b) ↔ (HasByte runs b ⊎ (HasByte more b × HasByte others b))

sharing_swap : (mine theirs runs more others : List Run) → IsSharing mine theirs runs more others → IsSharing theirs mine runs others more
sharing_swap mine theirs runs more others m = record {
  left_mine = m.left_theirs;
  left_theirs = m.left_mine;
  canonical = m.canonical;
  apart = λ b has_theirs has_mine. m.apart b has_mine has_theirs;
  bytes = λ b. grind (arith, m.bytes b);
}

sharing_step : (mine theirs runs : List Run) (x : Run) (more : List Run) (y : Run) (others : List Run) (both : Run) → IsSharing mine theirs runs (x ∷ more) (y ∷ others)
    → IsInBounds both → ((b : ℤ) → IsByteOf both b ↔ (IsByteOf x b × IsByteOf y b)) → end_of x ≤ℤ end_of y → IsSharing mine theirs (kept runs both) more (y ∷ others)
sharing_step mine theirs runs x more y others both m bounds bytes ends = record {
  left_mine = m.left_mine.3;
  left_theirs = m.left_theirs;
  canonical = kept_canonical runs both m.canonical bounds
      (λ some. let first = (bytes both.start).0 (start_is_byte both some) in m.apart both.start (inl first.0) (inl first.1));
  apart = λ b has_more has_others c has.
      let before = m.apart b (inr has_more) has_others c in
      let beyond = byte_after (end_of x) more b m.left_mine.2 m.left_mine.3 has_more in
      grind (arith, ints, kept_bytes runs both c, bytes c);
  bytes = λ b. grind (arith, ints, m.bytes b, kept_bytes runs both b, bytes b, byte_after (end_of y) others b m.left_theirs.2 m.left_theirs.3);
}

pub sharing_left : (mine theirs runs : List Run) (i j : ℕ) (both : Run) → i < length mine → j < length theirs → IsSharing mine theirs runs (drop i mine) (drop j theirs)
    → IsInBounds both → ((b : ℤ) → IsByteOf both b ↔ (IsByteOf (get_or mine i no_run) b × IsByteOf (get_or theirs j no_run) b))
    → end_of (get_or mine i no_run) ≤ℤ end_of (get_or theirs j no_run) → IsSharing mine theirs (kept runs both) (drop (i + 1) mine) (drop j theirs)
sharing_left mine theirs runs i j both i_in j_in m bounds bytes ends =
    let next = drop_more theirs j no_run j_in in
    rw next (sharing_step mine theirs runs _ _ _ _ both (rw (drop_more mine i no_run i_in, next) at m) bounds bytes ends)

pub sharing_right : (mine theirs runs : List Run) (i j : ℕ) (both : Run) → i < length mine → j < length theirs → IsSharing mine theirs runs (drop i mine) (drop j theirs)
    → IsInBounds both → ((b : ℤ) → IsByteOf both b ↔ (IsByteOf (get_or mine i no_run) b × IsByteOf (get_or theirs j no_run) b))
    → end_of (get_or theirs j no_run) ≤ℤ end_of (get_or mine i no_run) → IsSharing mine theirs (kept runs both) (drop i mine) (drop (j + 1) theirs)
sharing_right mine theirs runs i j both i_in j_in m bounds bytes ends =
    sharing_swap _ _ _ _ _ (sharing_left theirs mine runs j i both j_in i_in (sharing_swap _ _ _ _ _ m) bounds (λ b. grind (arith, bytes b)) ends)
