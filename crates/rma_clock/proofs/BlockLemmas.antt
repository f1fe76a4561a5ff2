-- Blocks of tables that grow.
use Rattle.std.proofs.Common.{◌≡◌, ℕ, ◌+◌, ◌-◌, ◌*◌, ◌<◌, ◌≤◌, List, [], ◌∷◌, ◌++◌, length, take, drop, sym, ap, ◌∙◌, append-nil, append_assoc, length-append, arith, ⊎_elim}
use Rattle.std.specs.Prelude.{slice_index}
use Rattle.std.proofs.lemmas.Bool.{cases_lt}
use Rattle.std.proofs.lemmas.List.{get_or_append_left, get_or_push, get_or-drop, get_or-take, length_push, length-drop, length-take-le}
use Rattle.std.proofs.lemmas.Nat.{same_from_place}
use Rattle.rma_clock.specs.inside.Blocks.{IsGrown, IsBlock, AreBlocks}

pub grown_none : (table : List ℕ) → IsGrown table table
grown_none table = ([], sym (append-nil table))

pub grown_by : (old more new : List ℕ) → new ≡ old ++ more → IsGrown old new
grown_by old more new is = (more, is)

pub grown_then : (first second third : List ℕ) → IsGrown first second → IsGrown second third → IsGrown first third
grown_then first second third one two = (one.0 ++ two.0, two.1 ∙ ap (λ (xs : List ℕ). xs ++ two.0) one.1 ∙ append_assoc first one.0 two.0)

pub grown_size : (old new : List ℕ) → IsGrown old new → length old ≤ length new
grown_size old new grown = let size : length new ≡ length old + length grown.0 = ap length grown.1 ∙ length-append old grown.0 in omega arith

pub grown_at : (old new : List ℕ) → IsGrown old new → (i : ℕ) → i < length old → slice_index new i ≡ slice_index old i
grown_at old new grown i there = ap (λ (xs : List ℕ). slice_index xs i) grown.1 ∙ get_or_append_left old grown.0 0 i there

-- a list of which one more block stands in the table
module _ (size : ℕ) (old new starts list block : List ℕ) (at end start : ℕ) (grown : IsGrown old new) (was : AreBlocks size old starts list at) (is : IsBlock new start block) (here : at ≡ length starts * size)
    (upto : end ≤ at + size) (long : length block ≡ end - at) (same : (j : ℕ) → j < length block → slice_index block j ≡ slice_index list (at + j)) where
  pub one_more_block : AreBlocks size new (starts ++ start ∷ []) list end
  one_more_block b j small below =
      ⊎_elim
      (λ (before : b * size + j < at).
      let one = was b j small before in
      let first : slice_index (starts ++ start ∷ []) b ≡ slice_index starts b = get_or_append_left starts (start ∷ []) 0 b one.0 in
      let place : slice_index (starts ++ start ∷ []) b + j ≡ slice_index starts b + j = ap (λ s. s + j) first in
      let more = length_push starts start in
      let lt = one.0 in
      let there = one.1 in
      let longer = grown_size old new grown in
      (omega arith, omega arith, ap (slice_index new) place ∙ grown_at old new grown (slice_index starts b + j) one.1 ∙ one.2))
      (λ (past : at ≤ b * size + j).
      let k : ℕ = b * size + j - at in
      let place : b * size + j ≡ length starts * size + k = omega arith in
      let last = same_from_place b j (length starts) k size small (omega arith) place in
      let index : b ≡ length starts = last.0 in
      let offset : j ≡ k = last.1 in
      let first : slice_index (starts ++ start ∷ []) b ≡ start = get_or_push starts start 0 b (sym index) in
      let more = length_push starts start in
      let inside : j < length block = omega arith in
      let one = is j inside in
      let there = one.0 in
      let at_place : slice_index (starts ++ start ∷ []) b + j ≡ start + j = ap (λ s. s + j) first in
      let in_list : at + j ≡ b * size + j = omega arith in
      (omega arith, omega arith, ap (slice_index new) at_place ∙ one.1 ∙ same j inside ∙ ap (slice_index list) in_list))
      (cases_lt (b * size + j) at)

-- a list of which the next part stands in the table
pub cut_block : (size : ℕ) (old new starts list : List ℕ) (at end start : ℕ) → IsGrown old new → AreBlocks size old starts list at → end ≤ length list → IsBlock new start (take (end - at) (drop at list)) → at ≡ length starts * size
    → end ≤ at + size → AreBlocks size new (starts ++ start ∷ []) list end
cut_block size old new starts list at end start grown was within is here upto =
    let block : List ℕ = take (end - at) (drop at list) in
    let size_of : length (drop at list) ≡ length list - at = length-drop at list in
    let long : length block ≡ end - at = length-take-le (end - at) (drop at list) (omega arith) in
    one_more_block size old new starts list block at end start grown was is here upto long (λ j inside. get_or-take (end - at) (drop at list) j 0 (omega arith) ∙ get_or-drop at list j 0)
