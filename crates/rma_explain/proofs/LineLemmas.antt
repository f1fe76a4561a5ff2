-- The calls of a rank that access memory come in the order of their lines.
use Rattle.std.proofs.Common.{◌≡◌, ◌<◌, ◌≤◌, ◌+◌, ℕ, List, [], ◌∷◌, ◌++◌, length, get_or, take, Bool, true, false, cond, Some, is_some, slice_get, sym, ap, subst, ◌∙◌, ⊎_elim, arith}
use Rattle.std.specs.Prelude.{Contains}
use Rattle.std.proofs.lemmas.Bool.{cases_order}
use Rattle.std.proofs.lemmas.Option.{get_or_from_slice_get, same_Some, slice_get_within}
use Rattle.rma_call.specs.Call.{Call, CallTable, RankCalls}
use Rattle.rma_kept.specs.Kept.{AreKept}
use Rattle.rma_kept.proofs.ListLemmas.{slice_get_take}
use Rattle.rma_run.specs.Run.{by_number}
use Rattle.rma_run.proofs.ContainLemmas.{first_or_later, has_none, in_by_number}
use Rattle.rma_run.proofs.PositionLemmas.{AreFrom, Rises, from_cons, from_rest, rises_cons}
use Rattle.rma_window.specs.Creation.{creations}
use Rattle.rma_window.specs.Windows.{windows_by}
use Rattle.rma_epoch.proofs.SoundLemmas.{sound_first}
use Rattle.rma_span.specs.Span.{Origin, origin_of, own_span_of, spanned, spanned_calls}
use Rattle.rma_accesses.specs.declared.rank.RankAccesses.{RankAccesses}
use Rattle.rma_accesses.specs.inside.Kept.{rank_of}
use Rattle.rma_accesses.proofs.RankLemmas.{contained}
use Rattle.rma_explain.specs.inside.Line.{IsLineAt, IsOfLog}

-- ---- their numbers

one_more : (n : ℕ) (rest : List ℕ) (b : Bool) → Rises rest × AreFrom (n + 1) rest → Rises (cond b (n ∷ []) [] ++ rest) × AreFrom n (cond b (n ∷ []) [] ++ rest)
one_more n rest true later = (rises_cons n rest later.1 later.0, from_cons n rest later.1)
one_more n rest false later = (later.0, from_rest n rest later.1)

only : (n number : ℕ) (b : Bool) → Contains (cond b (n ∷ []) []) number → n ≡ number
only n number true has = first_or_later n number [] (λ is. is) (λ later. has_none number later) has
only n number false has = has_none number has

module _ (own : Origin) where
  rise : (n : ℕ) (calls : List Call) → Rises (by_number (spanned own) n calls) × AreFrom n (by_number (spanned own) n calls)
  rise n [] = (λ i j less within. absurd (omega arith), λ k within. absurd (omega arith))
  rise n (call ∷ calls) = one_more n (by_number (spanned own) (n + 1) calls) (is_some (own_span_of own n call call.what)) (rise (n + 1) calls)

  numbers_rise : (i j x y : ℕ) → i < j → slice_get (spanned_calls own) i ≡ Some x → slice_get (spanned_calls own) j ≡ Some y → x < y
  numbers_rise i j x y less here there =
      let numbers = spanned_calls own in
      let one : get_or numbers i 0 ≡ x = get_or_from_slice_get numbers i x 0 here in
      let other : get_or numbers j 0 ≡ y = get_or_from_slice_get numbers j y 0 there in
      let up = (rise 0 own.sound).0 i j less (slice_get_within numbers j y there) in
      omega (arith, one, other, up)

  -- each is that of a sound call
  pub is_number : (k number : ℕ) → slice_get (spanned_calls own) k ≡ Some number → (call : Call) × (slice_get own.sound number ≡ Some call)
  is_number k number at =
      let one = in_by_number (spanned own) 0 own.sound number (contained (spanned_calls own) k number at) in
      let same = only (0 + one.0) number (is_some (own_span_of own (0 + one.0) one.1 one.1.what)) one.3 in
      let here : one.0 ≡ number = omega (arith, same) in
      (one.1, subst (λ n. slice_get own.sound n ≡ Some one.1) here one.2)

-- ---- their lines

-- the sound calls of a rank are its first ones
pub sound_is : (ranks : List RankCalls) (own : RankCalls) (number : ℕ) (call : Call) → slice_get (origin_of ranks own).sound number ≡ Some call → slice_get own.calls number ≡ Some call
sound_is ranks own number call there =
    let sound = (origin_of ranks own).sound in
    let less : number < length sound = slice_get_within sound number call there in
    sym (slice_get_take number (length sound) own.calls less) ∙ ap (λ l. slice_get l number) (sym (sound_first (windows_by (creations ranks)) own.calls)) ∙ there

-- a line comes after those of the calls before
pub line_rises : (rank logs : ℕ) (calls : List Call) (i j : ℕ) (one other : Call) → AreKept rank logs calls → i < j → slice_get calls i ≡ Some one → slice_get calls j ≡ Some other → one.line.0 < other.line.0
line_rises rank logs calls i j one other kept less here there =
    (kept j other there).line one (contained (take j calls) i one (slice_get_take i j calls less ∙ here))

module _ (ranks : List RankCalls) (own : RankCalls) (kept : AreKept own.rank.0 (length ranks) own.calls) where
  pub lines_rise : (i j x y : ℕ) → IsLineAt ranks own i x → IsLineAt ranks own j y → i < j → x < y
  lines_rise i j x y here there less =
      let up = numbers_rise (origin_of ranks own) i j here.number there.number less here.spanned there.spanned in
      let line = line_rises own.rank.0 (length ranks) own.calls here.number there.number here.call there.call kept up (sound_is ranks own here.number here.call here.there) (sound_is ranks own there.number there.call there.there) in
      let first = here.line_is in
      let second = there.line_is in
      omega (arith, line, first, second)

-- an index has one line
pub line_once : (ranks : List RankCalls) (own : RankCalls) (index x y : ℕ) → IsLineAt ranks own index x → IsLineAt ranks own index y → x ≡ y
line_once ranks own index x y here there =
    let number : here.number ≡ there.number = same_Some here.number there.number (sym here.spanned ∙ there.spanned) in
    let call : here.call ≡ there.call = same_Some here.call there.call (sym here.there ∙ ap (slice_get (origin_of ranks own).sound) number ∙ there.there) in
    sym here.line_is ∙ ap (λ (c : Call). c.line.0) call ∙ there.line_is

-- where the log is kept, a line has one index
pub same_index : (ranks : List RankCalls) (own : RankCalls) → AreKept own.rank.0 (length ranks) own.calls → (i j line : ℕ) → IsLineAt ranks own i line → IsLineAt ranks own j line → i ≡ j
same_index ranks own kept i j line here there =
    ⊎_elim
    (λ (same : i ≡ j). same)
    (λ apart. ⊎_elim
    (λ (less : i < j). absurd (let up = lines_rise ranks own kept i j line line here there less in omega (arith, up)))
    (λ (more : j < i). absurd (let up = lines_rise ranks own kept j i line line there here more in omega (arith, up)))
    apart)
    (cases_order i j)

-- ---- the accesses of a rank with its calls

module _ (ranks : List RankCalls) (table : CallTable) (given : RankAccesses) (of : IsOfLog ranks table given) where
  kept_of : AreKept (rank_of given).rank.0 (length ranks) (rank_of given).calls
  kept_of = of.good.kept (rank_of given) of.of_run

  pub lines_never_fall : (i j x y : ℕ) → IsLineAt ranks (rank_of given) i x → IsLineAt ranks (rank_of given) j y → i ≤ j → x ≤ y
  lines_never_fall i j x y here there le =
      ⊎_elim
      (λ (same : i ≡ j). let one = line_once ranks (rank_of given) j x y (subst (λ k. IsLineAt ranks (rank_of given) k x) same here) there in omega (arith, one))
      (λ apart. ⊎_elim
      (λ (less : i < j). let up = lines_rise ranks (rank_of given) kept_of i j x y here there less in omega (arith, up))
      (λ (more : j < i). absurd (omega (arith, le, more)))
      apart)
      (cases_order i j)

  pub one_index : (i j line : ℕ) → IsLineAt ranks (rank_of given) i line → IsLineAt ranks (rank_of given) j line → i ≡ j
  one_index = same_index ranks (rank_of given) kept_of

  module _ (index number : ℕ) (is : slice_get (spanned_calls (origin_of ranks (rank_of given))) index ≡ Some number) where
    there_in : (call : Call) × (slice_get (origin_of ranks (rank_of given)).sound number ≡ Some call)
    there_in = is_number (origin_of ranks (rank_of given)) index number is

    at_table : slice_get table.calls number ≡ Some there_in.0
    at_table = ap (λ l. slice_get l number) of.calls ∙ sound_is ranks (rank_of given) number there_in.0 there_in.1

    pub number_within : number < length table.calls
    number_within = slice_get_within table.calls number there_in.0 at_table

    pub line_is_at : (call : Call) → slice_get table.calls number ≡ Some call → IsLineAt ranks (rank_of given) index call.line.0
    line_is_at call has = record {
      number = number;
      call = there_in.0;
      spanned = is;
      there = there_in.1;
      line_is = ap (λ (c : Call). c.line.0) (same_Some there_in.0 call (sym at_table ∙ has));
    }
