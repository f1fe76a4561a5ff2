-- Lists of lock epochs, as one more comes.
use Rattle.std.proofs.Common.{◌≡◌, ℕ, Bool, true, false, ◌-◌, ◌≤◌, List, [], ◌∷◌, ◌++◌, length, take, drop, slice_get, Some, refl, sym, ap, ◌∙◌, arith, length-append, length-drop}
use Rattle.std.specs.Bool.{Decides, then_some}
use Rattle.std.specs.Prelude.{MatchOption, All, slice_range}
use Rattle.std.proofs.lemmas.List.{drop-append-le, map-append, take-append-le, take_all}
use Rattle.std.proofs.lemmas.List.Elements.{All-head, All-tail}
use Rattle.std.proofs.Math.Seq.{drop-append_seam}
use Rattle.rma_rules.specs.declared.lock.LockKey.{LockKey}
use Rattle.rma_cover.specs.declared.key_lists.KeyRange.{KeyRange}
use Rattle.rma_cover.specs.Cover.{IsLast}
use Rattle.rma_cover.specs.inside.Lists.{IsRangeIn, lists_in}

-- a range among keys stays as they grow
range_stays : (keys more : List LockKey) (range : KeyRange) → IsRangeIn keys range → slice_range (keys ++ more) range.start range.end ≡ slice_range keys range.start range.end
range_stays keys more range within =
    let le : range.start ≤ length keys = omega (arith, within.begins, within.ends) in
    let short : range.end - range.start ≤ length (drop range.start keys) = omega (arith, length-drop range.start keys, within.begins, within.ends) in
    ap (take (range.end - range.start)) (drop-append-le range.start keys more le) ∙ take-append-le (range.end - range.start) (drop range.start keys) more short

-- and so do their lists
lists_stay : (keys more : List LockKey) (ranges : List KeyRange) → All (IsRangeIn keys) ranges → lists_in (keys ++ more) ranges ≡ lists_in keys ranges
lists_stay keys more [] within = refl
lists_stay keys more (range ∷ ranges) within =
    ap (λ l. l ∷ lists_in (keys ++ more) ranges) (range_stays keys more range (All-head (IsRangeIn keys) range ranges within))
    ∙ ap (λ ls. slice_range keys range.start range.end ∷ ls) (lists_stay keys more ranges (All-tail (IsRangeIn keys) range ranges within))

-- the last range has what was put behind
range_last : (keys list : List LockKey) → slice_range (keys ++ list) (length keys) (length (keys ++ list)) ≡ list
range_last keys list =
    ap (take (length (keys ++ list) - length keys)) (drop-append_seam keys list) ∙ take_all (length (keys ++ list) - length keys) list (omega (arith, length-append keys list))

-- the lists with one more
pub lists_more : (keys list : List LockKey) (ranges : List KeyRange) (range : KeyRange) → All (IsRangeIn keys) ranges → range.start ≡ length keys → range.end ≡ length (keys ++ list) →
    lists_in (keys ++ list) (ranges ++ range ∷ []) ≡ lists_in keys ranges ++ list ∷ []
lists_more keys list ranges range within begins ends =
    map-append (λ (range : KeyRange). slice_range (keys ++ list) range.start range.end) ranges (range ∷ [])
    ∙ ap (λ ls. ls ++ slice_range (keys ++ list) range.start range.end ∷ []) (lists_stay keys list ranges within)
    ∙ ap (λ l. lists_in keys ranges ++ l ∷ []) (rw (begins, ends) (range_last keys list))

-- ---- the last one

-- there is one last list
last_is : (lists : List (List LockKey)) (last other : ℕ) (list found : List LockKey) → IsLast lists last found → IsLast lists other list → found ≡ list
last_is lists last other list found own its =
    let same : last ≡ other = omega (arith, own.ends, its.ends) in
    let is : Some found ≡ Some list = sym own.there ∙ ap (slice_get lists) same ∙ its.there in cc

-- the last number, where its list is another one
pub told_last : (lists : List (List LockKey)) (last : ℕ) (found list : List LockKey) (same : Bool) → Decides same (found ≡ list) → IsLast lists last found →
    MatchOption (then_some same last) ((last : ℕ) → IsLast lists last list → ⊥) (λ last. IsLast lists last list)
told_last lists last found list true decides own = record { ends = own.ends; there = own.there ∙ ap Some (decides.0 refl) }
told_last lists last found list false decides own = λ other its. let not = decides.1 (last_is lists last other list found own its) in absurd (cc)
