-- The whole lines of a text that goes on.
use Rattle.std.proofs.Common.{◌≡◌, ℕ, ◌+◌, List, [], ◌∷◌, ◌++◌, length, false, cond, refl, sym, ap, subst, take, ◌∙◌, arith}
use Rattle.std.specs.Prelude.{Contains}
use Rattle.std.proofs.lemmas.Bool.{false≢true}
use Rattle.std.proofs.lemmas.List.{length-append}
use Rattle.rma_lex.specs.Checked.{checked_lines}
use Rattle.rma_lex.specs.Cutting.{Cutting, Represents}
use Rattle.rma_lex.specs.Line.{has_open_end, line_feeds}
use Rattle.rma_lex.proofs.CheckLemmas.{checked_lines_at, length_checked_lines}
use Rattle.rma_lex.proofs.LineLemmas.{feeds_append, length_lines, Plain_from_Contains}
use Rattle.rma_log.specs.Logs.{whole_lines}
use Rattle.rma_log.specs.inside.Reading.{HasRead}
use Rattle.rma_book.specs.inside.RankState.{RankState}
use Rattle.rma_book.specs.inside.RankState as own

closed_end : (text : List ℕ) → has_open_end (text ++ 10 ∷ []) ≡ false
closed_end [] = refl
closed_end (byte ∷ []) = refl
closed_end (byte ∷ next ∷ text) = closed_end (next ∷ text)

-- a cutter with no whole line left has handed out a line for each line feed
pub whole_handed : (cutting : Cutting) (text : List ℕ) → Represents cutting text → cutting.closed ≡ false → ¬ Contains cutting.rest 10 → cutting.handed ≡ line_feeds text
whole_handed cutting text h goes_on none =
    let all = ap length (h.lines_left (10 ∷ []) (λ closed. absurd (false≢true (sym goes_on ∙ closed)))) in
    let left = ap length (checked_lines_at cutting.rest [] (Plain_from_Contains cutting.rest none)) in
    let one : line_feeds (10 ∷ []) ≡ 1 = refl in
    omega (
      arith,
      length_checked_lines (text ++ 10 ∷ []),
      length_lines (text ++ 10 ∷ []) ∙ ap (λ open_end. line_feeds (text ++ 10 ∷ []) + cond open_end 1 0) (closed_end text),
      feeds_append text (10 ∷ []),
      length-append h.done (checked_lines (cutting.rest ++ 10 ∷ [])),
      h.handed,
    )

-- the whole lines were read
pub whole_read : (rank logs : ℕ) (state : RankState) (bytes : List ℕ) → own.Represents rank logs state bytes → HasRead rank logs (whole_lines bytes) state.reader
whole_read rank logs state bytes h = subst (λ n. HasRead rank logs (take n (checked_lines bytes)) state.reader) h.whole h.read
