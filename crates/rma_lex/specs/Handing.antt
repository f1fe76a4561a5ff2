-- What a cutter is once a line that it handed out is no longer looked at.
use Rattle.std.specs.Prelude.{◌≡◌, List, ℕ, ⊤, Bool, Option, Result, MatchOption}
use Rattle.std.specs.Borrow.{follows_so, Fml, MutBor}
use mathlib.Core.Option.{none}
use Rattle.rma_lex.specs.declared.cutter.Line.{Line}
use Rattle.rma_lex.specs.declared.cutter.LexFault.{LexFault}
use Rattle.rma_lex.specs.contracts.cutter.LineCutter.{the_row}
use Rattle.rma_lex.specs.Content.{content}
use Rattle.rma_lex.specs.Cutting.{Cutting, Represents, TakesLine}
use Rattle.rma_lex.specs.Text.{text_of}

-- a cutter handed out a line with this content
pub record TakesContent (before : Cutting) (found : Result Line LexFault) (after : Cutting) : Type 0 where
  pub line : List ℕ
  pub ended : Bool
  pub takes : TakesLine before line ended after
  pub content_is : content found ≡ text_of ended line

-- The cutter handed out a line, good or bad, or is as it was where there was none; and it represents what it represented.
pub record HandsOut (before : Cutting) (answer : Option (Result Line LexFault)) (after : Cutting) : Type 0 where
  pub line : MatchOption answer (after ≡ before) (λ found. TakesContent before found after)
  pub text : (text : List ℕ) → Represents before text → Represents after text

-- The cutter ends as one that handed out the answer.
abbrev pub LendsLine : MutBor Cutting → Option (Result Line LexFault) → Fml
LendsLine cutter answer =
    follows_so the_row the_row cutter.ghost_name none (λ _ _. ⊤) (λ last. HandsOut cutter.now answer last)
