-- What the book of a rank keeps of its log, and which bytes it represents.
use Rattle.std.specs.Prelude.{◌≡◌, ℕ, ◌+◌, ◌++◌, Bool, true, false, List, Option, length, take}
use Rattle.rma_lex.specs.Checked.{checked_lines}
use Rattle.rma_lex.specs.Cutting.{Cutting}
use Rattle.rma_lex.specs.Cutting as cutting
use Rattle.rma_lex.specs.Line.{line_feeds}
use Rattle.rma_log.specs.inside.Reading.{HasRead, IsReading}
use Rattle.rma_log.specs.declared.fault.FormFault.{FormFault}
use Rattle.rma_log.specs.declared.reader.Reader.{Reader}

-- the text that was fed, as a cutter sees it; what was read of it; the first bad line that was found; and whether memory ran out
pub record RankState : Type 0 where
  pub text : Cutting
  pub reader : Reader
  pub fault : Option FormFault
  pub ran_out : Bool

-- memory ran out while the book was fed
abbrev pub RanOut : RankState → Type 0
RanOut state = state.ran_out ≡ true

-- The book was fed these bytes of the log of a rank, among so many logs, and memory never ran out.
pub record Represents (rank logs : ℕ) (state : RankState) (bytes : List ℕ) : Type 0 where
  pub in_memory : state.ran_out ≡ false
  pub fed : cutting.Represents state.text bytes
  pub goes_on : state.text.closed ≡ false
  pub whole : state.text.handed ≡ line_feeds bytes
  pub read : HasRead rank logs (take state.text.handed (checked_lines bytes)) state.reader
  pub fault_read : state.fault ≡ state.reader.fault

-- a cutter was fed this part of the text more, and the reader read the lines that end in it
pub record ReadsPart (before after : Cutting) (old new : Reader) (part : List ℕ) : Type 0 where
  pub fed : after.fed ≡ before.fed + length part
  pub reads : (rank logs : ℕ) (bytes : List ℕ) → IsReading rank logs before bytes old
      → IsReading rank logs after (bytes ++ part) new × (after.handed ≡ line_feeds (bytes ++ part))
