-- What a reader of the lines of one log keeps and answers.
use Rattle.std.specs.Prelude.{◌≡◌, ℕ, List, Option, Some, slice_get}
use Rattle.rma_base.specs.declared.version.Version.{Version}
use Rattle.rma_call.specs.declared.rma.Placement.{Placement}
use Rattle.rma_call.specs.declared.rma.RmaCall.{RmaCall}
use Rattle.rma_call.specs.declared.what.What.{What}
use Rattle.rma_call.specs.declared.what.What.TheVariants.{Rma}
use Rattle.rma_call.specs.Call.{CallTable}
use Rattle.rma_call.specs.Rma.{placed}
use Rattle.rma_form.specs.declared.event.Stated.{Stated}
use Rattle.rma_known.specs.Known.{Known}
use Rattle.rma_reader.specs.declared.read_line.ReadLine.{ReadLine}
use Rattle.rma_reader.specs.Sites.{IsSite}

-- the version in which lines are read, the calls with their tables, and the words that are known
pub record Reading : Type 0 where
  pub version : Version
  pub calls : CallTable
  pub known : List (Option Known)

-- what was read is what is stated
pub record IsRead (table : CallTable) (line : ReadLine) (stated : Stated) : Type 0 where
  pub event : stated.event ≡ line.event
  pub site : IsSite table line.site stated.site

-- the tables may have grown: each number keeps what it names, and nothing else has changed
pub record Grows (old new : Reading) : Type 0 where
  pub version : new.version ≡ old.version
  pub calls : new.calls.calls ≡ old.calls.calls
  pub known : new.known ≡ old.known
  pub whats : (number : ℕ) (value : What) → slice_get old.calls.whats number ≡ Some value → slice_get new.calls.whats number ≡ Some value
  pub sites : (number : ℕ) (value : List ℕ) → slice_get old.calls.sites number ≡ Some value → slice_get new.calls.sites number ≡ Some value

-- a number is that of what the access of another number does there
pub record IsPlaced (old new : List What) (what : ℕ) (place : Placement) (number : ℕ) : Type 0 where
  pub call : RmaCall
  pub of : slice_get old what ≡ Some (Rma call)
  pub is : slice_get new number ≡ Some (Rma (placed call place))
