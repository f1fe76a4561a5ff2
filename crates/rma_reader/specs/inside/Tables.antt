-- How the tables of calls grow, and what is read by their numbers.
use Rattle.std.specs.Prelude.{◌≡◌, ℕ, List, Option, Some, None, Result, Ok, Err, slice_get, true}
use Rattle.rma_base.specs.declared.version.Version.{Version}
use Rattle.rma_call.specs.Call.{CallTable}
use Rattle.rma_field.specs.declared.parse_error.ParseError.{ParseError}
use Rattle.rma_field.specs.Steps.{Fails}
use Rattle.rma_form.specs.declared.event.Stated.{Stated}
use Rattle.rma_form.specs.Lines.{reading, states}
use Rattle.rma_known.specs.Split.{SplitText}
use Rattle.rma_reader.specs.declared.read_line.ReadLine.{ReadLine}
use Rattle.rma_reader.specs.Reading.{IsRead}

-- each number keeps what it names
abbrev pub Keeps : {A : Type 0} → List A → List A → Type 0
Keeps {A} old new = (number : ℕ) (value : A) → slice_get old number ≡ Some value → slice_get new number ≡ Some value

-- the table of what calls do may have grown
pub record AddsWhats (old new : CallTable) : Type 0 where
  pub calls : new.calls ≡ old.calls
  pub whats : Keeps old.whats new.whats
  pub sites : new.sites ≡ old.sites

-- the table of sites may have grown
pub record AddsSites (old new : CallTable) : Type 0 where
  pub calls : new.calls ≡ old.calls
  pub whats : new.whats ≡ old.whats
  pub sites : Keeps old.sites new.sites

-- what was read of a line, or why not, is what it states
abbrev pub Reads : CallTable → Version → SplitText → Result (Option ReadLine) ParseError → Type 0
Reads table version line (Ok None) = reading version line.line ≡ Ok None
Reads table version line (Ok (Some read)) =
    ((stated : Stated) × (reading version line.line ≡ Ok (Some stated)) × IsRead table read stated)
    × (read.by_words ≡ true → states version line.words (record { event = read.event; site = None }))
Reads table version line (Err error) = Fails error (reading version line.line)
