-- The calls that the lines of a log record.
use Rattle.std.specs.Prelude.{ℕ, List, [], ◌∷◌, ◌++◌, map, Option, Some, None, option_to_list, option_map, unwrap_or, if◌then◌else◌}
use Rattle.rma_base.specs.declared.line.LineNo.{LineNo}
use Rattle.rma_base.specs.declared.version.Version.{Version}
use Rattle.rma_base.specs.declared.version.Version.TheVariants.{One}
use Rattle.rma_form.specs.declared.event.Event.{Event}
use Rattle.rma_form.specs.declared.event.Stated.{Stated}
use Rattle.rma_judge.specs.Calls.{what_in}
use Rattle.rma_judge.specs.Latest.{latest}
use Rattle.rma_judge.specs.Naming.{attributes_of, is_end, named_version}
use Rattle.rma_judge.specs.Names.{request_number}
use Rattle.rma_judge.specs.Types.{types_after}
use Rattle.rma_call.specs.Call.{Call}
use Rattle.rma_call.specs.declared.what.What.{What}

-- a line that states something, with its number
pub record Entry : Type 0 where
  pub line : LineNo
  pub stated : Stated

-- the event of a line
abbrev pub event_of : Entry → Event
event_of entry = entry.stated.event

-- the events of some lines
abbrev pub events_of : List Entry → List Event
events_of entries = map event_of entries

-- the line of the end, where one of some lines is the end
abbrev pub end_line : List Entry → Option LineNo
end_line entries = latest (λ entry. if is_end (event_of entry) then Some entry.line else None) entries

-- the version of the format that some lines have: the one that their header names, and the first before it
abbrev pub version_of : List Entry → Version
version_of entries = unwrap_or (latest (λ entry. named_version (event_of entry)) entries) One

-- the call of a line with this site, which does this, and with a request of this number
abbrev pub call_with : LineNo → Option (List ℕ) → Option ℕ → What → Call
call_with line site request what = record { line = line; site = site; what = what; request = request }

-- the call of a line behind these events, where it records one
abbrev pub call_of : List Event → Entry → Option Call
call_of before entry =
    option_map (call_with entry.line entry.stated.site (request_number before (attributes_of (event_of entry)))) (what_in (types_after before) (event_of entry))

-- the calls of some lines behind these events, in their order
abbrev pub calls_behind : List Event → List Entry → List Call
calls_behind before [] = []
calls_behind before (entry ∷ entries) = option_to_list (call_of before entry) ++ calls_behind (before ++ event_of entry ∷ []) entries

-- the calls of some lines, in their order
abbrev pub calls_of : List Entry → List Call
calls_of entries = calls_behind [] entries
