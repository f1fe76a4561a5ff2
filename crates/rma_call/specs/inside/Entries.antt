-- Calls by their numbers, in two columns.
use Rattle.std.specs.Prelude.{ℕ, List, map}
use Rattle.std.specs.List.{zip}
use Rattle.rma_call.specs.declared.entries.Entry.{Entry}
use Rattle.rma_call.specs.declared.entries.Detail.{Detail}

-- a call, by the number of what it does and its other numbers
abbrev pub entry_of : ℕ × Detail → Entry
entry_of parts = record { line = parts.1.line; what = parts.0; site = parts.1.site; request = parts.1.request }

-- the calls that two columns have
abbrev pub joined : List ℕ → List Detail → List Entry
joined whats details = map entry_of (zip whats details)
