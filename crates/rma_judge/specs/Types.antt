-- The datatypes of a log after some events (MPI 4.0, "Datatypes").
use Rattle.std.specs.Prelude.{ℕ, List, [], ◌∷◌, ◌++◌, length, filter, fold, slice_set, Bool, true, false, not, Option, Some, None}
use Rattle.rma_datatype.specs.declared.make.Make.{Make}
use Rattle.rma_form.specs.declared.event.Event.{Event}
use Rattle.rma_form.specs.declared.event.Event.TheVariants.{Datatype}
use Rattle.rma_form.specs.declared.event.type_line.TypeLine.{TypeLine}
use Rattle.rma_form.specs.declared.event.type_line.TypeLine.TheVariants.{Make as Made, Commit, Free}
use Rattle.rma_type.specs.declared.id.TypeId.{TypeId}
use Rattle.rma_type.specs.declared.origin.Origin.TheVariants.{Derived}
use Rattle.rma_type.specs.FirstTable.{basics, table_of_basics}
use Rattle.rma_type.specs.Names.{id_of, old_names, old_types_of}
use Rattle.rma_type.specs.Table.{Table}
use Rattle.rma_judge.specs.Names.{is_same}

-- the datatypes that are committed once that of a number is, if there is one
abbrev pub committed_at : Option TypeId → List Bool → List Bool
committed_at None committed = committed
committed_at (Some id) committed = slice_set committed id.0 true

-- a table with a datatype more
abbrev pub with_type : Table → List ℕ → Make → Table
with_type table name constructor = record {
  origins = table.origins ++ Derived constructor (old_types_of table.live (old_names constructor)) ∷ [];
  committed = table.committed ++ false ∷ [];
  live = (name, record { 0 = length table.origins }) ∷ table.live;
}

-- a table after a line that speaks of a datatype
abbrev pub with_line : Table → TypeLine → Table
with_line table (Made name constructor) = with_type table name constructor
with_line table (Commit name) = record table { committed = committed_at (id_of table.live name) table.committed }
with_line table (Free name) = record table { live = filter (λ named. not (is_same name named.0)) table.live }

-- the event speaks of a datatype
abbrev pub is_datatype : Event → Bool
is_datatype (Datatype line) = true
is_datatype _ = false

-- a table after an event
abbrev pub with_event : Table → Event → Table
with_event table (Datatype line) = with_line table line
with_event table _ = table

-- the datatypes after some events: at first there are the basic ones
unfoldable pub types_after : List Event → Table
types_after events = fold with_event (table_of_basics basics) events
