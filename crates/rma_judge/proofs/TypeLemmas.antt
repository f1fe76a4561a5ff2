-- Tables of datatypes that have the same datatypes under the same names.
use Rattle.std.proofs.Common.{◌≡◌, ℕ, List, [], ◌∷◌, ◌++◌, length, Option, Some, None, true, false, not, cond, is_none, Result, Ok, Err, IfErr, IsErrOf, OnErr, OnOk, ◌↔◌, refl, sym, ap, subst, ◌∙◌, ⊎_elim}
use Rattle.std.specs.Prelude.{filter, slice_set, IfSome}
use Rattle.std.specs.Cmp.Lexicographic.{same_text}
use Rattle.std.proofs.lemmas.Bool.{cases_Bool, false≢true}
use Rattle.std.proofs.lemmas.Cmp.{nat_list_eq_equiv}
use Rattle.std.proofs.lemmas.List.Sums.{fold-append}
use Rattle.rma_base.specs.declared.form_reason.FormReason.TheVariants.{UnknownType}
use Rattle.rma_type.specs.declared.fault.TypeFault.{TypeFault}
use Rattle.rma_type.specs.declared.fault.TypeFault.TheVariants as fault
use Rattle.rma_datatype.specs.declared.make.Make.{Make}
use Rattle.rma_form.specs.declared.event.Event.{Event}
use Rattle.rma_form.specs.declared.event.Event.TheVariants.{Header, End, Call, Datatype, Rma, Local}
use Rattle.rma_form.specs.declared.event.rma_line.Access.{Access}
use Rattle.rma_form.specs.declared.event.rma_line.Buffer.{Buffer}
use Rattle.rma_form.specs.declared.event.type_line.TypeLine.{TypeLine}
use Rattle.rma_form.specs.declared.event.type_line.TypeLine.TheVariants.{Make as Made, Commit, Free}
use Rattle.rma_type.specs.declared.id.TypeId.{TypeId}
use Rattle.rma_type.specs.declared.origin.Origin.TheVariants.{Derived}
use Rattle.rma_type.specs.Change.{IsMade, IsCommitted, IsFreed}
use Rattle.rma_type.specs.FirstTable.{basics, table_of_basics}
use Rattle.rma_type.specs.Names.{id_of, old_names, old_types_of, all_live}
use Rattle.rma_type.specs.Refusal.{new_typemap, refusal}
use Rattle.rma_type.specs.Table.{Table, names_derived}
use Rattle.rma_buffer.specs.Operands.{Buffers, buffers_of, operand_if, operand_of, operands_in, operands_of}
use Rattle.rma_judge.specs.Calls.{what_in}
use Rattle.rma_judge.specs.Judging.{datatype_reason, fault_reason, lacks_type, type_reason}
use Rattle.rma_judge.specs.Names.{is_same}
use Rattle.rma_judge.specs.Types.{committed_at, is_datatype, types_after, with_event, with_line, with_type}
use Rattle.rma_judge.specs.inside.BookState.{IsChanged, SameTypes, refused_in}

-- live names with what they represent
abbrev pub Live : Type 0
Live = List (List ℕ × TypeId)

abbrev pub SameLive : Live → Live → Type 0
SameLive one other = (name : List ℕ) → id_of one name ≡ id_of other name

-- ---- names

same_name : (name : List ℕ) → is_same name name ≡ true
same_name name = nat_list_eq_equiv.refl name

pub other_name : (name other : List ℕ) → is_same name other ≡ false → is_same other name ≡ false
other_name name other apart =
    ⊎_elim
    (λ (yes : is_same other name ≡ true). absurd (false≢true (sym apart ∙ ap (is_same name) (same_text other name (sym yes)) ∙ same_name name)))
    (λ (differ : is_same other name ≡ false). differ)
    (cases_Bool (is_same other name))

abbrev without : List ℕ → Live → Live
without name live = filter (λ named. not (is_same name named.0)) live

-- a name that was taken away represents nothing
freed_none : (live : Live) (name : List ℕ) → id_of (without name live) name ≡ None
freed_none [] name = refl
freed_none (first ∷ live) name =
    ⊎_elim
    (λ (yes : is_same name first.0 ≡ true). rw yes (freed_none live name))
    (λ (no : is_same name first.0 ≡ false). rw no (rw no (freed_none live name)))
    (cases_Bool (is_same name first.0))

-- the others represent what they did
freed_others : (live : Live) (name other : List ℕ) → is_same name other ≡ false → id_of (without name live) other ≡ id_of live other
freed_others [] name other apart = refl
freed_others (first ∷ live) name other apart =
    ⊎_elim
    (λ (yes : is_same name first.0 ≡ true).
    let past : is_same other first.0 ≡ false = ap (is_same other) (sym (same_text name first.0 (sym yes))) ∙ other_name name other apart in
    rw (yes, past) (freed_others live name other apart))
    (λ (kept : is_same name first.0 ≡ false). rw kept (ap (λ found. cond (is_same other first.0) (Some first.1) found) (freed_others live name other apart)))
    (cases_Bool (is_same name first.0))

-- ---- what follows from the names

old_types_same : (one other : Live) → SameLive one other → (names : List (List ℕ)) → old_types_of one names ≡ old_types_of other names
old_types_same one other same [] = refl
old_types_same one other same (name ∷ names) = rw (same name, old_types_same one other same names) refl

all_live_same : (one other : Live) → SameLive one other → (names : List (List ℕ)) → all_live one names ≡ all_live other names
all_live_same one other same [] = refl
all_live_same one other same (name ∷ names) = rw (same name, all_live_same one other same names) refl

refusal_same : (one other : Table) → SameTypes one other → (name : List ℕ) (constructor : Make) → refusal one name constructor ≡ refusal other name constructor
unfolding refusal new_typemap
refusal_same one other same name constructor =
    rw (same.origins, all_live_same one.live other.live same.live (old_names constructor), same.live name, old_types_same one.live other.live same.live (old_names constructor)) refl

operand_same : (one other : Live) → SameLive one other → (buffer : Buffer) → operand_of one buffer ≡ operand_of other buffer
operand_same one other same buffer = rw (same buffer.datatype) refl

operand_if_same : (one other : Live) → SameLive one other → (buffer : Option Buffer) → operand_if one buffer ≡ operand_if other buffer
operand_if_same one other same None = refl
operand_if_same one other same (Some buffer) = rw (same buffer.datatype) refl

operands_in_same : (one other : Live) → SameLive one other → (it : Buffers) → operands_in one it ≡ operands_in other it
operands_in_same one other same it =
    rw (same it.target.datatype, same it.origin.datatype, operand_if_same one other same it.result, operand_if_same one other same it.compare) refl

pub operands_same : (one other : Table) → SameTypes one other → (access : Access) → operands_of one.live access ≡ operands_of other.live access
operands_same one other same access = operands_in_same one.live other.live same.live (buffers_of access)

derived_same : (one other : Table) → SameTypes one other → (name : List ℕ) → names_derived one name ≡ names_derived other name
derived_same one other same name = rw (same.origins, same.live name) refl

pub datatype_reason_same : (one other : Table) → SameTypes one other → (line : TypeLine) → datatype_reason one line ≡ datatype_reason other line
datatype_reason_same one other same (Made name constructor) = rw (refusal_same one other same name constructor) refl
datatype_reason_same one other same (Commit name) = rw (same.live name) refl
datatype_reason_same one other same (Free name) = rw (derived_same one other same name) refl

pub lacks_type_same : (one other : Table) → SameTypes one other → (event : Event) → lacks_type one event ≡ lacks_type other event
lacks_type_same one other same (Header version rank size) = refl
lacks_type_same one other same End = refl
lacks_type_same one other same (Call call request) = refl
lacks_type_same one other same (Datatype line) = refl
lacks_type_same one other same (Rma line request) = ap is_none (operands_same one other same line.access)
lacks_type_same one other same (Local line) = ap is_none (operand_same one.live other.live same.live line.buffer)

pub type_reason_same : (one other : Table) → SameTypes one other → (event : Event) → type_reason one event ≡ type_reason other event
type_reason_same one other same (Header version rank size) = refl
type_reason_same one other same End = refl
type_reason_same one other same (Call call request) = refl
type_reason_same one other same (Datatype line) = datatype_reason_same one other same line
type_reason_same one other same (Rma line request) = rw (same.origins, same.committed, operands_same one other same line.access) refl
type_reason_same one other same (Local line) = rw (same.origins, operand_same one.live other.live same.live line.buffer) refl

pub what_in_same : (one other : Table) → SameTypes one other → (event : Event) → what_in one event ≡ what_in other event
what_in_same one other same (Header version rank size) = refl
what_in_same one other same End = refl
what_in_same one other same (Call call request) = refl
what_in_same one other same (Datatype line) = refl
what_in_same one other same (Rma line request) = rw (same.origins, operands_same one other same line.access) refl
what_in_same one other same (Local line) = rw (same.origins, operand_same one.live other.live same.live line.buffer) refl

-- ---- a line that changes them

live_put : (old new : Live) (table : Live) (name : List ℕ) (id at : TypeId) → SameLive old table → id ≡ at → id_of new name ≡ Some id
    → ((other : List ℕ) → is_same name other ≡ false → id_of new other ≡ id_of old other) → SameLive new ((name, at) ∷ table)
live_put old new table name id at same is named others other =
    ⊎_elim
    (λ (yes : is_same other name ≡ true). ap (id_of new) (same_text other name (sym yes)) ∙ named ∙ ap Some is ∙ sym (ap (λ b. cond b (Some at) (id_of table other)) yes))
    (λ (no : is_same other name ≡ false). others other (other_name other name no) ∙ same other ∙ sym (ap (λ b. cond b (Some at) (id_of table other)) no))
    (cases_Bool (is_same other name))

abbrev type_at : ℕ → TypeId
type_at n = record { 0 = n }

pub taken_make : (old new table : Table) (name : List ℕ) (constructor : Make) (id : TypeId) → IsMade old new name constructor id → SameTypes old table → SameTypes new (with_type table name constructor)
taken_make old new table name constructor id made same = record {
  origins = made.origins ∙ ap (λ types. old.origins ++ Derived constructor types ∷ []) (old_types_same old.live table.live same.live (old_names constructor))
      ∙ ap (λ origins. origins ++ Derived constructor (old_types_of table.live (old_names constructor)) ∷ []) same.origins;
  committed = made.committed ∙ ap (λ committed. committed ++ false ∷ []) same.committed;
  live = live_put old.live new.live table.live name id (record { 0 = length table.origins }) same.live
      (ap type_at (made.number ∙ ap length same.origins)) made.named made.others;
}

pub taken_commit : (old new table : Table) (name : List ℕ) → IsCommitted old new name → (id_of old.live name ≡ None → ⊥) → SameTypes old table
    → SameTypes new (with_line table (Commit name))
taken_commit old new table name done there same = record {
  origins = done.origins ∙ same.origins;
  committed = step (id_of old.live name) refl done.committed
      ∙ ap (λ found. committed_at found old.committed) (same.live name) ∙ ap (committed_at (id_of table.live name)) same.committed;
  live = λ other. ap (λ (live : Live). id_of live other) done.live ∙ same.live other;
}
  where
    step : (found : Option TypeId) → id_of old.live name ≡ found → IfSome found (λ id. new.committed ≡ slice_set old.committed id.0 true)
        → new.committed ≡ committed_at (id_of old.live name) old.committed
    step None is done = absurd (there is)
    step (Some id) is done = done ∙ sym (ap (λ found. committed_at found old.committed) is)

pub taken_free : (old new table : Table) (name : List ℕ) → IsFreed old new name → SameTypes old table → SameTypes new (with_line table (Free name))
taken_free old new table name done same = record {
  origins = done.origins ∙ same.origins;
  committed = done.committed ∙ same.committed;
  live = λ other. ⊎_elim
      (λ (yes : is_same name other ≡ true).
      let is = same_text name other (sym yes) in
      sym (ap (id_of new.live) is) ∙ done.freed ∙ sym (freed_none table.live name) ∙ ap (id_of (without name table.live)) is)
      (λ (no : is_same name other ≡ false). done.others other no ∙ same.live other ∙ sym (freed_others table.live name other no))
      (cases_Bool (is_same name other));
}

-- ---- the datatypes after some events

pub types_after_none : types_after [] ≡ table_of_basics basics
unfolding types_after
types_after_none = refl

pub types_after_more : (events : List Event) (event : Event) → types_after (events ++ event ∷ []) ≡ with_event (types_after events) event
unfolding types_after
types_after_more events event = fold-append with_event (table_of_basics basics) events (event ∷ [])

pub with_event_other : (table : Table) (event : Event) → is_datatype event ≡ false → with_event table event ≡ table
with_event_other table (Header version rank size) other = refl
with_event_other table End other = refl
with_event_other table (Call call request) other = refl
with_event_other table (Datatype line) other = absurd (false≢true (sym other))
with_event_other table (Rma line request) other = refl
with_event_other table (Local line) other = refl

-- an event that does not speak of a datatype changes none
pub same_after : (old new : Table) (event : Event) → new ≡ old → is_datatype event ≡ false → (table : Table) → SameTypes old table → SameTypes new (with_event table event)
same_after old new event kept other table same =
    subst (λ after. SameTypes new after) (sym (with_event_other table event other)) (subst (λ now. SameTypes now table) (sym kept) same)

-- ---- a name that is taken away

-- a table without the name of a derived datatype
pub is_freed : (old new : Table) (name : List ℕ) (result : Result (Unit {0}) TypeFault) → IfErr result (λ e. e ≡ fault.UnknownType)
    → (IsErrOf result fault.UnknownType ↔ (names_derived old name ≡ false)) → OnOk result (IsFreed old new name) → OnErr result (new ≡ old)
    → IsChanged old new (Free name) (refused_in result)
is_freed old new name (Ok done) error unknown freed kept = record {
  judged = ⊎_elim
      (λ (derived : names_derived old name ≡ true). sym (ap (λ b. cond b None (Some UnknownType)) derived))
      (λ (none : names_derived old name ≡ false). absurd (let wrong = unknown.1 none in cc wrong))
      (cases_Bool (names_derived old name));
  taken = λ none table same. taken_free old new table name freed same;
  kept = λ some. absurd (false≢true some);
}
is_freed old new name (Err e) error unknown freed kept = record {
  judged = ap (λ (found : TypeFault). Some (fault_reason found)) error ∙ sym (ap (λ b. cond b None (Some UnknownType)) (unknown.0 (ap Err error)));
  taken = λ none. cc;
  kept = λ some. kept;
}
