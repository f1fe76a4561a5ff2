-- The table of the forms of lines (docs/FORMAT.md). A form is one row, and all that is said of lines follows from the rows:
-- which form a line has, what its fields state, and how what it states is written.
use Rattle.std.specs.Prelude.{ℕ, Bool, true, false, not, ◌&&◌, List, [], ◌∷◌, ◌++◌, length, drop, Option, Some, None, is_none, unwrap_or, option_to_list, find, Result, Ok, Err, codes, if◌then◌else◌}
use Rattle.std.specs.Option.{option_map_or}
use Rattle.rma_base.specs.declared.form_reason.FormReason.{FormReason}
use Rattle.rma_base.specs.declared.form_reason.FormReason.TheVariants.{UnknownVerb, WrongCount}
use Rattle.rma_base.specs.declared.version.Version.{Version}
use Rattle.rma_base.specs.declared.version.Version.TheVariants.{One, Two}
use Rattle.rma_base.specs.declared.window.WinModel.TheVariants.{Unified}
use Rattle.rma_call.specs.declared.assertion.Assertion.TheVariants.{Nocheck, Noprecede, Nosucceed, Nostore, Noput}
use Rattle.rma_call.specs.declared.what.SyncCall.TheVariants.{Frame, Message, Window, Epoch, Moving}
use Rattle.rma_call.specs.declared.frame.FrameCall.TheVariants.{Comm, Barrier}
use Rattle.rma_call.specs.declared.message.MessageCall.TheVariants.{Send, Recv, Isend, Irecv, Wait}
use Rattle.rma_call.specs.declared.window.WindowCall.TheVariants.{Create, Free, Attach, Detach}
use Rattle.rma_call.specs.declared.epoch.EpochCall.TheVariants.{Fence, Post, Start, Complete, Expwait, Lock, Unlock, LockAll, UnlockAll, Flush, FlushAll, FlushLocal, FlushLocalAll}
use Rattle.rma_call.specs.declared.epoch.EpochCall.TheVariants as epoch
use Rattle.rma_call.specs.declared.moving.MovingCall.TheVariants.{Bcast, Scatter, Gather, Reduce, Allreduce, Allgather, Alltoall}
use Rattle.rma_base.specs.declared.rank.Rank.{Rank}
use Rattle.rma_datatype.specs.declared.make.Make.{Make}
use Rattle.rma_datatype.specs.declared.make.Make.TheVariants.{Contiguous, Vector, Hvector, Indexed, Hindexed, IndexedBlock, Struct, Resized, Subarray}
use Rattle.rma_field.specs.Kinds.{Kind, version, name, rank, size, number, ranks, target, model, operations, operation, lock, order, is_word, known}
use Rattle.rma_field.specs.Steps.{◌>>=◌}
use Rattle.rma_form.specs.Fields.{Made, Values, all_written, made_of}
use Rattle.rma_form.specs.Groups.{int, distance}
use Rattle.rma_form.specs.Groups as group
use Rattle.rma_form.specs.Tails.{Tail, closed, received, asserted, groups, TailValue, tail_of, tail_words}
use Rattle.rma_form.specs.Accesses.{address, buffer_kinds, transfer_kinds, fetching_kinds, rma, transferring, fetching, accessing, buffer_values, transfer_values, fetching_values}
use Rattle.rma_form.specs.declared.event.Event.{Event}
use Rattle.rma_form.specs.declared.event.Event.TheVariants.{Header, End, Call, Datatype, Rma, Local}
use Rattle.rma_call.specs.declared.local.LocalAccess.{LocalAccess}
use Rattle.rma_call.specs.declared.local.LocalAccess.TheVariants.{Load, Store, Poll}
use Rattle.rma_form.specs.declared.event.rma_line.Access.{Access}
use Rattle.rma_form.specs.declared.event.rma_line.Access.TheVariants.{Put, Get, Accumulate, GetAccumulate, FetchAndOp, CompareAndSwap}
use Rattle.rma_form.specs.declared.event.rma_line.Buffer.{Buffer}
use Rattle.rma_form.specs.declared.event.type_line.TypeLine.{TypeLine}
use Rattle.rma_form.specs.declared.event.type_line.TypeLine.TheVariants as typed
use Rattle.rma_form.specs.declared.form.LineForm.{LineForm}
use Rattle.rma_form.specs.declared.form.LineForm.TheVariants as form

-- A form of a line: its verb, the word of its kind behind some verbs, what each further field should be, what may stand
-- behind those, and the event that their values make.
pub record Form : Type 0 where
  pub verb : List ℕ
  pub kind_word : Option (List ℕ)
  pub kinds : List Kind
  pub tail : Tail
  pub event : Made kinds (TailValue tail → Event)

-- a tag of a message
abbrev pub tag : Kind
tag = number 0 2147483647

-- a number of bytes that is not 0
abbrev pub some_bytes : Kind
some_bytes = number 1 281474976710656

-- a displacement unit in bytes
abbrev pub unit : Kind
unit = number 1 2147483647

-- a row of a line of a datatype, with the word of its kind
abbrev pub typing : List ℕ → (kinds : List Kind) → (tail : Tail) → Made kinds (TailValue tail → Event) → Form
typing kind kinds tail event = record { verb = codes "type"; kind_word = Some kind; kinds = kinds; tail = tail; event = event }

-- a row of a line that has fields alone
abbrev pub plain : List ℕ → (kinds : List Kind) → Made kinds (Unit {0} → Event) → Form
plain verb kinds event = record { verb = verb; kind_word = None; kinds = kinds; tail = closed; event = event }

-- the rows
abbrev pub form_at : LineForm → Form
form_at form.Header = record { verb = codes "rma"; kind_word = None; kinds = version ∷ rank ∷ size ∷ []; tail = closed; event = λ v r n _. Header v r n }
form_at form.End = record { verb = codes "end"; kind_word = None; kinds = []; tail = closed; event = λ _. End }
form_at form.Comm = record {
  verb = codes "comm";
  kind_word = None;
  kinds = name ∷ ranks ∷ [];
  tail = closed;
  event = λ comm group _. Call (Frame (Comm comm group)) None;
}
form_at form.Barrier = record { verb = codes "barrier"; kind_word = None; kinds = name ∷ []; tail = closed; event = λ comm _. Call (Frame (Barrier comm)) None }
form_at form.Send = record {
  verb = codes "send";
  kind_word = None;
  kinds = rank ∷ tag ∷ name ∷ [];
  tail = closed;
  event = λ to t comm _. Call (Message (Send to t comm)) None;
}
form_at form.Recv = record {
  verb = codes "recv";
  kind_word = None;
  kinds = rank ∷ tag ∷ name ∷ [];
  tail = closed;
  event = λ from t comm _. Call (Message (Recv from t comm)) None;
}
form_at form.Isend = record {
  verb = codes "isend";
  kind_word = None;
  kinds = name ∷ rank ∷ tag ∷ name ∷ [];
  tail = closed;
  event = λ request to t comm _. Call (Message (Isend to t comm)) (Some request);
}
form_at form.Irecv = record {
  verb = codes "irecv";
  kind_word = None;
  kinds = name ∷ name ∷ [];
  tail = closed;
  event = λ request comm _. Call (Message (Irecv comm)) (Some request);
}
form_at form.Wait = record {
  verb = codes "wait";
  kind_word = None;
  kinds = name ∷ [];
  tail = received;
  event = λ request came. Call (Message (Wait came)) (Some request);
}
form_at form.Create = record {
  verb = codes "win";
  kind_word = Some (codes "create");
  kinds = name ∷ name ∷ address ∷ address ∷ unit ∷ model ∷ operations ∷ [];
  tail = closed;
  event = λ window comm base bytes displacement separation accumulates _. Call (Window (Create window comm base bytes displacement separation accumulates false)) None;
}
form_at form.Free = record {
  verb = codes "win";
  kind_word = Some (codes "free");
  kinds = name ∷ [];
  tail = closed;
  event = λ window _. Call (Window (Free window)) None;
}
form_at form.Fence = record {
  verb = codes "fence";
  kind_word = None;
  kinds = name ∷ [];
  tail = asserted (Noprecede ∷ Nosucceed ∷ []) (Noprecede ∷ Nosucceed ∷ Nostore ∷ Noput ∷ []);
  event = λ window assertions. Call (Epoch (Fence window assertions)) None;
}
form_at form.Post = record {
  verb = codes "post";
  kind_word = None;
  kinds = name ∷ ranks ∷ [];
  tail = asserted [] (Nocheck ∷ Nostore ∷ Noput ∷ []);
  event = λ window group assertions. Call (Epoch (Post window group assertions)) None;
}
form_at form.Start = record {
  verb = codes "start";
  kind_word = None;
  kinds = name ∷ ranks ∷ [];
  tail = asserted [] (Nocheck ∷ []);
  event = λ window group assertions. Call (Epoch (Start window group assertions)) None;
}
form_at form.Complete = record {
  verb = codes "complete";
  kind_word = None;
  kinds = name ∷ [];
  tail = closed;
  event = λ window _. Call (Epoch (Complete window)) None;
}
form_at form.Expwait = record {
  verb = codes "expwait";
  kind_word = None;
  kinds = name ∷ [];
  tail = closed;
  event = λ window _. Call (Epoch (Expwait window)) None;
}
form_at form.Lock = record {
  verb = codes "lock";
  kind_word = None;
  kinds = name ∷ rank ∷ lock ∷ [];
  tail = asserted [] (Nocheck ∷ []);
  event = λ window to how assertions. Call (Epoch (Lock window to how assertions)) None;
}
form_at form.Unlock = record {
  verb = codes "unlock";
  kind_word = None;
  kinds = name ∷ rank ∷ [];
  tail = closed;
  event = λ window to _. Call (Epoch (Unlock window to)) None;
}
form_at form.LockAll = record {
  verb = codes "lockall";
  kind_word = None;
  kinds = name ∷ [];
  tail = asserted [] (Nocheck ∷ []);
  event = λ window assertions. Call (Epoch (LockAll window assertions)) None;
}
form_at form.UnlockAll = record {
  verb = codes "unlockall";
  kind_word = None;
  kinds = name ∷ [];
  tail = closed;
  event = λ window _. Call (Epoch (UnlockAll window)) None;
}
form_at form.Flush = record {
  verb = codes "flush";
  kind_word = None;
  kinds = name ∷ rank ∷ [];
  tail = closed;
  event = λ window to _. Call (Epoch (Flush window to)) None;
}
form_at form.FlushAll = record {
  verb = codes "flushall";
  kind_word = None;
  kinds = name ∷ [];
  tail = closed;
  event = λ window _. Call (Epoch (FlushAll window)) None;
}
form_at form.FlushLocal = record {
  verb = codes "flushlocal";
  kind_word = None;
  kinds = name ∷ rank ∷ [];
  tail = closed;
  event = λ window to _. Call (Epoch (FlushLocal window to)) None;
}
form_at form.FlushLocalAll = record {
  verb = codes "flushlocalall";
  kind_word = None;
  kinds = name ∷ [];
  tail = closed;
  event = λ window _. Call (Epoch (FlushLocalAll window)) None;
}
form_at form.Sync = record { verb = codes "sync"; kind_word = None; kinds = name ∷ []; tail = closed; event = λ window _. Call (Epoch (epoch.Sync window)) None }
form_at form.Dynamic = record {
  verb = codes "win";
  kind_word = Some (codes "dynamic");
  kinds = name ∷ name ∷ operations ∷ [];
  tail = closed;
  event = λ window comm accumulates _. Call (Window (Create window comm 0 281474976710656 1 Unified accumulates true)) None;
}
form_at form.Attach = record {
  verb = codes "attach";
  kind_word = None;
  kinds = name ∷ address ∷ some_bytes ∷ [];
  tail = closed;
  event = λ window at bytes _. Call (Window (Attach window at bytes)) None;
}
form_at form.Detach = record {
  verb = codes "detach";
  kind_word = None;
  kinds = name ∷ address ∷ [];
  tail = closed;
  event = λ window at _. Call (Window (Detach window at)) None;
}
form_at form.Bcast = record {
  verb = codes "bcast";
  kind_word = None;
  kinds = rank ∷ address ∷ name ∷ [];
  tail = closed;
  event = λ root bytes comm _. Call (Moving (Bcast root bytes comm)) None;
}
form_at form.Scatter = record {
  verb = codes "scatter";
  kind_word = None;
  kinds = rank ∷ address ∷ name ∷ [];
  tail = closed;
  event = λ root bytes comm _. Call (Moving (Scatter root bytes comm)) None;
}
form_at form.Gather = record {
  verb = codes "gather";
  kind_word = None;
  kinds = rank ∷ address ∷ name ∷ [];
  tail = closed;
  event = λ root bytes comm _. Call (Moving (Gather root bytes comm)) None;
}
form_at form.Reduce = record {
  verb = codes "reduce";
  kind_word = None;
  kinds = rank ∷ address ∷ name ∷ [];
  tail = closed;
  event = λ root bytes comm _. Call (Moving (Reduce root bytes comm)) None;
}
form_at form.Allreduce = record {
  verb = codes "allreduce";
  kind_word = None;
  kinds = address ∷ name ∷ [];
  tail = closed;
  event = λ bytes comm _. Call (Moving (Allreduce bytes comm)) None;
}
form_at form.Allgather = record {
  verb = codes "allgather";
  kind_word = None;
  kinds = address ∷ name ∷ [];
  tail = closed;
  event = λ bytes comm _. Call (Moving (Allgather bytes comm)) None;
}
form_at form.Alltoall = record {
  verb = codes "alltoall";
  kind_word = None;
  kinds = address ∷ name ∷ [];
  tail = closed;
  event = λ bytes comm _. Call (Moving (Alltoall bytes comm)) None;
}
form_at form.Contiguous = typing (codes "contiguous") (name ∷ int ∷ name ∷ []) closed (λ made count old _. Datatype (typed.Make made (Contiguous count old)))
form_at form.Vector = typing (codes "vector") (name ∷ int ∷ int ∷ int ∷ name ∷ []) closed (λ made count long stride old _. Datatype (typed.Make made (Vector count long stride old)))
form_at form.Hvector = typing (codes "hvector") (name ∷ int ∷ int ∷ distance ∷ name ∷ []) closed (λ made count long stride old _. Datatype (typed.Make made (Hvector count long stride old)))
form_at form.Indexed = typing (codes "indexed") (name ∷ name ∷ []) (groups group.block 0 None) (λ made old blocks. Datatype (typed.Make made (Indexed old blocks)))
form_at form.Hindexed = typing (codes "hindexed") (name ∷ name ∷ []) (groups group.byte_block 0 None) (λ made old blocks. Datatype (typed.Make made (Hindexed old blocks)))
form_at form.IndexedBlock = typing (codes "indexed_block") (name ∷ int ∷ name ∷ []) (groups group.displacement 0 None) (λ made long old displacements. Datatype (typed.Make made (IndexedBlock long old displacements)))
form_at form.Struct = typing (codes "struct") (name ∷ []) (groups group.member 0 None) (λ made members. Datatype (typed.Make made (Struct members)))
form_at form.Resized = typing (codes "resized") (name ∷ name ∷ distance ∷ distance ∷ []) closed (λ made old lower extent _. Datatype (typed.Make made (Resized old lower extent)))
form_at form.Subarray = typing (codes "subarray") (name ∷ order ∷ name ∷ []) (groups group.dimension 1 (Some 8)) (λ made varying old dimensions. Datatype (typed.Make made (Subarray varying old dimensions)))
form_at form.Commit = typing (codes "commit") (name ∷ []) closed (λ datatype _. Datatype (typed.Commit datatype))
form_at form.FreeType = typing (codes "free") (name ∷ []) closed (λ datatype _. Datatype (typed.Free datatype))
form_at form.Put = plain (codes "put") transfer_kinds (transferring Put None)
form_at form.Get = plain (codes "get") transfer_kinds (transferring Get None)
form_at form.Accumulate = plain (codes "acc") (operation ∷ transfer_kinds) (λ op. transferring (Accumulate op) None)
form_at form.GetAccumulate = plain (codes "getacc") (operation ∷ fetching_kinds) (λ op. fetching op None)
form_at form.FetchAndOp = plain (codes "fop") (operation ∷ name ∷ target ∷ address ∷ name ∷ address ∷ address ∷ []) (λ op window to place datatype at into _. rma window to place (FetchAndOp op datatype at into) None)
form_at form.CompareAndSwap = plain (codes "cas") (name ∷ target ∷ address ∷ name ∷ address ∷ address ∷ address ∷ []) (λ window to place datatype at compared into _. rma window to place (CompareAndSwap datatype at compared into) None)
form_at form.Rput = plain (codes "rput") (name ∷ transfer_kinds) (λ request. transferring Put (Some request))
form_at form.Rget = plain (codes "rget") (name ∷ transfer_kinds) (λ request. transferring Get (Some request))
form_at form.Raccumulate = plain (codes "racc") (name ∷ operation ∷ transfer_kinds) (λ request op. transferring (Accumulate op) (Some request))
form_at form.RgetAccumulate = plain (codes "rgetacc") (name ∷ operation ∷ fetching_kinds) (λ request op. fetching op (Some request))
form_at form.Load = plain (codes "load") buffer_kinds (accessing Load)
form_at form.Store = plain (codes "store") buffer_kinds (accessing Store)
form_at form.Poll = plain (codes "poll") buffer_kinds (accessing Poll)

-- each form once
abbrev pub forms : List LineForm
forms =
    form.Header ∷ form.End ∷ form.Comm ∷ form.Barrier ∷ form.Send ∷ form.Recv ∷ form.Isend ∷ form.Irecv
    ∷ form.Wait ∷ form.Create ∷ form.Free ∷ form.Fence ∷ form.Post ∷ form.Start ∷ form.Complete ∷ form.Expwait
    ∷ form.Lock ∷ form.Unlock ∷ form.LockAll ∷ form.UnlockAll ∷ form.Flush ∷ form.FlushAll ∷ form.FlushLocal ∷ form.FlushLocalAll
    ∷ form.Sync ∷ form.Dynamic ∷ form.Attach ∷ form.Detach ∷ form.Bcast ∷ form.Scatter ∷ form.Gather ∷ form.Reduce
    ∷ form.Allreduce ∷ form.Allgather ∷ form.Alltoall ∷ form.Contiguous ∷ form.Vector ∷ form.Hvector ∷ form.Indexed ∷ form.Hindexed
    ∷ form.IndexedBlock ∷ form.Struct ∷ form.Resized ∷ form.Subarray ∷ form.Commit ∷ form.FreeType ∷ form.Put ∷ form.Get
    ∷ form.Accumulate ∷ form.GetAccumulate ∷ form.FetchAndOp ∷ form.CompareAndSwap ∷ form.Rput ∷ form.Rget ∷ form.Raccumulate
    ∷ form.RgetAccumulate ∷ form.Load ∷ form.Store ∷ form.Poll ∷ []

-- forms that logs of the first version do not have
abbrev pub is_since_two : LineForm → Bool
is_since_two form.Dynamic = true
is_since_two form.Attach = true
is_since_two form.Detach = true
is_since_two form.Bcast = true
is_since_two form.Scatter = true
is_since_two form.Gather = true
is_since_two form.Reduce = true
is_since_two form.Allreduce = true
is_since_two form.Allgather = true
is_since_two form.Alltoall = true
is_since_two form.Poll = true
is_since_two _ = false

-- a form with a value for each of its fields
pub record Filled : Type 0 where
  pub form : LineForm
  pub values : Values (form_at form).kinds
  pub tail : TailValue (form_at form).tail

-- the form of a datatype's line, and the values that make the event
abbrev pub made_filled : List ℕ → Make → Filled
made_filled made (Contiguous count old) = record { form = form.Contiguous; values = (made, (count, (old, tt))); tail = tt }
made_filled made (Vector count long stride old) = record { form = form.Vector; values = (made, (count, (long, (stride, (old, tt))))); tail = tt }
made_filled made (Hvector count long stride old) = record { form = form.Hvector; values = (made, (count, (long, (stride, (old, tt))))); tail = tt }
made_filled made (Indexed old blocks) = record { form = form.Indexed; values = (made, (old, tt)); tail = blocks }
made_filled made (Hindexed old blocks) = record { form = form.Hindexed; values = (made, (old, tt)); tail = blocks }
made_filled made (IndexedBlock long old displacements) = record { form = form.IndexedBlock; values = (made, (long, (old, tt))); tail = displacements }
made_filled made (Struct members) = record { form = form.Struct; values = (made, tt); tail = members }
made_filled made (Resized old lower extent) = record { form = form.Resized; values = (made, (old, (lower, (extent, tt)))); tail = tt }
made_filled made (Subarray varying old dimensions) = record { form = form.Subarray; values = (made, (varying, (old, tt))); tail = dimensions }

abbrev pub type_filled : TypeLine → Filled
type_filled (typed.Make made make) = made_filled made make
type_filled (typed.Commit datatype) = record { form = form.Commit; values = (datatype, tt); tail = tt }
type_filled (typed.Free datatype) = record { form = form.FreeType; values = (datatype, tt); tail = tt }

-- the form of the line of a call on a window, and the values that make the event
abbrev pub access_filled : List ℕ → Option Rank → ℕ → Access → Option (List ℕ) → Filled
access_filled window to place (Put it) None = record { form = form.Put; values = transfer_values window to place it; tail = tt }
access_filled window to place (Put it) (Some request) = record { form = form.Rput; values = (request, transfer_values window to place it); tail = tt }
access_filled window to place (Get it) None = record { form = form.Get; values = transfer_values window to place it; tail = tt }
access_filled window to place (Get it) (Some request) = record { form = form.Rget; values = (request, transfer_values window to place it); tail = tt }
access_filled window to place (Accumulate op it) None = record { form = form.Accumulate; values = (op, transfer_values window to place it); tail = tt }
access_filled window to place (Accumulate op it) (Some request) = record {
  form = form.Raccumulate;
  values = (request, (op, transfer_values window to place it));
  tail = tt;
}
access_filled window to place (GetAccumulate op it into) None = record { form = form.GetAccumulate; values = (op, fetching_values window to place it into); tail = tt }
access_filled window to place (GetAccumulate op it into) (Some request) = record {
  form = form.RgetAccumulate;
  values = (request, (op, fetching_values window to place it into));
  tail = tt;
}
access_filled window to place (FetchAndOp op datatype at into) request = record {
  form = form.FetchAndOp;
  values = (op, (window, (to, (place, (datatype, (at, (into, tt)))))));
  tail = tt;
}
access_filled window to place (CompareAndSwap datatype at compared into) request = record {
  form = form.CompareAndSwap;
  values = (window, (to, (place, (datatype, (at, (compared, (into, tt)))))));
  tail = tt;
}

-- the form of a local access's line, and the values that make the event
abbrev pub local_filled : LocalAccess → Buffer → Filled
local_filled Load it = record { form = form.Load; values = buffer_values it; tail = tt }
local_filled Store it = record { form = form.Store; values = buffer_values it; tail = tt }
local_filled Poll it = record { form = form.Poll; values = buffer_values it; tail = tt }

-- the form of an event's line, and the values that make the event
abbrev pub filled : Event → Filled
filled (Header v r n) = record { form = form.Header; values = (v, (r, (n, tt))); tail = tt }
filled End = record { form = form.End; values = tt; tail = tt }
filled (Call (Frame (Comm comm group)) request) = record { form = form.Comm; values = (comm, (group, tt)); tail = tt }
filled (Call (Frame (Barrier comm)) request) = record { form = form.Barrier; values = (comm, tt); tail = tt }
filled (Call (Message (Send to t comm)) request) = record { form = form.Send; values = (to, (t, (comm, tt))); tail = tt }
filled (Call (Message (Recv from t comm)) request) = record { form = form.Recv; values = (from, (t, (comm, tt))); tail = tt }
filled (Call (Message (Isend to t comm)) request) = record { form = form.Isend; values = (unwrap_or request [], (to, (t, (comm, tt)))); tail = tt }
filled (Call (Message (Irecv comm)) request) = record { form = form.Irecv; values = (unwrap_or request [], (comm, tt)); tail = tt }
filled (Call (Message (Wait came)) request) = record { form = form.Wait; values = (unwrap_or request [], tt); tail = came }
filled (Call (Window (Create window comm base bytes displacement separation accumulates false)) request) = record {
  form = form.Create;
  values = (window, (comm, (base, (bytes, (displacement, (separation, (accumulates, tt)))))));
  tail = tt;
}
filled (Call (Window (Free window)) request) = record { form = form.Free; values = (window, tt); tail = tt }
filled (Call (Epoch (Fence window assertions)) request) = record { form = form.Fence; values = (window, tt); tail = assertions }
filled (Call (Epoch (Post window group assertions)) request) = record { form = form.Post; values = (window, (group, tt)); tail = assertions }
filled (Call (Epoch (Start window group assertions)) request) = record { form = form.Start; values = (window, (group, tt)); tail = assertions }
filled (Call (Epoch (Complete window)) request) = record { form = form.Complete; values = (window, tt); tail = tt }
filled (Call (Epoch (Expwait window)) request) = record { form = form.Expwait; values = (window, tt); tail = tt }
filled (Call (Epoch (Lock window to how assertions)) request) = record { form = form.Lock; values = (window, (to, (how, tt))); tail = assertions }
filled (Call (Epoch (Unlock window to)) request) = record { form = form.Unlock; values = (window, (to, tt)); tail = tt }
filled (Call (Epoch (LockAll window assertions)) request) = record { form = form.LockAll; values = (window, tt); tail = assertions }
filled (Call (Epoch (UnlockAll window)) request) = record { form = form.UnlockAll; values = (window, tt); tail = tt }
filled (Call (Epoch (Flush window to)) request) = record { form = form.Flush; values = (window, (to, tt)); tail = tt }
filled (Call (Epoch (FlushAll window)) request) = record { form = form.FlushAll; values = (window, tt); tail = tt }
filled (Call (Epoch (FlushLocal window to)) request) = record { form = form.FlushLocal; values = (window, (to, tt)); tail = tt }
filled (Call (Epoch (FlushLocalAll window)) request) = record { form = form.FlushLocalAll; values = (window, tt); tail = tt }
filled (Call (Epoch (epoch.Sync window)) request) = record { form = form.Sync; values = (window, tt); tail = tt }
filled (Call (Window (Create window comm base bytes displacement separation accumulates true)) request) = record {
  form = form.Dynamic;
  values = (window, (comm, (accumulates, tt)));
  tail = tt;
}
filled (Call (Window (Attach window at bytes)) request) = record { form = form.Attach; values = (window, (at, (bytes, tt))); tail = tt }
filled (Call (Window (Detach window at)) request) = record { form = form.Detach; values = (window, (at, tt)); tail = tt }
filled (Call (Moving (Bcast root bytes comm)) request) = record { form = form.Bcast; values = (root, (bytes, (comm, tt))); tail = tt }
filled (Call (Moving (Scatter root bytes comm)) request) = record { form = form.Scatter; values = (root, (bytes, (comm, tt))); tail = tt }
filled (Call (Moving (Gather root bytes comm)) request) = record { form = form.Gather; values = (root, (bytes, (comm, tt))); tail = tt }
filled (Call (Moving (Reduce root bytes comm)) request) = record { form = form.Reduce; values = (root, (bytes, (comm, tt))); tail = tt }
filled (Call (Moving (Allreduce bytes comm)) request) = record { form = form.Allreduce; values = (bytes, (comm, tt)); tail = tt }
filled (Call (Moving (Allgather bytes comm)) request) = record { form = form.Allgather; values = (bytes, (comm, tt)); tail = tt }
filled (Call (Moving (Alltoall bytes comm)) request) = record { form = form.Alltoall; values = (bytes, (comm, tt)); tail = tt }
filled (Datatype line) = type_filled line
filled (Rma line request) = access_filled line.window line.target line.displacement line.access request
filled (Local line) = local_filled line.access line.buffer

-- ---- what follows from the rows

-- logs of the version have the form
abbrev pub is_in : Version → LineForm → Bool
is_in One form = not (is_since_two form)
is_in Two form = true

-- how many words of its kind stand behind the verb of a form
abbrev pub kind_words : LineForm → ℕ
kind_words form = length (option_to_list (form_at form).kind_word)

-- the form has that verb
abbrev pub has_verb : Version → List ℕ → LineForm → Bool
has_verb v verb form = is_word (form_at form).verb verb && is_in v form

-- the form has that verb, and that word behind it
abbrev pub has_words : Version → List ℕ → List ℕ → LineForm → Bool
has_words v verb kind form = has_verb v verb form && option_map_or (λ word. is_word word kind) (form_at form).kind_word false

abbrev pub form_of_kind : Version → List ℕ → List (List ℕ) → Result LineForm FormReason
form_of_kind v verb [] = Err WrongCount
form_of_kind v verb (kind ∷ rest) = known (find (has_words v verb kind) forms)

-- where the forms of a verb have words of their kind, that word decides
abbrev pub form_of_verb : Version → List ℕ → Option LineForm → List (List ℕ) → Result LineForm FormReason
form_of_verb v verb None fields = Err UnknownVerb
form_of_verb v verb (Some form) fields = if is_none (form_at form).kind_word then Ok form else form_of_kind v verb fields

-- the form of a line with that verb and these fields behind it
abbrev pub form_of : Version → List ℕ → List (List ℕ) → Result LineForm FormReason
form_of v verb fields = form_of_verb v verb (find (has_verb v verb) forms) fields

-- the version that a word names, or else this one
abbrev pub named_version : Version → List ℕ → Version
named_version v word = if is_word (codes "1") word then One else (if is_word (codes "2") word then Two else v)

-- a header is read in the version that it names, whatever the log has
abbrev pub version_in : Version → LineForm → List (List ℕ) → Version
version_in v form.Header (word ∷ rest) = named_version v word
version_in v _ _ = v

-- what the further fields of a form state in a version
abbrev pub event_in : Version → LineForm → List (List ℕ) → Result Event FormReason
event_in v form texts =
    made_of v (form_at form).kinds (form_at form).event texts >>= λ make. tail_of v (form_at form).tail (drop (length (form_at form).kinds) texts) >>= λ value. Ok (make value)

-- what the further fields of a form state in a log of this version
abbrev pub event_of : Version → LineForm → List (List ℕ) → Result Event FormReason
event_of v form texts = event_in (version_in v form texts) form texts

-- the words of a form with a value for each of its fields
abbrev pub words_of : Filled → List (List ℕ)
words_of it =
    (form_at it.form).verb
    ∷ (option_to_list (form_at it.form).kind_word ++ (all_written (form_at it.form).kinds it.values ++ tail_words (form_at it.form).tail it.tail))
