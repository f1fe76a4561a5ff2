-- Buffers that have the elements which are touched.
use Rattle.std.proofs.Common.{◌≡◌, ℕ, ◌≤◌, ◌*◌, List, Bool, true, false, not, nat_lt, option_to_list, Option, Some, None, IfSome, if◌then◌else◌, refl, ap, ◌∙◌, arith}
use Rattle.std.proofs.lemmas.Bool.{ltb-false, not-false, or_parts, false≢true}
use Rattle.rma_call.specs.declared.rma.RmaKind.{RmaKind}
use Rattle.rma_call.specs.declared.rma.RmaKind.TheVariants.{Put, Get, Accumulate, GetAccumulate, FetchAndOp, CompareAndSwap}
use Rattle.rma_datatype.specs.declared.operation.Op.{Op}
use Rattle.rma_type.specs.Table.{typemap_in}
use Rattle.rma_type.specs.declared.id.TypeId.{TypeId}
use Rattle.rma_typemap.specs.Bounds.{entry_count}
use Rattle.rma_typemap.specs.Typemap.{Typemap}
use Rattle.rma_buffer.specs.Operands.{entries_in}
use Rattle.rma_buffer.specs.Rules.{begins_with, differs, is_no_op, signature_of, touched_count}
use Rattle.rma_buffer.specs.declared.operand.Operand.{Operand}
use Rattle.rma_buffer.specs.declared.operand.Operands.{Operands}
use Rattle.rma_buffer.specs.inside.Layouts.{HasEnough, HaveEnough}
use Rattle.rma_buffer.specs.inside.Shape.{IsOne, IsShaped, IsSingle}
use Rattle.rma_buffer.proofs.Words.{list_any}
use Rattle.rma_buffer.proofs.BeginLemmas.{begins_long}
use Rattle.rma_buffer.proofs.OperandLemmas.{length_signature_of}

none_there : (P : Operand → Type 0) (o : Option Operand) → o ≡ None → IfSome o P
none_there P o e = rw e tt

-- the elements of a buffer begin with those of another, so it has as many at least
as_many : (maps : List Typemap) (whole part : Operand) → not (begins_with (signature_of maps whole) (signature_of maps part)) ≡ false → entries_in maps part ≤ entries_in maps whole
as_many maps whole part h =
    let long = begins_long (signature_of maps whole) (signature_of maps part) (not-false (begins_with (signature_of maps whole) (signature_of maps part)) h) in
    omega (arith, long, length_signature_of maps whole, length_signature_of maps part)

one_way : (maps : List Typemap) (kind : RmaKind) (it : Operands) → entries_in maps it.origin ≤ entries_in maps it.target → it.result ≡ None → it.compare ≡ None → HaveEnough maps kind (entries_in maps it.origin) it
one_way maps kind it h result compare = record {
  target = h;
  origin = λ used. omega arith;
  result = none_there (HasEnough maps _) it.result result;
  compare = none_there (HasEnough maps _) it.compare compare;
}

get_way : (maps : List Typemap) (kind : RmaKind) (it : Operands) → entries_in maps it.target ≤ entries_in maps it.origin → it.result ≡ None → it.compare ≡ None → HaveEnough maps kind (entries_in maps it.target) it
get_way maps kind it h result compare = record {
  target = omega arith;
  origin = λ used. h;
  result = none_there (HasEnough maps _) it.result result;
  compare = none_there (HasEnough maps _) it.compare compare;
}

no_fewer : (maps : List Typemap) (m : ℕ) (o : Option Operand) → list_any (λ one. nat_lt (entries_in maps one) m) (option_to_list o) ≡ false → IfSome o (HasEnough maps m)
no_fewer maps m None h = tt
no_fewer maps m (Some it) h = ltb-false (entries_in maps it) m (or_parts (nat_lt (entries_in maps it) m) false h).0

chosen : (t : Bool) (m n k : ℕ) → m ≡ (if t then n else k) → not t ≡ true → m ≤ k
chosen true m n k e h = absurd (false≢true h)
chosen false m n k e h = omega arith

both_ways : (maps : List Typemap) (op : Op) (it : Operands) → differs maps (GetAccumulate op) it ≡ false → it.compare ≡ None → HaveEnough maps (GetAccumulate op) (touched_count maps (GetAccumulate op) it) it
both_ways maps op it h compare =
    let m = touched_count maps (GetAccumulate op) it in
    let parts = or_parts (nat_lt (entries_in maps it.target) m) (list_any (λ one. nat_lt (entries_in maps one) m) (option_to_list it.result)) h in
    record {
      target = ltb-false (entries_in maps it.target) m parts.0;
      origin = λ used. chosen (is_no_op op) m (entries_in maps it.target) (entries_in maps it.origin) refl used;
      result = no_fewer maps m it.result parts.1;
      compare = none_there (HasEnough maps _) it.compare compare;
    }

-- ---- one element

one_entry : (maps : List Typemap) (id : TypeId) (it : Operand) → IsOne id it → entries_in maps it ≡ 1 * entry_count (typemap_in maps id)
one_entry maps id it h = ap (λ n. n * entry_count (typemap_in maps it.datatype)) h.1 ∙ ap (λ d. 1 * entry_count (typemap_in maps d)) h.0

one_if : (maps : List Typemap) (id : TypeId) (m : ℕ) (o : Option Operand) → m ≡ 1 * entry_count (typemap_in maps id) → IfSome o (IsOne id) → IfSome o (HasEnough maps m)
one_if maps id m None e h = tt
one_if maps id m (Some it) e h = omega (arith, one_entry maps id it h)

one_each : (maps : List Typemap) (kind : RmaKind) (it : Operands) → IsSingle it → HaveEnough maps kind (entries_in maps it.origin) it
one_each maps kind it h =
    let id = it.target.datatype in
    let many : entries_in maps it.origin ≡ 1 * entry_count (typemap_in maps id) = one_entry maps id it.origin h.1 in
    let same : entries_in maps it.target ≡ 1 * entry_count (typemap_in maps id) = one_entry maps id it.target h.0 in
    record {
      target = omega (arith, many, same);
      origin = λ used. omega arith;
      result = one_if maps id (entries_in maps it.origin) it.result many h.2;
      compare = one_if maps id (entries_in maps it.origin) it.compare many h.3;
    }

-- ---- each kind of call

pub have_enough : (maps : List Typemap) (kind : RmaKind) (it : Operands) → IsShaped kind it → differs maps kind it ≡ false → HaveEnough maps kind (touched_count maps kind it) it
have_enough maps Put it shaped h = one_way maps Put it (as_many maps it.target it.origin h) shaped.0 shaped.1
have_enough maps Get it shaped h = get_way maps Get it (as_many maps it.origin it.target h) shaped.0 shaped.1
have_enough maps (Accumulate op) it shaped h = one_way maps (Accumulate op) it (as_many maps it.target it.origin h) shaped.0 shaped.1
have_enough maps (GetAccumulate op) it shaped h = both_ways maps op it h shaped
have_enough maps (FetchAndOp op) it shaped h = one_each maps (FetchAndOp op) it shaped
have_enough maps CompareAndSwap it shaped h = one_each maps CompareAndSwap it shaped
