-- Why the buffers of a call are bad: the first of seven rules that holds (MPI 4.0, "One-Sided Communications").
use Rattle.std.specs.Prelude.{◌≡◌, ℕ, ℤ, pos, nat_lt, List, [], ◌∷◌, ◌++◌, slice_get, flat_map, Bool, true, false, not, ◌&&◌, ◌||◌, Option, Some, None, is_none, option_to_list, option_map, unwrap_or, if◌then◌else◌}
use Rattle.std.specs.List.{list_all, list_any}
use Rattle.rma_base.specs.Limits.{element_limit, block_limit}
use Rattle.rma_base.specs.declared.form_reason.FormReason.{FormReason}
use Rattle.rma_base.specs.declared.form_reason.FormReason.TheVariants as reason
use Rattle.rma_base.specs.declared.rank.Rank.{Rank}
use Rattle.rma_datatype.specs.declared.basic.Basic.{Basic}
use Rattle.rma_datatype.specs.declared.operation.Op.{Op}
use Rattle.rma_datatype.specs.declared.operation.Op.TheVariants.{NoOp}
use Rattle.rma_datatype.specs.Basic.{basic_class}
use Rattle.rma_datatype.specs.Operation.{op_allows, is_comparable}
use Rattle.rma_call.specs.declared.rma.RmaKind.{RmaKind}
use Rattle.rma_call.specs.declared.rma.RmaKind.TheVariants.{Put, Get, Accumulate, GetAccumulate, FetchAndOp, CompareAndSwap}
use Rattle.rma_type.specs.declared.origin.Origin.{Origin}
use Rattle.rma_type.specs.declared.origin.Origin.TheVariants as origin
use Rattle.rma_type.specs.Table.{typemap_in, typemaps}
use Rattle.rma_typemap.specs.Typemap.{Typemap, block_count}
use Rattle.rma_typemap.specs.Bounds.{signature}
use Rattle.rma_typemap.specs.Signature.{copies}
use Rattle.rma_layout.specs.declared.fault.LayoutFault.{LayoutFault}
use Rattle.rma_layout.specs.declared.fault.LayoutFault.TheVariants as layout
use Rattle.rma_layout.specs.declared.space.Space.TheVariants.{Local, Target}
use Rattle.rma_layout.specs.Refusal.{is_all_in, refusal}
use Rattle.rma_layout.specs.Touched.{touched}
use Rattle.rma_buffer.specs.declared.fault.BufferError.{BufferError}
use Rattle.rma_buffer.specs.declared.fault.BufferError.TheVariants.{Fault, Memory}
use Rattle.rma_buffer.specs.declared.operand.Operand.{Operand}
use Rattle.rma_buffer.specs.declared.operand.Operands.{Operands}
use Rattle.rma_buffer.specs.Layouts.{is_same, shares_byte}
use Rattle.rma_buffer.specs.Operands.{entries_in}

-- ---- datatypes that are committed

-- the datatype of a buffer is committed
abbrev pub is_committed : List Bool → Operand → Bool
is_committed committed it = unwrap_or (slice_get committed it.datatype.0) false

-- those of all buffers are
abbrev pub are_committed : List Bool → Operands → Bool
are_committed committed it =
    is_committed committed it.target && (is_committed committed it.origin
    && (list_all (is_committed committed) (option_to_list it.result) && list_all (is_committed committed) (option_to_list it.compare)))

-- ---- operations

-- the operation leaves what stands at the target
abbrev pub is_no_op : Op → Bool
is_no_op NoOp = true
is_no_op _ = false

-- the call reads its origin, or writes it: an operation that leaves what stands at the target does not
abbrev pub uses_origin : RmaKind → Bool
uses_origin (Accumulate op) = not (is_no_op op)
uses_origin (GetAccumulate op) = not (is_no_op op)
uses_origin (FetchAndOp op) = not (is_no_op op)
uses_origin _ = true

-- the basic datatypes of the elements of a datatype
abbrev pub basics_in : List Typemap → Operand → List Basic
basics_in maps it = signature (typemap_in maps it.datatype)

-- all are one, for which the operation is allowed
abbrev pub is_allowed : Op → List Basic → Bool
is_allowed op [] = true
is_allowed op (basic ∷ basics) = op_allows op (basic_class basic) && list_all (is_same basic) basics

-- the basic datatype, where it is one
abbrev pub basic_in : Option Origin → Option Basic
basic_in None = None
basic_in (Some (origin.Basic basic)) = Some basic
basic_in (Some (origin.Derived constructor old_types)) = None

-- the datatype of a buffer is a basic one, for which this holds
abbrev pub is_basic_that : (Basic → Bool) → List Origin → Operand → Bool
is_basic_that holds origins it = list_any holds (option_to_list (basic_in (slice_get origins it.datatype.0)))

-- the basic datatypes of the elements of the datatypes that an operation combines, whatever their counts
abbrev pub combined : List Origin → Op → Operands → List Basic
combined origins op it =
    let basics = λ (one : Operand). basics_in (typemaps origins) one in
    basics it.target ++ ((if is_no_op op then [] else basics it.origin) ++ flat_map basics (option_to_list it.result))

-- what the operation is not allowed for: datatypes of several basic ones, or of one for which it is not defined
abbrev pub is_refused : List Origin → RmaKind → Operands → Bool
is_refused origins Put it = false
is_refused origins Get it = false
is_refused origins (Accumulate op) it = is_no_op op || not (is_allowed op (combined origins op it))
is_refused origins (GetAccumulate op) it = not (is_allowed op (combined origins op it))
is_refused origins (FetchAndOp op) it = not (is_basic_that (λ basic. op_allows op (basic_class basic)) origins it.target)
is_refused origins CompareAndSwap it = not (is_basic_that (λ basic. is_comparable (basic_class basic)) origins it.target)

-- ---- elements that are touched

-- how many elements are touched in each buffer: as many as the one has whose elements move
abbrev pub touched_count : List Typemap → RmaKind → Operands → ℕ
touched_count maps Get it = entries_in maps it.target
touched_count maps (GetAccumulate op) it = if is_no_op op then entries_in maps it.target else entries_in maps it.origin
touched_count maps _ it = entries_in maps it.origin

-- a list of basic datatypes begins with another
abbrev pub begins_with : List Basic → List Basic → Bool
begins_with whole [] = true
begins_with [] (basic ∷ basics) = false
begins_with (first ∷ whole) (basic ∷ basics) = is_same first basic && begins_with whole basics

-- the basic datatypes of the elements of a buffer
abbrev pub signature_of : List Typemap → Operand → List Basic
signature_of maps it = copies it.count (basics_in maps it)

-- the elements that move do not fit those of a buffer, or are more
abbrev pub differs : List Typemap → RmaKind → Operands → Bool
differs maps Put it = not (begins_with (signature_of maps it.target) (signature_of maps it.origin))
differs maps Get it = not (begins_with (signature_of maps it.origin) (signature_of maps it.target))
differs maps (Accumulate op) it = not (begins_with (signature_of maps it.target) (signature_of maps it.origin))
differs maps (GetAccumulate op) it =
    let m = touched_count maps (GetAccumulate op) it in
    nat_lt (entries_in maps it.target) m || list_any (λ result. nat_lt (entries_in maps result) m) (option_to_list it.result)
differs maps (FetchAndOp op) it = false
differs maps CompareAndSwap it = false

-- ---- bytes that are touched

-- the first elements of a buffer
abbrev pub touched_in : List Typemap → ℕ → Operand → List (Basic × ℤ)
touched_in maps m it = touched (typemap_in maps it.datatype) it.count (pos it.address) m

-- the buffers of the caller that are touched
abbrev pub callers : RmaKind → Operands → List Operand
callers kind it = (if uses_origin kind then it.origin ∷ [] else []) ++ (option_to_list it.result ++ option_to_list it.compare)

-- the touched elements of a buffer form too many blocks
abbrev pub has_many_blocks : List (Basic × ℤ) → Bool
has_many_blocks es = nat_lt block_limit (block_count es)

abbrev pub have_many_blocks : List Typemap → RmaKind → ℕ → Operands → Bool
have_many_blocks maps kind m it =
    has_many_blocks (touched_in maps m it.target) || list_any (λ one. has_many_blocks (touched_in maps m one)) (callers kind it)

-- a byte of a buffer lies outside the space of addresses
abbrev pub leave_space : List Typemap → RmaKind → ℕ → Operands → Bool
leave_space maps kind m it =
    not (is_all_in Target (touched_in maps m it.target)) || list_any (λ one. not (is_all_in Local (touched_in maps m one))) (callers kind it)

-- the buffer in which elements are put: of a get the origin, else that at the target
abbrev pub written : RmaKind → Operands → Operand
written Get it = it.origin
written _ it = it.target

-- two elements of a buffer that is written share a byte
abbrev pub overlap : List Typemap → RmaKind → ℕ → Operands → Bool
overlap maps kind m it = shares_byte (touched_in maps m (written kind it)) || list_any (λ result. shares_byte (touched_in maps m result)) (option_to_list it.result)

-- ---- the reasons

-- the first of the reasons that holds
abbrev pub first_that_holds : List (FormReason × Bool) → Option FormReason
first_that_holds [] = None
first_that_holds ((reason, holds) ∷ later) = if holds then Some reason else first_that_holds later

-- why the buffers of a call with a target are bad, if they are
abbrev pub reason_at_target : List Origin → RmaKind → Operands → Option FormReason
reason_at_target origins kind it =
    let maps = typemaps origins in
    let m = touched_count maps kind it in
    first_that_holds (
    (reason.OperationNotAllowed, is_refused origins kind it)
    ∷ (reason.TooManyElements, nat_lt element_limit m)
    ∷ (reason.SignatureDiffers, differs maps kind it)
    ∷ (reason.TooManyBlocks, have_many_blocks maps kind m it)
    ∷ (reason.OutOfSpace, leave_space maps kind m it)
    ∷ (reason.OverlappingType, overlap maps kind m it)
    ∷ [])

-- why the buffers of a call are bad, if they are; one without a target touches nothing, and only has committed datatypes
unfoldable pub buffers_reason : List Origin → List Bool → RmaKind → Option Rank → Operands → Option FormReason
buffers_reason origins committed kind target it =
    if not (are_committed committed it) then Some reason.NotCommitted
    else (if is_none target then None else reason_at_target origins kind it)

-- the reason that stands for the refusal of a layout
abbrev pub layout_reason : LayoutFault → FormReason
layout_reason layout.TooManyElements = reason.TooManyElements
layout_reason layout.TooManyBlocks = reason.TooManyBlocks
layout_reason layout.OutOfSpace = reason.OutOfSpace

-- why the memory of a local access is bad, if it is: all its elements are touched
unfoldable pub memory_reason : List Origin → Operand → Option FormReason
memory_reason origins it =
    let maps = typemaps origins in
    option_map layout_reason (refusal Local (touched_in maps (entries_in maps it) it) (entries_in maps it))

-- memory ran out, or the error is the reason for which buffers are bad
abbrev pub IsErrorOf : Option FormReason → BufferError → Type 0
IsErrorOf reason Memory = Unit {0}
IsErrorOf reason (Fault fault) = reason ≡ Some fault
