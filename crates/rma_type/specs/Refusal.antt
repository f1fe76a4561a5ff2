-- Why a table refuses a constructor: the first of six rules that holds (MPI 4.0, "Datatypes").
use Rattle.std.specs.Prelude.{◌≡◌, ℕ, ℤ, pos, int_lt, List, map, Option, Some, None, Bool, true, false, not, ◌||◌, is_some, nat_lt}
use Rattle.std.specs.List.{list_all, list_any}
use Rattle.rma_base.specs.Limits.{element_limit, address_limit}
use Rattle.rma_datatype.specs.declared.make.Make.{Make}
use Rattle.rma_datatype.specs.declared.make.Make.TheVariants.{Contiguous, Vector, Hvector, Indexed, Hindexed, IndexedBlock, Struct, Resized, Subarray}
use Rattle.rma_type.specs.declared.fault.TypeFault.{TypeFault}
use Rattle.rma_type.specs.declared.fault.TypeFault.TheVariants.{UnknownType, NameInUse, NegativeCount, BadSubarray, TooManyElements, OutOfSpace}
use Rattle.rma_type.specs.declared.fault.TypeError.{TypeError}
use Rattle.rma_type.specs.declared.fault.TypeError.TheVariants.{Fault, Memory}
use Rattle.rma_typemap.specs.Typemap.{Typemap}
use Rattle.rma_typemap.specs.Bounds.{entry_count}
use Rattle.rma_typemap.specs.Constructors.{constructed}
use Rattle.rma_typemap.specs.Array.{is_part, cuts_of, whole_of_cuts}
use Rattle.rma_typemap.specs.Space.{is_all_in_space}
use Rattle.rma_type.specs.Names.{id_of, old_names, old_types_of, all_live}
use Rattle.rma_type.specs.Table.{Table, typemap_in, typemaps}

abbrev pub is_negative : ℤ → Bool
is_negative x = int_lt x (pos 0)

-- whether a count or a block length is negative
abbrev pub has_negative : Make → Bool
has_negative (Contiguous count old) = is_negative count
has_negative (Vector count len stride old) = is_negative count || is_negative len
has_negative (Hvector count len stride old) = is_negative count || is_negative len
has_negative (Indexed old blocks) = list_any (λ b. is_negative b.length) blocks
has_negative (Hindexed old blocks) = list_any (λ b. is_negative b.length) blocks
has_negative (IndexedBlock len old displacements) = is_negative len
has_negative (Struct members) = list_any (λ m. is_negative m.length) members
has_negative (Resized old low extent) = false
has_negative (Subarray order old dimensions) = false

-- whether a part does not lie in its array
abbrev pub breaks_array : Make → Bool
breaks_array (Subarray order old dimensions) = not (list_all is_part dimensions)
breaks_array _ = false

-- whether an array has more elements than there are addresses
abbrev pub has_large_array : Make → Bool
has_large_array (Subarray order old dimensions) = nat_lt address_limit (whole_of_cuts (cuts_of order dimensions))
has_large_array _ = false

-- the first of the refusals whose rule holds
abbrev pub first_fault : Bool → Bool → Bool → Bool → Bool → Bool → Option TypeFault
first_fault true in_use negative bad many out = Some UnknownType
first_fault false true negative bad many out = Some NameInUse
first_fault false false true bad many out = Some NegativeCount
first_fault false false false true many out = Some BadSubarray
first_fault false false false false true out = Some TooManyElements
first_fault false false false false false true = Some OutOfSpace
first_fault false false false false false false = None

-- the typemap that a constructor makes in a table
unfoldable pub new_typemap : Table → Make → Typemap
new_typemap table constructor = constructed constructor (map (typemap_in (typemaps table.origins)) (old_types_of table.live (old_names constructor)))

-- why a table refuses a constructor, if it does
unfoldable pub refusal : Table → List ℕ → Make → Option TypeFault
refusal table name constructor =
    first_fault
    (not (all_live table.live (old_names constructor)))
    (is_some (id_of table.live name))
    (has_negative constructor)
    (breaks_array constructor)
    (nat_lt element_limit (entry_count (new_typemap table constructor)))
    (not (is_all_in_space (new_typemap table constructor)) || has_large_array constructor)

-- memory ran out, or the error is the fault for which the table refuses
abbrev pub IsErrorOf : Option TypeFault → TypeError → Type 0
IsErrorOf refusal Memory = Unit {0}
IsErrorOf refusal (Fault fault) = refusal ≡ Some fault
