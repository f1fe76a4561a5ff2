-- Why a buffer has no layout: the first of three rules that holds.
use Rattle.std.specs.Prelude.{◌≡◌, ℕ, ℤ, pos, neg_ℤ, int_le, List, Option, Some, None, Bool, true, false, not, ◌&&◌, nat_lt}
use Rattle.std.specs.List.{list_all}
use Rattle.rma_base.specs.Limits.{element_limit, block_limit, address_limit}
use Rattle.rma_datatype.specs.declared.basic.Basic.{Basic}
use Rattle.rma_typemap.specs.Typemap.{start_of, end_of, block_count}
use Rattle.rma_layout.specs.declared.fault.LayoutFault.{LayoutFault}
use Rattle.rma_layout.specs.declared.fault.LayoutFault.TheVariants.{TooManyElements, TooManyBlocks, OutOfSpace}
use Rattle.rma_layout.specs.declared.fault.LayoutError.{LayoutError}
use Rattle.rma_layout.specs.declared.fault.LayoutError.TheVariants.{Fault, Memory}
use Rattle.rma_layout.specs.declared.space.Space.{Space}
use Rattle.rma_layout.specs.declared.space.Space.TheVariants.{Local, Target}

-- the least address of a space
abbrev pub lowest : Space → ℤ
lowest Local = pos 0
lowest Target = neg_ℤ (pos address_limit)

-- whether the bytes from one address to another lie in a space
abbrev pub is_between : Space → ℤ → ℤ → Bool
is_between space start end = int_le (lowest space) start && int_le end (pos address_limit)

-- whether the bytes of all elements lie in a space
unfoldable pub is_all_in : Space → List (Basic × ℤ) → Bool
is_all_in space es = list_all (λ e. is_between space (start_of e) (end_of e)) es

-- the first of the refusals whose rule holds
abbrev pub first_fault : Bool → Bool → Bool → Option LayoutFault
first_fault true blocks out = Some TooManyElements
first_fault false true out = Some TooManyBlocks
first_fault false false true = Some OutOfSpace
first_fault false false false = None

-- why touched elements, so many of them, are refused, if they are; blocks are counted in the order of the elements
unfoldable pub refusal : Space → List (Basic × ℤ) → ℕ → Option LayoutFault
refusal space es entries = first_fault (nat_lt element_limit entries) (nat_lt block_limit (block_count es)) (not (is_all_in space es))

-- memory ran out, or the error is the fault for which a buffer is refused
abbrev pub IsErrorOf : Option LayoutFault → LayoutError → Type 0
IsErrorOf refusal Memory = Unit {0}
IsErrorOf refusal (Fault fault) = refusal ≡ Some fault
