-- The steps in which a constructor's datatype is written.
use Rattle.std.specs.Prelude.{◌≡◌, ◌<◌, ℕ, zero, suc, ◌-◌, ℤ, pos, ◌+ℤ◌, ◌*ℤ◌, List, [], ◌∷◌, ◌++◌, map, fold, Option, Some, None, Bool, if◌then◌else◌, int_lt, slice_get}
use Rattle.std.specs.List.{list_all}
use Rattle.rma_datatype.specs.declared.make.Block.{Block}
use Rattle.rma_datatype.specs.declared.make.ByteBlock.{ByteBlock}
use Rattle.rma_datatype.specs.declared.make.Dimension.{Dimension}
use Rattle.rma_datatype.specs.declared.make.Member.{Member}
use Rattle.rma_datatype.specs.declared.make.Order.{Order}
use Rattle.rma_datatype.specs.declared.make.Make.{Make}
use Rattle.rma_datatype.specs.declared.make.Make.TheVariants.{Contiguous, Vector, Hvector, Indexed, Hindexed, IndexedBlock, Struct, Resized, Subarray}
use Rattle.rma_typemap.specs.Typemap.{Typemap}
use Rattle.rma_typemap.specs.Bounds.{extent}
use Rattle.rma_typemap.specs.Constructors.{times, whole, slowest_first}
use Rattle.rma_type.specs.declared.id.TypeId.{TypeId}
use Rattle.rma_type.specs.declared.origin.Origin.{Origin}
use Rattle.rma_type.specs.declared.origin.Origin.TheVariants.{Basic, Derived}
use Rattle.rma_type.specs.Table.{typemap_in, typemaps}
use Rattle.rma_layout.specs.declared.step.Step.{Step}
use Rattle.rma_layout.specs.declared.step.Step.TheVariants.{Copies, Again}
use Rattle.rma_layout.specs.inside.Bytes.{copies, typemap_bytes}

-- ---- what steps write

-- copies of an old datatype, from a displacement on
abbrev pub row_bytes : List Typemap → TypeId → ℕ → ℤ → List ℤ
row_bytes maps old count at = copies count at (extent (typemap_in maps old)) (typemap_bytes (typemap_in maps old))

-- what a step writes of a datatype displaced by `by`, after what is seen
abbrev pub step_bytes : List Typemap → ℤ → List ℤ → Step → List ℤ
step_bytes maps by seen (Copies row) = row_bytes maps row.old row.count (by +ℤ row.at)
step_bytes maps by seen (Again count stride) = copies count stride stride seen

abbrev pub after_step : List Typemap → ℤ → List ℤ → Step → List ℤ
after_step maps by seen step = seen ++ step_bytes maps by seen step

unfoldable pub after_steps : List Typemap → ℤ → List ℤ → List Step → List ℤ
after_steps maps by seen steps = fold (after_step maps by) seen steps

-- ---- the steps of the constructors

abbrev pub a_row : TypeId → ℕ → ℤ → Step
a_row old count at = Copies (record { old = old; count = count; at = at })

-- copies in a row, where there are rows, and such rows a stride apart
abbrev pub rows : ℕ → TypeId → ℕ → ℤ → List Step
rows zero old len stride = a_row old 0 (pos 0) ∷ Again 0 stride ∷ []
rows (suc n) old len stride = a_row old len (pos 0) ∷ Again n stride ∷ []

-- whether the part of an array has an element
abbrev pub has_part : List Dimension → Bool
has_part ds = list_all (λ d. int_lt (pos 0) d.part) ds

-- where the first element of the part of an array lies, with the slowest dimension first
abbrev pub start_of_part : ℤ → List Dimension → ℤ
start_of_part e [] = pos 0
start_of_part e (d ∷ ds) = d.start *ℤ (whole ds *ℤ e) +ℤ start_of_part e ds

-- the copies along each dimension, the fastest first
abbrev pub copies_along : ℤ → List Dimension → List Step
copies_along e [] = []
copies_along e (d ∷ ds) = copies_along e ds ++ Again (times d.part - 1) (whole ds *ℤ e) ∷ []

-- one element of the part of an array, where it has one, and its copies along each dimension
abbrev pub part_steps : Order → List Dimension → TypeId → ℤ → List Step
part_steps order ds old e = a_row old (if has_part ds then 1 else 0) (start_of_part e (slowest_first order ds)) ∷ copies_along e (slowest_first order ds)

abbrev pub single_steps : Make → TypeId → ℤ → List Step
single_steps (Contiguous count name) old e = a_row old (times count) (pos 0) ∷ []
single_steps (Vector count len stride name) old e = rows (times count) old (times len) (stride *ℤ e)
single_steps (Hvector count len stride name) old e = rows (times count) old (times len) stride
single_steps (Indexed name blocks) old e = map (λ (b : Block). a_row old (times b.length) (b.displacement *ℤ e)) blocks
single_steps (Hindexed name blocks) old e = map (λ (b : ByteBlock). a_row old (times b.length) b.displacement) blocks
single_steps (IndexedBlock len name ats) old e = map (λ (at : ℤ). a_row old (times len) (at *ℤ e)) ats
single_steps (Struct members) old e = []
single_steps (Resized name low extent) old e = a_row old 1 (pos 0) ∷ []
single_steps (Subarray order name ds) old e = part_steps order ds old e

abbrev pub member_steps : List Member → List TypeId → List Step
member_steps [] olds = []
member_steps (m ∷ ms) [] = []
member_steps (m ∷ ms) (old ∷ olds) = a_row old (times m.length) m.displacement ∷ member_steps ms olds

-- the steps over one old datatype
abbrev pub steps_over : List Typemap → Make → List TypeId → List Step
steps_over maps constructor [] = []
steps_over maps constructor (old ∷ olds) = single_steps constructor old (extent (typemap_in maps old))

abbrev pub steps_by : List Typemap → Make → List TypeId → List Step
steps_by maps (Struct members) olds = member_steps members olds
steps_by maps other olds = steps_over maps other olds

-- the steps of a datatype of a table
abbrev pub steps_of : List Typemap → Option Origin → List Step
steps_of maps None = []
steps_of maps (Some (Basic basic)) = []
steps_of maps (Some (Derived constructor olds)) = steps_by maps constructor olds

unfoldable pub steps_in : List Origin → TypeId → List Step
steps_in origins id = steps_of (typemaps origins) (slice_get origins id.0)

-- the members made a datatype
abbrev pub IsStructOf : List Member → Option Origin → Type 0
IsStructOf members None = ⊥
IsStructOf members (Some (Basic basic)) = ⊥
IsStructOf members (Some (Derived constructor olds)) = constructor ≡ Struct members

-- the old datatype of a row is this one
abbrev pub IsStepOver : TypeId → Option Step → Type 0
IsStepOver old None = Unit {0}
IsStepOver old (Some (Copies row)) = row.old ≡ old
IsStepOver old (Some (Again count stride)) = Unit {0}

-- the old datatype of a row has a lesser number
abbrev pub IsStepBefore : ℕ → Option Step → Type 0
IsStepBefore n None = Unit {0}
IsStepBefore n (Some (Copies row)) = row.old.0 < n
IsStepBefore n (Some (Again count stride)) = Unit {0}
