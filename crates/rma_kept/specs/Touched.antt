-- The bytes that the calls of a rank touch (MPI 4.0, "One-Sided Communications").
use Rattle.std.specs.Prelude.{◌≡◌, ℕ, ◌*◌, ℤ, pos, neg_ℤ, ◌≤ℤ◌, Bool, true, false, List, [], ◌∷◌, ◌++◌, Some, option_to_list, All}
use Rattle.rma_base.specs.Limits.{address_limit}
use Rattle.rma_bytes.specs.Layout.{Layout}
use Rattle.rma_bytes.specs.Runs.{IsCanonical, end_of}
use Rattle.rma_bytes.specs.declared.run.Run.{Run}
use Rattle.rma_call.specs.declared.rma.RmaCall.{RmaCall}
use Rattle.rma_call.specs.declared.rma.RmaKind.{RmaKind}
use Rattle.rma_call.specs.declared.rma.RmaKind.TheVariants.{Put, Get}
use Rattle.rma_call.specs.declared.what.What.{What}
use Rattle.rma_call.specs.declared.what.What.TheVariants as what
use Rattle.rma_datatype.specs.Basic.{basic_size}
use Rattle.rma_datatype.specs.declared.basic.Basic.{Basic}

-- the layouts of the buffers of an access at its origin
abbrev pub own_layouts : RmaCall → List Layout
own_layouts access = option_to_list access.origin ++ (option_to_list access.result ++ option_to_list access.compare)

-- the layouts of memory of the rank itself that it touches
abbrev pub buffers_of : What → List Layout
buffers_of (what.Sync call) = []
buffers_of (what.Rma access) = own_layouts access
buffers_of (what.Local access) = access.layout ∷ []

-- the runs of the layout are in canonical form: they ascend, apart from one another, none is empty, and all lie within the bounds
abbrev pub HasCanonicalRuns : Layout → Type 0
HasCanonicalRuns layout = IsCanonical layout.runs

-- the bytes of the run lie between two addresses
abbrev pub LiesIn : ℤ → ℤ → Run → Type 0
LiesIn low high run = (low ≤ℤ run.start) × (end_of run ≤ℤ high)

-- the bytes of a buffer lie in the space of addresses
abbrev pub IsInSpace : Layout → Type 0
IsInSpace layout = All (LiesIn (pos 0) (pos address_limit)) layout.runs

-- the bytes at a target, counted from where the access starts, are no farther from there than the space has addresses
abbrev pub IsNearStart : Layout → Type 0
IsNearStart layout = All (LiesIn (neg_ℤ (pos address_limit)) (pos address_limit)) layout.runs

-- whether the access writes at the target
abbrev pub writes_target : RmaKind → Bool
writes_target Get = false
writes_target _ = true

-- whether the access is an accumulate
abbrev pub is_accumulate : RmaKind → Bool
is_accumulate Put = false
is_accumulate Get = false
is_accumulate _ = true

-- so many bytes are a whole number of elements of this size
abbrev pub IsMultipleOf : ℕ → ℕ → Type 0
IsMultipleOf size length = (count : ℕ) × (length ≡ count * size)

-- the elements have this one basic datatype, and fill each run
abbrev pub IsFilledBy : Basic → Layout → Type 0
IsFilledBy basic layout = (layout.element ≡ Some basic) × All (λ run. IsMultipleOf (basic_size basic) run.len) layout.runs
