-- The fields of calls that access the part of a target, and of local accesses (docs/FORMAT.md).
use Rattle.std.specs.Prelude.{ℕ, List, [], ◌∷◌, Option}
use Rattle.rma_base.specs.declared.rank.Rank.{Rank}
use Rattle.rma_datatype.specs.declared.operation.Op.{Op}
use Rattle.rma_field.specs.Kinds.{Kind, name, number, target}
use Rattle.rma_form.specs.Fields.{Made, Values}
use Rattle.rma_form.specs.declared.event.Event.{Event}
use Rattle.rma_form.specs.declared.event.Event.TheVariants.{Local, Rma}
use Rattle.rma_call.specs.declared.local.LocalAccess.{LocalAccess}
use Rattle.rma_form.specs.declared.event.rma_line.Access.{Access}
use Rattle.rma_form.specs.declared.event.rma_line.Access.TheVariants.{GetAccumulate}
use Rattle.rma_form.specs.declared.event.rma_line.Buffer.{Buffer}
use Rattle.rma_form.specs.declared.event.rma_line.Transfer.{Transfer}

-- an address, a number of bytes, or a displacement
abbrev pub address : Kind
address = number 0 281474976710656

-- a number of elements
abbrev pub count : Kind
count = number 0 2147483647

-- a buffer of the caller: its address, its number of elements, and their datatype
abbrev pub buffer_kinds : List Kind
buffer_kinds = address ∷ count ∷ name ∷ []

-- a transfer: the window, the target, the displacement there, how many elements of which datatype there are, and the buffer
-- of the caller
abbrev pub transfer_kinds : List Kind
transfer_kinds = name ∷ target ∷ address ∷ count ∷ name ∷ address ∷ count ∷ name ∷ []

-- the same, and the buffer of the result
abbrev pub fetching_kinds : List Kind
fetching_kinds = name ∷ target ∷ address ∷ count ∷ name ∷ address ∷ count ∷ name ∷ address ∷ count ∷ name ∷ []

-- a buffer
abbrev pub buffer_of : ℕ → ℕ → List ℕ → Buffer
buffer_of at n datatype = record { address = at; count = n; datatype = datatype }

-- a transfer of so many elements of a datatype, and a buffer
abbrev pub transfer_of : ℕ → List ℕ → ℕ → ℕ → List ℕ → Transfer
transfer_of n there at m datatype = record { target_count = n; target_type = there; origin = buffer_of at m datatype }

-- a call on a window with a target, at a displacement there, and its request
abbrev pub rma : List ℕ → Option Rank → ℕ → Access → Option (List ℕ) → Event
rma window to place access request = Rma (record { window = window; target = to; displacement = place; access = access }) request

-- a call with a transfer, perhaps with a request
abbrev pub transferring : (Transfer → Access) → Option (List ℕ) → Made transfer_kinds (Unit {0} → Event)
transferring access request = λ window to place n there at m datatype _. rma window to place (access (transfer_of n there at m datatype)) request

-- the same with a result
abbrev pub fetching : Op → Option (List ℕ) → Made fetching_kinds (Unit {0} → Event)
fetching op request = λ window to place n there at m datatype into k of _.
    rma window to place (GetAccumulate op (transfer_of n there at m datatype) (buffer_of into k of)) request

-- a local access
abbrev pub accessing : LocalAccess → Made buffer_kinds (Unit {0} → Event)
accessing access = λ at n datatype _. Local (record { access = access; buffer = buffer_of at n datatype })

-- the values of a buffer, of a transfer, and of a transfer with a result
abbrev pub buffer_values : Buffer → Values buffer_kinds
buffer_values it = (it.address, (it.count, (it.datatype, tt)))

abbrev pub transfer_values : List ℕ → Option Rank → ℕ → Transfer → Values transfer_kinds
transfer_values window to place it =
    (window, (to, (place, (it.target_count, (it.target_type, buffer_values it.origin)))))

abbrev pub fetching_values : List ℕ → Option Rank → ℕ → Transfer → Buffer → Values fetching_kinds
fetching_values window to place it into =
    (window, (to, (place, (it.target_count, (it.target_type, (it.origin.address, (it.origin.count, (it.origin.datatype, buffer_values into))))))))
