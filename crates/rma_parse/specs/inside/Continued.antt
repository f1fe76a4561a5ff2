-- Some fields of a line, and what the rest of the line makes of their values.
use Rattle.std.specs.Prelude.{◌≡◌, ℕ, ◌+◌, List, Option, Some, Result, Ok, Err}
use Rattle.std.specs.Borrow.{Bor}
use Rattle.rma_base.specs.declared.form_reason.FormReason.{FormReason}
use Rattle.rma_base.specs.declared.rank.Rank.{Rank}
use Rattle.rma_base.specs.declared.version.Version.{Version}
use Rattle.rma_datatype.specs.declared.operation.Op.{Op}
use Rattle.rma_field.specs.declared.parse_error.ParseError.{ParseError}
use Rattle.rma_field.specs.Kinds.{name_of, target_of}
use Rattle.rma_field.specs.Numbers.{natural}
use Rattle.rma_field.specs.Steps.{◌>>=◌, Fails}
use Rattle.rma_form.specs.Accesses.{buffer_of, rma, transfer_of}
use Rattle.rma_form.specs.declared.event.Event.{Event}
use Rattle.rma_form.specs.declared.event.Event.TheVariants.{Local}
use Rattle.rma_call.specs.declared.local.LocalAccess.{LocalAccess}
use Rattle.rma_form.specs.declared.event.rma_line.Access.{Access}
use Rattle.rma_form.specs.declared.event.rma_line.Access.TheVariants.{Put, Get, Accumulate, GetAccumulate}
use Rattle.rma_form.specs.declared.event.rma_line.Buffer.{Buffer}
use Rattle.rma_form.specs.declared.event.rma_line.Transfer.{Transfer}
use Rattle.rma_parse.specs.declared.form.rma.Aimed.{Aimed}
use Rattle.rma_parse.specs.declared.form.rma.Movement.{Movement}
use Rattle.rma_parse.specs.declared.form.rma.Movement.TheVariants as movement
use Rattle.rma_form.specs.inside.Places.{text_at}

-- what is read goes on with the value that was answered, or fails as the answer says
abbrev pub GoesOn : {A B : Type 0} → Result A ParseError → Result B FormReason → (A → Result B FormReason) → Type 0
GoesOn (Ok value) read next = read ≡ next value
GoesOn (Err error) read next = Fails error read

-- an event, where nothing stands behind the fields that make it
abbrev pub closed_event : Result (Unit {0} → Event) FormReason → Result Event FormReason
closed_event made = made >>= λ make. Ok (make tt)

-- what is made of a buffer whose fields begin at a place
abbrev pub buffer_then : {A : Type 0} → List (Bor (List ℕ)) → ℕ → (Buffer → Result A FormReason) → Result A FormReason
buffer_then fields from next =
    natural 0 281474976710656 (text_at fields from) >>= λ at.
    natural 0 2147483647 (text_at fields (from + 1)) >>= λ n.
    name_of (text_at fields (from + 2)) >>= λ datatype.
    next (buffer_of at n datatype)

-- what is made of a transfer whose fields begin at a place
abbrev pub transfer_then : {A : Type 0} → Version → List (Bor (List ℕ)) → ℕ → (List ℕ → Option Rank → ℕ → Transfer → Result A FormReason) → Result A FormReason
transfer_then v fields from next =
    name_of (text_at fields from) >>= λ window.
    target_of v (text_at fields (from + 1)) >>= λ to.
    natural 0 281474976710656 (text_at fields (from + 2)) >>= λ place.
    natural 0 2147483647 (text_at fields (from + 3)) >>= λ n.
    name_of (text_at fields (from + 4)) >>= λ there.
    natural 0 281474976710656 (text_at fields (from + 5)) >>= λ at.
    natural 0 2147483647 (text_at fields (from + 6)) >>= λ m.
    name_of (text_at fields (from + 7)) >>= λ datatype.
    next window to place (transfer_of n there at m datatype)

-- the buffer whose fields begin at a place was read: whatever the line makes of it, it makes of this one
abbrev pub IsBufferAt : List (Bor (List ℕ)) → ℕ → Result Buffer ParseError → Type 0
IsBufferAt fields from result = (more : Buffer → Result (Unit {0} → Event) FormReason) (next : (Unit {0} → Event) → Result Event FormReason)
    → GoesOn result (buffer_then fields from more >>= next) (λ it. more it >>= next)

-- the same of a transfer
abbrev pub IsTransferAt : Version → List (Bor (List ℕ)) → ℕ → Result Aimed ParseError → Type 0
IsTransferAt v fields from result = (more : List ℕ → Option Rank → ℕ → Transfer → Result (Unit {0} → Event) FormReason) (next : (Unit {0} → Event) → Result Event FormReason)
    → GoesOn result (transfer_then v fields from more >>= next) (λ it. more it.window it.target it.displacement it.transfer >>= next)

-- what a transfer does
abbrev pub access_of : Movement → Transfer → Access
access_of movement.Put it = Put it
access_of movement.Get it = Get it
access_of (movement.Accumulate op) it = Accumulate op it

-- a call with a transfer whose fields begin at a place
abbrev pub transfer_event : Version → Movement → Option (List ℕ) → List (Bor (List ℕ)) → ℕ → Result (Unit {0} → Event) FormReason
transfer_event v how request fields from = transfer_then v fields from (λ window to place it. Ok (λ _. rma window to place (access_of how it) request))

-- the same with a request in front
abbrev pub requested_event : Version → Movement → List (Bor (List ℕ)) → Result (Unit {0} → Event) FormReason
requested_event v how fields = name_of (text_at fields 0) >>= λ request. transfer_event v how (Some request) fields 1

-- a call with a transfer whose fields begin at a place, and a result
abbrev pub fetching_event : Version → Op → Option (List ℕ) → List (Bor (List ℕ)) → ℕ → Result (Unit {0} → Event) FormReason
fetching_event v op request fields from =
    transfer_then v fields from (λ window to place it. buffer_then fields (from + 8) (λ into. Ok (λ _. rma window to place (GetAccumulate op it into) request)))

-- a local access
abbrev pub local_event : LocalAccess → List (Bor (List ℕ)) → Result (Unit {0} → Event) FormReason
local_event access fields = buffer_then fields 0 (λ buffer. Ok (λ _. Local (record { access = access; buffer = buffer })))
