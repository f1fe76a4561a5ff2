-- The same access elsewhere: of another target, at another displacement, with buffers at other addresses (MPI 4.0,
-- "One-Sided Communications").
use Rattle.std.specs.Prelude.{ℕ, List, [], ◌∷◌, Some}
use Rattle.rma_form.specs.declared.event.rma_line.Access.{Access}
use Rattle.rma_form.specs.declared.event.rma_line.Access.TheVariants.{Put, Get, Accumulate, GetAccumulate, FetchAndOp, CompareAndSwap}
use Rattle.rma_form.specs.declared.event.rma_line.Buffer.{Buffer}
use Rattle.rma_form.specs.declared.event.rma_line.RmaLine.{RmaLine}
use Rattle.rma_form.specs.declared.event.rma_line.Transfer.{Transfer}
use Rattle.rma_form.specs.declared.event.local_line.LocalLine.{LocalLine}

-- a buffer at another address
abbrev pub buffer_at : Buffer → ℕ → Buffer
buffer_at it address = record it { address = address }

-- a transfer whose buffer is at another address
abbrev pub transfer_at : Transfer → ℕ → Transfer
transfer_at it address = record it { origin = buffer_at it.origin address }

-- what is done, with buffers at these addresses, in the order of the line; the same, where there are not as many
abbrev pub access_at : Access → List ℕ → Access
access_at (Put it) (origin ∷ []) = Put (transfer_at it origin)
access_at (Get it) (origin ∷ []) = Get (transfer_at it origin)
access_at (Accumulate op it) (origin ∷ []) = Accumulate op (transfer_at it origin)
access_at (GetAccumulate op it into) (origin ∷ result ∷ []) = GetAccumulate op (transfer_at it origin) (buffer_at into result)
access_at (FetchAndOp op datatype at into) (origin ∷ result ∷ []) = FetchAndOp op datatype origin result
access_at (CompareAndSwap datatype at compared into) (origin ∷ compare ∷ result ∷ []) = CompareAndSwap datatype origin compare result
access_at access _ = access

-- a call of the target, the displacement and the addresses of these numbers
abbrev pub line_at : RmaLine → List ℕ → RmaLine
line_at line (target ∷ displacement ∷ addresses) =
    record line { target = Some (record { 0 = target }); displacement = displacement; access = access_at line.access addresses }
line_at line _ = line

-- a local access at the address of these numbers
abbrev pub local_at : LocalLine → List ℕ → LocalLine
local_at line (address ∷ []) = record line { buffer = buffer_at line.buffer address }
local_at line _ = line
