-- The words of calls that access the part of a target, in three parts: what stands before the window, the place of the access,
-- and what stands behind that.
use Rattle.std.specs.Prelude.{ℕ, List, [], ◌∷◌, ◌++◌, Option, Some, None, codes, decimal}
use Rattle.rma_base.specs.declared.rank.Rank.{Rank}
use Rattle.rma_datatype.specs.declared.operation.Op.{Op}
use Rattle.rma_datatype.specs.Operation.{op_word}
use Rattle.rma_field.specs.Kinds.{target_text}
use Rattle.rma_call.specs.declared.local.LocalAccess.{LocalAccess}
use Rattle.rma_call.specs.declared.local.LocalAccess.TheVariants.{Load, Store, Poll}
use Rattle.rma_form.specs.declared.event.rma_line.Access.{Access}
use Rattle.rma_form.specs.declared.event.rma_line.Access.TheVariants.{Put, Get, Accumulate, GetAccumulate, FetchAndOp, CompareAndSwap}
use Rattle.rma_form.specs.declared.event.rma_line.Buffer.{Buffer}
use Rattle.rma_form.specs.declared.event.rma_line.Transfer.{Transfer}
use Rattle.rma_form.specs.inside.Suffix.{behind_space}

-- the verb, or that of the request form with the request
abbrev pub verb_head : List ℕ → Option (List ℕ) → List ℕ
verb_head verb None = verb
verb_head verb (Some request) = 114 ∷ (verb ++ 32 ∷ request)

-- the same with an operation
abbrev pub operation_head : List ℕ → Option (List ℕ) → Op → List ℕ
operation_head verb request op = verb_head verb request ++ 32 ∷ op_word op

-- what stands before the window of each access
abbrev pub access_head : Access → Option (List ℕ) → List ℕ
access_head (Put it) request = verb_head (codes "put") request
access_head (Get it) request = verb_head (codes "get") request
access_head (Accumulate op it) request = operation_head (codes "acc") request op
access_head (GetAccumulate op it into) request = operation_head (codes "getacc") request op
access_head (FetchAndOp op datatype at into) request = operation_head (codes "fop") None op
access_head (CompareAndSwap datatype at compared into) request = codes "cas"

-- the words of a place, of a buffer, and of a transfer
abbrev pub place_words : List ℕ → Option Rank → ℕ → List (List ℕ)
place_words window to place = window ∷ target_text to ∷ decimal place ∷ []

abbrev pub buffer_words : Buffer → List (List ℕ)
buffer_words it = decimal it.address ∷ decimal it.count ∷ it.datatype ∷ []

abbrev pub transfer_words : Transfer → List (List ℕ)
transfer_words it = decimal it.target_count ∷ it.target_type ∷ buffer_words it.origin

-- what stands behind the place of each access
abbrev pub access_suffix : Access → List ℕ
access_suffix (Put it) = behind_space (transfer_words it)
access_suffix (Get it) = behind_space (transfer_words it)
access_suffix (Accumulate op it) = behind_space (transfer_words it)
access_suffix (GetAccumulate op it into) = behind_space (transfer_words it) ++ behind_space (buffer_words into)
access_suffix (FetchAndOp op datatype at into) = behind_space (datatype ∷ decimal at ∷ decimal into ∷ [])
access_suffix (CompareAndSwap datatype at compared into) = behind_space (datatype ∷ decimal at ∷ decimal compared ∷ decimal into ∷ [])

-- the verb of a local access
abbrev pub access_verb : LocalAccess → List ℕ
access_verb Load = codes "load"
access_verb Store = codes "store"
access_verb Poll = codes "poll"
