-- The receives of a rank, by the calls that post and complete them (MPI 4.0, "Point-to-Point Communication").
use Rattle.std.specs.Prelude.{ℕ, zero, suc, ◌==◌, List, [], ◌∷◌, Bool, false, ◌&&◌, Option, Some, None, option_map, is_some, not, if◌then◌else◌}
use Rattle.std.specs.List.{list_any}
use Rattle.std.specs.Option.{option_map_or}
use Rattle.rma_base.specs.declared.rank.Rank.{Rank}
use Rattle.rma_base.specs.declared.line.LineNo.{LineNo}
use Rattle.rma_call.specs.declared.message.Received.{Received}
use Rattle.rma_message.specs.declared.receive.Receive.{Receive}
use Rattle.rma_message.specs.declared.receive.Completion.{Completion}
use Rattle.rma_message.specs.declared.end.End.{End}

-- a receive with these values
abbrev pub posted : List ℕ → LineNo → Option ℕ → Option Completion → Receive
posted comm line request completion = record { comm = comm; line = line; request = request; completion = completion }

-- whether a receive makes the request of this number
abbrev pub makes : ℕ → Receive → Bool
makes request r = option_map_or (λ own. own == request) r.request false

-- whether nothing has completed a receive yet
abbrev pub is_open : Receive → Bool
is_open r = not (is_some r.completion)

-- the index of the last receive that makes the request of this number, where that one is not complete yet
abbrev pub open_at : ℕ → List Receive → Option ℕ
open_at request [] = None
open_at request (r ∷ rs) =
    if list_any (makes request) rs then option_map suc (open_at request rs)
    else (if makes request r && is_open r then Some 0 else None)

-- the receives where that of this index is complete
abbrev pub complete_at : ℕ → Completion → List Receive → List Receive
complete_at index completion [] = []
complete_at zero completion (r ∷ rs) = record r { completion = Some completion } ∷ rs
complete_at (suc index) completion (r ∷ rs) = r ∷ complete_at index completion rs

-- the receives after a call of this number that completes a request: where it got a message, it completes the last receive
-- of the request, unless that is complete
abbrev pub waited : Option ℕ → Option Received → ℕ → List Receive → List Receive
waited (Some request) (Some received) number rs =
    option_map_or (λ index. complete_at index (record { from = received.from; tag = received.tag; call = number }) rs) (open_at request rs) rs
waited _ _ number rs = rs

-- the end of a message that a receive of this rank is, once it is complete
abbrev pub end_of : Rank → Receive → Option End
end_of rank r =
    option_map (λ c. record { key = record { from = c.from; to = rank; comm = r.comm; tag = c.tag }; rank = rank; call = c.call; line = r.line }) r.completion
