-- Which send the message of a receive comes from, by the calls that are taken of each rank (MPI 4.0, "Point-to-Point
-- Communication").
use Rattle.std.specs.Prelude.{ℕ, suc, ◌==◌, List, [], ◌∷◌, Bool, false, Option, Some, None, is_some, nat_eq, filter, take, option_map, slice_get, if◌then◌else◌}
use Rattle.std.specs.List.{filter_map, list_all}
use Rattle.std.specs.Option.{option_map_or}
use Rattle.std.specs.Cmp.Lexicographic.{pointwise}
use Rattle.rma_call.specs.Call.{Call}
use Rattle.rma_link.specs.Point.{entry}
use Rattle.rma_message.specs.declared.receive.Receive.{Receive}
use Rattle.rma_message.specs.declared.end.End.{End}
use Rattle.rma_message.specs.declared.source.MessageSource.{MessageSource}
use Rattle.rma_message.specs.declared.source.MessageSource.TheVariants.{NoReceive, Unknown, From}
use Rattle.rma_message.specs.Receive.{end_of}
use Rattle.rma_message.specs.RankMessages.{RankMessages, no_messages, with_calls}
use Rattle.rma_message.specs.Matching.{partner}

-- the messages of the calls of a rank
abbrev pub messages_at : (ℕ → List Call) → ℕ → RankMessages
messages_at calls rank = with_calls (no_messages (record { 0 = rank })) 0 (calls rank)

-- whether the call of this number completes a receive
abbrev pub completes : ℕ → Receive → Bool
completes number r = option_map_or (λ c. c.call == number) r.completion false

-- the index of the receive that the call of this number completes
abbrev pub completed_at : ℕ → List Receive → Option ℕ
completed_at number [] = None
completed_at number (r ∷ rs) = if completes number r then Some 0 else option_map suc (completed_at number rs)

-- whether a receive is on a communicator
abbrev pub is_on : List ℕ → Receive → Bool
is_on comm r = pointwise nat_eq r.comm comm

-- whether a receive is complete
abbrev pub is_complete : Receive → Bool
is_complete r = is_some r.completion

-- the source of a message that comes to this end, where these receives are posted before it: the send that matches it
abbrev pub source_of_end : (ℕ → List Call) → List End → End → MessageSource
source_of_end calls before own =
    option_map_or (λ send. From (entry own.key.from send.call)) (partner (messages_at calls own.key.from.0).sends before own) Unknown

-- the source of the message of a receive, where its rank posts these before it: it is known only where each of them that is on
-- its communicator is complete
abbrev pub source_after : (ℕ → List Call) → ℕ → List Receive → Receive → MessageSource
source_after calls rank before own =
    if list_all is_complete (filter (is_on own.comm) before) then option_map_or (source_of_end calls (filter_map (end_of (record { 0 = rank })) before)) (end_of (record { 0 = rank }) own) Unknown
    else Unknown

-- the source of the message of the receive at an index
abbrev pub source_at : (ℕ → List Call) → ℕ → List Receive → ℕ → MessageSource
source_at calls rank receives index = option_map_or (source_after calls rank (take index receives)) (slice_get receives index) NoReceive

-- the source of the message of a call, the one of this number of a rank
abbrev pub source_of : (ℕ → List Call) → ℕ → ℕ → MessageSource
source_of calls rank number =
    option_map_or (source_at calls rank (messages_at calls rank).receives) (completed_at number (messages_at calls rank).receives) NoReceive
