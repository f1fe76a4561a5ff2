-- The messages of a rank, call by call (MPI 4.0, "Point-to-Point Communication").
use Rattle.std.specs.Prelude.{ℕ, ◌+◌, List, [], ◌∷◌, ◌++◌, Option, Some, None}
use Rattle.rma_base.specs.declared.rank.Rank.{Rank}
use Rattle.rma_base.specs.declared.line.LineNo.{LineNo}
use Rattle.rma_call.specs.Call.{Call, RankCalls}
use Rattle.rma_call.specs.declared.what.What.{What}
use Rattle.rma_call.specs.declared.what.What.TheVariants.{Sync}
use Rattle.rma_call.specs.declared.what.SyncCall.TheVariants.{Message}
use Rattle.rma_call.specs.declared.message.MessageCall.TheVariants.{Send, Isend, Recv, Irecv, Wait}
use Rattle.rma_message.specs.declared.receive.Receive.{Receive}
use Rattle.rma_message.specs.declared.end.End.{End}
use Rattle.rma_message.specs.Receive.{posted, waited}

-- the messages of a rank: its sends in their order, and its receives in the order in which they are posted
pub record RankMessages : Type 0 where
  pub rank : Rank
  pub sends : List End
  pub receives : List Receive

-- none
abbrev pub no_messages : Rank → RankMessages
no_messages rank = record { rank = rank; sends = []; receives = [] }

-- the send of this number and line of a rank
abbrev pub sent_end : Rank → ℕ → LineNo → Rank → ℕ → List ℕ → End
sent_end rank number line to tag comm = record { key = record { from = rank; to = to; comm = comm; tag = tag }; rank = rank; call = number; line = line }

-- the messages after what a call of this number, line and request does: a send comes last of the sends, a receive is posted
-- last, complete where it blocks, and a wait completes the receive of its request
abbrev pub with_what : RankMessages → ℕ → LineNo → Option ℕ → What → RankMessages
with_what m number line request (Sync (Message (Send to tag comm))) = record m { sends = m.sends ++ sent_end m.rank number line to tag comm ∷ [] }
with_what m number line request (Sync (Message (Isend to tag comm))) = record m { sends = m.sends ++ sent_end m.rank number line to tag comm ∷ [] }
with_what m number line request (Sync (Message (Recv from tag comm))) =
    record m { receives = m.receives ++ posted comm line None (Some (record { from = from; tag = tag; call = number })) ∷ [] }
with_what m number line request (Sync (Message (Irecv comm))) = record m { receives = m.receives ++ posted comm line request None ∷ [] }
with_what m number line request (Sync (Message (Wait received))) = record m { receives = waited request received number m.receives }
with_what m number line request _ = m

-- the messages after a call, the one of this number
abbrev pub with_call : RankMessages → ℕ → Call → RankMessages
with_call m number call = with_what m number call.line call.request call.what

-- the messages after some calls, the first of which has this number
abbrev pub with_calls : RankMessages → ℕ → List Call → RankMessages
with_calls m number [] = m
with_calls m number (call ∷ calls) = with_calls (with_call m number call) (number + 1) calls

-- the messages of all calls of a rank
abbrev pub messages_by : RankCalls → RankMessages
messages_by own = with_calls (no_messages own.rank) 0 own.calls
