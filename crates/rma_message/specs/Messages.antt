-- The messages of a run (MPI 4.0, "Point-to-Point Communication").
use Rattle.std.specs.Prelude.{ℕ, ◌≡◌, List, [], ◌++◌, All, Some, filter, slice_get}
use Rattle.std.specs.List.{filter_map, flat_map}
use Rattle.rma_base.specs.declared.match_reason.MatchReason.TheVariants.{SendUnreceived, ReceiveUnsent}
use Rattle.rma_call.specs.Call.{RankCalls}
use Rattle.rma_call.specs.declared.match_fault.MatchFault.{MatchFault}
use Rattle.rma_link.specs.declared.edge.Edge.{Edge}
use Rattle.rma_message.specs.declared.key.Key.{Key}
use Rattle.rma_message.specs.declared.end.End.{End}
use Rattle.rma_message.specs.Key.{has_key}
use Rattle.rma_message.specs.Receive.{end_of}
use Rattle.rma_message.specs.RankMessages.{RankMessages, messages_by}
use Rattle.rma_message.specs.Matching.{IsNumbered, edge_between, edges_of, unmatched}

-- the ends of the messages of a run: the sends, by rank and then in their order, and the receives that are complete, by rank and
-- then in the order in which they are posted
pub record Messages : Type 0 where
  pub sends : List End
  pub receives : List End

-- the receives of a rank that are complete, in the order in which they are posted
abbrev pub receives_in : RankMessages → List End
receives_in m = filter_map (end_of m.rank) m.receives

-- the messages with those of one more rank
abbrev pub with_rank : Messages → RankMessages → Messages
with_rank all own = record { sends = all.sends ++ own.sends; receives = all.receives ++ receives_in own }

-- none
abbrev pub no_messages : Messages
no_messages = record { sends = []; receives = [] }

-- the messages of all ranks, rank by rank in the order of the logs
abbrev pub messages_of : List RankCalls → Messages
messages_of ranks =
    record {
      sends = flat_map (λ r. (messages_by r).sends) ranks;
      receives = flat_map (λ r. receives_in (messages_by r)) ranks;
    }

-- an edge for each receive that a send matches
abbrev pub edges_in : Messages → List Edge
edges_in m = edges_of m.sends m.receives

-- the edge of a message, by the number that it has among those of its key: from the entry of that send of the key to the return
-- of the call that completes that receive of the key
pub record IsMessageEdge (m : Messages) (edge : Edge) : Type 0 where
  pub key : Key
  pub number : ℕ
  pub send : End
  pub receive : End
  pub is_send : slice_get (filter (has_key key) m.sends) number ≡ Some send
  pub is_receive : slice_get (filter (has_key key) m.receives) number ≡ Some receive
  pub is_edge : edge ≡ edge_between send.call receive

-- the sends that no receive matches, then the receives that no send matches
abbrev pub faults_in : Messages → List MatchFault
faults_in m = unmatched SendUnreceived m.receives m.sends ++ unmatched ReceiveUnsent m.sends m.receives

-- the faults of the messages of a run
abbrev pub message_faults : List RankCalls → List MatchFault
message_faults ranks = faults_in (messages_of ranks)

-- the edges of the messages of a run
abbrev pub message_edges : List RankCalls → List Edge
message_edges ranks = edges_in (messages_of ranks)

-- all ends have numbers that calls of the run may have
pub record AreNumbered (m : Messages) : Type 0 where
  pub sends : All IsNumbered m.sends
  pub receives : All IsNumbered m.receives
