-- Which ends of messages match (MPI 4.0, "Point-to-Point Communication").
use Rattle.std.specs.Prelude.{ℕ, ◌≡◌, ◌<◌, List, [], ◌∷◌, ◌++◌, Option, Some, None, option_map, filter, count_by, slice_get}
use Rattle.std.specs.List.{cons_option}
use Rattle.std.specs.Option.{option_map_or}
use Rattle.rma_base.specs.Limits.{fed_limit}
use Rattle.rma_base.specs.declared.match_reason.MatchReason.{MatchReason}
use Rattle.rma_call.specs.declared.match_fault.MatchFault.{MatchFault}
use Rattle.rma_link.specs.declared.edge.Edge.{Edge}
use Rattle.rma_link.specs.Point.{entry, return_of}
use Rattle.rma_message.specs.declared.key.Key.{Key}
use Rattle.rma_message.specs.declared.end.End.{End}
use Rattle.rma_message.specs.Key.{has_key}

-- the end among others that matches one, which comes after these of its own kind: it has the same key, and as many of that
-- key come before it
abbrev pub partner : List End → List End → End → Option End
partner others before own = slice_get (filter (has_key own.key) others) (count_by (has_key own.key) before)

-- what is had of each of some ends, each with all those before it
abbrev pub walked : {Y : Type 0} → (List End → End → Option Y) → List End → List End → List Y
walked f before [] = []
walked f before (e ∷ es) = cons_option (f before e) (walked f (before ++ e ∷ []) es)

-- the fault of an end that no other end matches
abbrev pub fault_of : MatchReason → List End → List End → End → Option MatchFault
fault_of reason others before own =
    option_map_or (λ _. None) (partner others before own) (Some (record { reason = reason; rank = own.rank; line = own.line; other = None }))

-- the faults of all such ends, in their order
abbrev pub unmatched : MatchReason → List End → List End → List MatchFault
unmatched reason others own = walked (fault_of reason others) [] own

-- the fault of an end that has no match, by the number that it has among the ends of its key: the others have none of this number
pub record IsUnmatched (reason : MatchReason) (others own : List End) (fault : MatchFault) : Type 0 where
  pub key : Key
  pub number : ℕ
  pub end : End
  pub is_own : slice_get (filter (has_key key) own) number ≡ Some end
  pub is_alone : slice_get (filter (has_key key) others) number ≡ None
  pub is_fault : fault ≡ record { reason = reason; rank = end.rank; line = end.line; other = None }

-- the number of the call of an end is one that a call of the run may have
abbrev pub IsNumbered : End → Type 0
IsNumbered e = e.call < fed_limit

-- the edge between the send of this number and a receive: from where the sender enters the send to where the receiver returns
-- from the call that completes the receive
abbrev pub edge_between : ℕ → End → Edge
edge_between send receive = record { from = entry receive.key.from send; to = return_of receive.rank receive.call }

-- the edge of a receive, where a send matches it
abbrev pub edge_of : List End → List End → End → Option Edge
edge_of sends before own = option_map (λ send. edge_between send.call own) (partner sends before own)

-- the edges of all messages, one for each receive that a send matches
abbrev pub edges_of : List End → List End → List Edge
edges_of sends receives = walked (edge_of sends) [] receives
