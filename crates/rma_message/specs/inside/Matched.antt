-- Messages of which each end has a match.
use Rattle.std.specs.Prelude.{◌≡◌, ◌<◌, ◌++◌, ◌∷◌, ⊤, ℕ, List, [], Option, Some, None, length, slice_get}
use Rattle.std.specs.Option.{option_and_then}
use Rattle.std.specs.declared.collections.VecDeque.{VecDeque}
use Rattle.rma_base.specs.Limits.{fed_limit}
use Rattle.rma_base.specs.declared.line.LineNo.{LineNo}
use Rattle.rma_base.specs.declared.rank.Rank.{Rank}
use Rattle.rma_base.specs.declared.match_reason.MatchReason.{MatchReason}
use Rattle.rma_call.specs.declared.what.What.{What}
use Rattle.rma_call.specs.declared.what.What.TheVariants.{Sync}
use Rattle.rma_call.specs.declared.what.SyncCall.TheVariants.{Message}
use Rattle.rma_call.specs.declared.message.Received.{Received}
use Rattle.rma_call.specs.declared.message.MessageCall.TheVariants.{Irecv, Wait}
use Rattle.rma_link.specs.declared.edge.Edge.{Edge}
use Rattle.rma_message.specs.declared.key.Key.{Key}
use Rattle.rma_message.specs.declared.end.End.{End}
use Rattle.rma_message.specs.declared.receive.Receive.{Receive}
use Rattle.rma_message.specs.declared.posted.Posted.{Posted}
use Rattle.rma_message.specs.declared.posted.Posted.TheVariants.{Open, Done}
use Rattle.rma_message.specs.declared.posted.Step.{Step}
use Rattle.rma_message.specs.declared.posted.Step.TheVariants as step
use Rattle.rma_message.specs.declared.posted.Known.{Known}
use Rattle.rma_message.specs.declared.posted.PostedReceives.{PostedReceives}
use Rattle.rma_message.specs.Receive.{end_of, open_at}
use Rattle.rma_message.specs.RankMessages.{RankMessages, with_what}
use Rattle.rma_message.specs.Matching.{edges_of, unmatched}
use Rattle.rma_message.specs.inside.Queue.{AreLeft}

-- ---- the sends

-- an end of this key, that a rank makes
abbrev pub own_end : Rank → Key → ℕ → LineNo → End
own_end rank key number line = record { key = key; rank = rank; call = number; line = line }

-- calls of a rank that do this are sends of the key
abbrev pub AreSends : Rank → Key → What → Type 0
AreSends rank key what =
    (sends : List End) (receives : List Receive) (number : ℕ) (line : LineNo) (request : Option ℕ) →
    (with_what (record { rank = rank; sends = sends; receives = receives }) number line request what).sends ≡ sends ++ own_end rank key number line ∷ []

-- calls that do this send nothing
abbrev pub SendNothing : What → Type 0
SendNothing what = (m : RankMessages) (number : ℕ) (line : LineNo) (request : Option ℕ) → (with_what m number line request what).sends ≡ m.sends

-- a place among keys is that of the sends that do this, and there is none where they send nothing
abbrev pub IsSendPlace : Rank → List Key → What → Option ℕ → Type 0
IsSendPlace rank keys what None = SendNothing what
IsSendPlace rank keys what (Some place) = (key : Key) × (slice_get keys place ≡ Some key) × AreSends rank key what

-- the places are those of what calls do, by number
abbrev pub AreSendPlaces : Rank → List Key → List What → List (Option ℕ) → Type 0
AreSendPlaces rank keys whats places =
    (number : ℕ) (what : What) (place : Option ℕ) → slice_get whats number ≡ Some what → slice_get places number ≡ Some place → IsSendPlace rank keys what place

-- keys stay where they are
abbrev pub StayThere : List Key → List Key → Type 0
StayThere old new = (place : ℕ) (key : Key) → slice_get old place ≡ Some key → slice_get new place ≡ Some key

-- ---- the receives of a rank

-- calls that do this receive nothing
abbrev pub ReceiveNothing : What → Type 0
ReceiveNothing what = (m : RankMessages) (number : ℕ) (line : LineNo) (request : Option ℕ) → (with_what m number line request what).receives ≡ m.receives

-- a receive makes no request, and is complete as an end of this key
pub record IsReceived (rank : Rank) (key : Key) (number : ℕ) (line : LineNo) (receive : Receive) : Type 0 where
  pub no_request : receive.request ≡ None
  pub is_end : end_of rank receive ≡ Some (own_end rank key number line)

-- calls of a rank that do this are receives of the key that are complete at once
abbrev pub AreReceives : Rank → Key → What → Type 0
AreReceives rank key what =
    (sends : List End) (receives : List Receive) (number : ℕ) (line : LineNo) (request : Option ℕ) →
    (receive : Receive) × ((with_what (record { rank = rank; sends = sends; receives = receives }) number line request what).receives ≡ receives ++ receive ∷ [])
    × IsReceived rank key number line receive

-- a step is what calls of a rank that do this come to, where its receives are posted and completed
abbrev pub IsStep : Rank → List Key → What → Step → Type 0
IsStep rank keys what step.Nothing = ReceiveNothing what
IsStep rank keys what step.Unsent = ⊤
IsStep rank keys what (step.Receive place from) = (key : Key) × (slice_get keys place ≡ Some key) × (key.from ≡ from) × AreReceives rank key what
IsStep rank keys what step.Post = (comm : List ℕ) × (what ≡ Sync (Message (Irecv comm)))
IsStep rank keys what (step.Wait received) = what ≡ Sync (Message (Wait (Some received)))

-- the steps are those of what calls do, by number
abbrev pub AreSteps : Rank → List Key → List What → List Step → Type 0
AreSteps rank keys whats steps = (number : ℕ) (what : What) (step : Step) → slice_get whats number ≡ Some what → slice_get steps number ≡ Some step → IsStep rank keys what step

-- the end of a receive that is complete: its key stands at a place
pub record IsDone (rank : Rank) (keys : List Key) (place : ℕ) (from : Rank) (call : ℕ) (receive : Receive) : Type 0 where
  pub end : End
  pub is_end : end_of rank receive ≡ Some end
  pub is_place : slice_get keys place ≡ Some end.key
  pub is_from : end.key.from ≡ from
  pub is_rank : end.rank ≡ rank
  pub is_call : end.call ≡ call
  pub below : call < fed_limit

-- a receive that is not complete, by the number of what the call does that posts it
pub record IsOpen (whats : List What) (what : ℕ) (receive : Receive) : Type 0 where
  pub is_incomplete : receive.completion ≡ None
  pub is_posted : slice_get whats what ≡ Some (Sync (Message (Irecv receive.comm)))

-- what is kept of a receive
abbrev pub IsPosted : Rank → List Key → List What → Posted → Receive → Type 0
IsPosted rank keys whats (Open what) receive = IsOpen whats what receive
IsPosted rank keys whats (Done place from call) receive = IsDone rank keys place from call receive

-- what is kept of receives, in the order in which they are posted
pub record ArePosted (rank : Rank) (keys : List Key) (whats : List What) (receives : List Receive) (posted : List Posted) : Type 0 where
  pub len : length posted ≡ length receives
  pub each : (index : ℕ) (own : Posted) (receive : Receive) → slice_get posted index ≡ Some own → slice_get receives index ≡ Some receive → IsPosted rank keys whats own receive

-- the key of a message stands at a place, where calls of this number post its receive
abbrev pub IsPlaceFor : Rank → List Key → List What → ℕ → Received → ℕ → Type 0
IsPlaceFor rank keys whats post received place =
    (comm : List ℕ) → slice_get whats post ≡ Some (Sync (Message (Irecv comm))) → slice_get keys place ≡ Some (record { from = received.from; to = rank; comm = comm; tag = received.tag })

-- what is known of calls that complete receives
abbrev pub AreKnown : Rank → List Key → List What → List (Option Known) → Type 0
AreKnown rank keys whats known =
    (wait : ℕ) (own : Known) (received : Received) → slice_get known wait ≡ Some (Some own) → slice_get whats wait ≡ Some (Sync (Message (Wait (Some received))))
    → IsPlaceFor rank keys whats own.post received own.place

-- the index at a number, if there is one
abbrev pub index_at : List (Option ℕ) → ℕ → Option ℕ
index_at indexes number = option_and_then (λ index. index) (slice_get indexes number)

-- what is kept of the receives of a rank as its calls come
pub record AreKept (rank : Rank) (keys : List Key) (whats : List What) (receives : List Receive) (own : PostedReceives) : Type 0 where
  pub posted : ArePosted rank keys whats receives own.receives.items
  pub open_are : (request : ℕ) → index_at own.pending.items request ≡ open_at request receives
  pub known_are : AreKnown rank keys whats own.known.items

-- ---- the messages

-- each of these receives has a match, and these are the edges of the messages that they make, and the sends that they leave
pub record AreMatched {A : Type 0} (sends receives : List End) (edges : List Edge) (queues : List (Key × VecDeque ℕ A)) : Type 0 where
  pub edges_are : edges ≡ edges_of sends receives
  pub left : AreLeft sends receives queues
  pub sent : (reason : MatchReason) → unmatched reason sends receives ≡ []
