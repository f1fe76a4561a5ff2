-- What is kept of the messages of a run as its calls come.
use Rattle.std.specs.Prelude.{◌≡◌, ◌<◌, ◌*◌, ℕ, List, [], Bool, false, Option, Some, None, All, IfSome, MatchOption, is_some, nat_eq, length, map, filter, count_by, take, option_map, slice_get, unwrap_or, if◌then◌else◌}
use Rattle.std.specs.List.{list_all}
use Rattle.std.specs.Map.{lookup}
use Rattle.std.specs.Option.{option_map_or, option_and_then}
use Rattle.std.specs.Cmp.Lexicographic.{pointwise}
use Rattle.rma_base.specs.declared.rank.Rank.{Rank}
use Rattle.rma_call.specs.Call.{Call}
use Rattle.rma_message.specs.declared.key.Key.{Key}
use Rattle.rma_message.specs.declared.end.End.{End}
use Rattle.rma_message.specs.declared.receive.Receive.{Receive}
use Rattle.rma_message.specs.declared.comm_receives.CommReceives.{CommReceives}
use Rattle.rma_message.specs.declared.rank_receives.Place.{Place}
use Rattle.rma_message.specs.declared.rank_receives.RankReceives.{RankReceives}
use Rattle.rma_message.specs.declared.live.LiveMessages.{LiveMessages}
use Rattle.rma_message.specs.Key.{same_key, has_key}
use Rattle.rma_message.specs.Receive.{end_of, open_at}
use Rattle.rma_message.specs.Source.{messages_at, completed_at, is_on}

-- ---- the receives of a rank on a communicator

-- whether a receive is complete and has a key
abbrev pub is_key : Key → Option Key → Bool
is_key key own = option_map_or (λ k. same_key k key) own false

-- what the receive at an index matches by, where it is complete
abbrev pub key_at : List (Option Key) → ℕ → Option Key
key_at keys index = option_and_then (λ key. key) (slice_get keys index)

-- how many of a key are among the receives before an index
abbrev pub count_in : Key → List (Option Key) → ℕ → ℕ
count_in key keys index = count_by (is_key key) (take index keys)

-- how many of the key of the receive at an index are before it, where all up to it are complete
abbrev pub number_at : List (Option Key) → ℕ → Option ℕ
number_at keys index = option_and_then (λ key. if list_all is_some (take index keys) then Some (count_in key keys index) else None) (key_at keys index)

-- the count of a key, none where there is no such key
abbrev pub count_of : List (Key × ℕ) → Key → ℕ
count_of counts key = unwrap_or (lookup (same_key key) counts) 0

-- the number that is kept of the receive at an index is its own
pub record IsNumbered (keys : List (Option Key)) (numbers : List ℕ) (index : ℕ) : Type 0 where
  pub key : Key
  pub is_complete : slice_get keys index ≡ Some (Some key)
  pub number_is : slice_get numbers index ≡ Some (count_in key keys index)

-- the first receives are complete and numbered, and counted
pub record AreNumbered (keys : List (Option Key)) (numbers : List ℕ) (counts : List (Key × ℕ)) : Type 0 where
  pub numbered : (index : ℕ) → index < length numbers → IsNumbered keys numbers index
  pub counted : (key : Key) → count_of counts key ≡ count_in key keys (length numbers)

-- that are all that are placed
pub record ArePlaced (keys : List (Option Key)) (numbers : List ℕ) (counts : List (Key × ℕ)) : Type 0 where
  pub are_numbered : AreNumbered keys numbers counts
  pub next_is_open : key_at keys (length numbers) ≡ None

-- what is kept of a communicator represents receives of these keys
pub record IsOfKeys (keys : List (Option Key)) (receives : CommReceives) : Type 0 where
  pub keys_are : receives.keys.items ≡ keys
  pub placed : ArePlaced receives.keys.items receives.numbers receives.counts.entries

-- so does what may be kept: there are none where nothing is kept
abbrev pub IsOnComm : List (Option Key) → Option CommReceives → Type 0
IsOnComm keys receives = MatchOption receives (keys ≡ []) (IsOfKeys keys)

-- ---- the receives of a rank

-- what a receive matches by, where it is complete
abbrev pub key_of : ℕ → Receive → Option Key
key_of rank r = option_map (λ e. e.key) (end_of (record { 0 = rank }) r)

-- what the receives on a communicator match by
abbrev pub keys_on : ℕ → List ℕ → List Receive → List (Option Key)
keys_on rank comm receives = map (key_of rank) (filter (is_on comm) receives)

-- where the receive at an index stands
abbrev pub place_of : List Receive → ℕ → Option Place
place_of receives index = option_map (λ r. record { comm = r.comm; index = count_by (is_on r.comm) (take index receives) }) (slice_get receives index)

-- what is kept of a communicator
abbrev pub kept_on : List (List ℕ × CommReceives) → List ℕ → Option CommReceives
kept_on comms comm = lookup (pointwise nat_eq comm) comms

-- what is kept represents these receives of a rank
pub record AreReceives (rank : ℕ) (receives : List Receive) (own : RankReceives) : Type 0 where
  pub comms_are : (comm : List ℕ) → IsOnComm (keys_on rank comm receives) (kept_on own.comms.entries comm)
  pub pending_are : (request : ℕ) → lookup (nat_eq request) own.pending.entries ≡ option_and_then (place_of receives) (open_at request receives)
  pub completed_are : (number : ℕ) → lookup (nat_eq number) own.completed.entries ≡ option_and_then (place_of receives) (completed_at number receives)

-- calls before that of this number complete the receives that are complete
abbrev pub AreBefore : ℕ → List Receive → Type 0
AreBefore number receives = All (λ r. IfSome r.completion (λ c. c.call < number)) receives

-- ---- the run

-- whether a rank has this number
abbrev pub is_numbered : ℕ → Rank → Bool
is_numbered number rank = nat_eq number rank.0

-- what is kept of a rank
abbrev pub kept_of : List (Rank × RankReceives) → ℕ → Option RankReceives
kept_of ranks rank = lookup (is_numbered rank) ranks

-- what may be kept of a rank represents its receives: there are none where nothing is kept
abbrev pub IsOfRank : ℕ → List Receive → Option RankReceives → Type 0
IsOfRank rank receives own = MatchOption own (receives ≡ []) (AreReceives rank receives)

-- where the rank enters its sends of a key
abbrev pub entries_of : Key → List End → List ℕ
entries_of key sends = map (λ e. 2 * e.call) (filter (has_key key) sends)

-- what is kept under a key
abbrev pub kept_sends : List (Key × List ℕ) → Key → List ℕ
kept_sends sends key = unwrap_or (lookup (same_key key) sends) []

-- what is kept represents the messages of these calls of the ranks
pub record Represents (calls : ℕ → List Call) (live : LiveMessages) : Type 0 where
  pub sends_are : (key : Key) → kept_sends live.sends.entries key ≡ entries_of key (messages_at calls key.from.0).sends
  pub receives_are : (rank : ℕ) → IsOfRank rank (messages_at calls rank).receives (kept_of live.receives.entries rank)
