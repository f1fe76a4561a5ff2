-- Calls that wait for their matches, by key.
use Rattle.std.specs.Prelude.{◌≡◌, ℕ, List, [], drop, map, filter, count_by}
use Rattle.std.specs.Map.{lookup}
use Rattle.std.specs.Option.{option_map_or}
use Rattle.std.specs.declared.collections.VecDeque.{VecDeque}
use Rattle.rma_message.specs.declared.key.Key.{Key}
use Rattle.rma_message.specs.declared.end.End.{End}
use Rattle.rma_message.specs.Key.{same_key, has_key}

-- the calls of a key that are left
abbrev pub queue_of : {A : Type 0} → List (Key × VecDeque ℕ A) → Key → List ℕ
queue_of queues key = option_map_or (λ q. q.items) (lookup (same_key key) queues) []

-- the calls of the ends that have a key
abbrev pub calls_of : Key → List End → List ℕ
calls_of key ends = map (λ e. e.call) (filter (has_key key) ends)

-- what is left are the calls of these ends, without those that the ends before took
abbrev pub AreLeft : {A : Type 0} → List End → List End → List (Key × VecDeque ℕ A) → Type 0
AreLeft ends before queues = (key : Key) → queue_of queues key ≡ drop (count_by (has_key key) before) (calls_of key ends)
