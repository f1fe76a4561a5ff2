-- What is known of the line feeds of a text from an index on.
use Rattle.std.specs.Prelude.{◌≡◌, ◌≢◌, ◌↔◌, ◌⊎◌, ℕ, ◌+◌, ◌<◌, ◌≤◌, Bool, true, List, length, slice_index}
use Rattle.std.specs.Int.{bit_at}

-- no byte from one index up to another is a line feed
abbrev pub NoFeed : List ℕ → ℕ → ℕ → Type 0
NoFeed text from to = (place : ℕ) → from ≤ place → place < to → slice_index text place ≢ 10

-- This is the index of the first line feed from another index on.
pub record IsFirstFeed (text : List ℕ) (from place : ℕ) : Type 0 where
  pub low : from ≤ place
  pub high : place < length text
  pub feed : slice_index text place ≡ 10
  pub before : NoFeed text from place

-- The line that begins at the start ends there, and the next one begins at that index: after a line feed, or at the
-- end of a text that has ended, where the line is not empty.
pub record IsLineAt (text : List ℕ) (closed : Bool) (start end next : ℕ) : Type 0 where
  pub ordered : start ≤ end
  pub moves : start < next
  pub within : next ≤ length text
  pub no_line_feed : NoFeed text start end
  pub ended : ((next ≡ end + 1) × (slice_index text end ≡ 10)) ⊎ ((closed ≡ true) × (end ≡ length text) × (next ≡ end))

-- bit k of the mask is set where the byte at `from + k` is a line feed, for those before `to`
abbrev pub MarksFeeds : List ℕ → ℕ → ℕ → ℕ → Type 0
MarksFeeds text from to mask = (k : ℕ) → (bit_at mask k ≡ 1) ↔ ((from + k < to) × (slice_index text (from + k) ≡ 10))
