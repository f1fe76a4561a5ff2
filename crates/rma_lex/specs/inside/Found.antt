-- What the line feeds that were found tell of a text.
use Rattle.std.specs.Prelude.{◌≡◌, ℕ, ◌+◌, ◌-◌, ◌<◌, ◌≤◌, List, length, slice_index}
use Rattle.std.specs.Int.{bit_at}
use Rattle.rma_lex.specs.inside.Clean.{IsClean}
use Rattle.rma_lex.specs.declared.line_feed.LineFeeds.{LineFeeds}

-- The marks are line feeds of the text that was searched, none before the start; and from the start on they are all.
-- From the doubtful index on, what was searched is clean.
pub record Knows (feeds : LineFeeds) (text : List ℕ) : Type 0 where
  pub started : feeds.start ≤ feeds.seen
  pub within : feeds.seen ≤ length text
  pub all : (place : ℕ) → feeds.start ≤ place → place < feeds.seen → slice_index text place ≡ 10
      → (feeds.base ≤ place) × (bit_at feeds.mask (place - feeds.base) ≡ 1)
  pub only : (k : ℕ) → bit_at feeds.mask k ≡ 1
      → (feeds.start ≤ feeds.base + k) × (feeds.base + k < feeds.seen) × (slice_index text (feeds.base + k) ≡ 10)
  pub clean : IsClean text feeds.doubtful feeds.seen
