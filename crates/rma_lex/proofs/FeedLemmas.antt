-- What is known of the line feeds of a text, from one search to the next.
use Rattle.std.proofs.Common.{◌≢◌, ℕ, ◌+◌, ◌^◌, ◌<◌, eqb, List, length, get_or, arith, w64}
use Rattle.std.specs.Int.{trailing_zeros}
use Rattle.std.proofs.lemmas.Bool.{eqb-true, eq-eqb}
use Rattle.std.proofs.lemmas.Nat.Bits.{bit_at-trailing_zeros}
use Rattle.rma_lex.specs.declared.line_feed.LineFeeds.{LineFeeds}
use Rattle.rma_lex.specs.inside.LineFeed.{NoFeed, MarksFeeds}
use Rattle.rma_lex.specs.inside.Found.{Knows}
use Rattle.rma_lex.specs.inside.Mask.{Marks}

module _ (feeds : LineFeeds) (text : List ℕ) (knows : Knows feeds text) where
  -- with something marked a line feed is left
  pub some_feed : feeds.mask ≢ 0 → feeds.mask < 2 ^ 64 → ¬ NoFeed text feeds.start (length text)
  some_feed some fits none =
      let low = bit_at-trailing_zeros w64 feeds.mask (omega arith) fits in
      let here = knows.only (trailing_zeros w64 feeds.mask) low.1 in
      none (feeds.base + trailing_zeros w64 feeds.mask) here.0 (omega (arith, here.1, knows.within)) here.2

-- the marks of a test of each byte
pub MarksFeeds_from : (text : List ℕ) (from to mask : ℕ) → Marks (λ at. eqb (get_or text at 0) 10) from mask from to → MarksFeeds text from to mask
MarksFeeds_from text from to mask marks k = grind (arith, marks k, eqb-true (get_or text (from + k) 0) 10, eq-eqb (get_or text (from + k) 0) 10)
