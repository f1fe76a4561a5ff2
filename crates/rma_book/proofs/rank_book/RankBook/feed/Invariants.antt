use Rattle.std.proofs.Common.{◌≡◌, ◌+◌, ◌++◌, ◌≤◌, List, ℕ, false, true, length}
use Rattle.rma_base.specs.Limits.{line_limit}
use Rattle.rma_book.specs.inside.RankState.{ReadsPart}
use Rattle.rma_book.proofs.rank_book.RankBook.feed.Given as goal

-- some of the piece was read, and the rest of it is left
abbrev pub invariant-parts : goal.invariant-parts
invariant-parts l =
    (done : List ℕ) × (l.fn.piece ≡ done ++ l.rest) × ReadsPart l.fn.self.text l.self.text l.fn.self.reader l.self.reader done × (l.self.text.closed ≡ false)
    × (l.self.fault ≡ l.fn.self.fault) × (l.self.ran_out ≡ true) × (length l.self.text.rest ≤ line_limit + 1)

abbrev pub decreases-parts : goal.decreases-parts
decreases-parts l = length l.rest
