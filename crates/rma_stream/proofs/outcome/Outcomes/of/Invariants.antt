use Rattle.std.proofs.Common.{◌≡◌, ◌≤◌, ◌++◌, ℕ, List, length, take}
use Rattle.std.specs.Vec.Iter.{into_iter_items}
use Rattle.rma_base.specs.Limits.{rank_limit}
use Rattle.rma_log.specs.declared.fault.BookEnd.{BookEnd}
use Rattle.rma_stream.specs.inside.Feeding.{HaveBooks}
use Rattle.rma_stream.specs.Findings.{AreEnds}
use Rattle.rma_stream.specs.inside.Outcome.{AreOutcomes}
use Rattle.rma_stream.proofs.outcome.Outcomes.of.Given as goal

-- the logs of the first books have ended, and the other books are left
abbrev pub invariant-loop-book : goal.invariant-loop-book
invariant-loop-book l =
    (goal.iterator-loop-book).can_next l.book-iterator × (goal.iterator-loop-book).is_finite l.book-iterator
    × (l.fn.books.items ≡ l.yielded ++ into_iter_items l.book-iterator) × (l.rank ≡ length l.yielded) × (length l.fn.books.items ≤ rank_limit)
    × ((texts : List (List ℕ)) → HaveBooks (length texts) l.fn.books.items texts
    → (ends : List BookEnd) × AreEnds (length texts) 0 (take l.rank texts) ends × AreOutcomes ends l.them)
