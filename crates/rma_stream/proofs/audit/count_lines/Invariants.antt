use Rattle.std.proofs.Common.{◌≡◌, ◌<◌, ◌≤◌, ◌*◌, ℕ, List, [], length, take, get_or}
use Rattle.rma_base.specs.Limits.{fed_limit}
use Rattle.rma_lex.specs.Line.{lines}
use Rattle.rma_stream.specs.inside.Feeding.{HaveBooks}
use Rattle.rma_stream.specs.Findings.{count_of_lines}
use Rattle.rma_stream.proofs.audit.count_lines.Given as goal

-- the lines of the logs so far
abbrev pub invariant-loop-book : goal.invariant-loop-book
invariant-loop-book l =
    ((ranks : ℕ) (texts : List (List ℕ)) → HaveBooks ranks l.books texts → l.lines ≡ count_of_lines (take l.book-index texts))
    × (l.lines ≤ l.book-index * fed_limit)
    × ((ranks : ℕ) (texts : List (List ℕ)) → HaveBooks ranks l.books texts → (k : ℕ) → k < l.book-index → length (lines (get_or texts k [])) ≤ fed_limit)
