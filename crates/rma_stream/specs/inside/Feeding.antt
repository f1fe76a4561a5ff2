-- What the books of an audit represent.
use Rattle.std.specs.Prelude.{◌≡◌, ℕ, ◌+◌, ◌<◌, ◌≤◌, Bool, true, false, List, [], ◌++◌, All, Any, length, slice_index_or, slice_set}
use Rattle.rma_base.specs.Limits.{fed_limit}
use Rattle.rma_lex.specs.Line.{lines}
use Rattle.rma_book.specs.inside.RankState.{RankState, Represents}
use Rattle.rma_book.specs.inside.RankState as book

-- there is one book a log, and the k-th from 0 was fed these bytes of the log of rank k
pub record HaveBooks (ranks : ℕ) (books : List RankState) (texts : List (List ℕ)) : Type 0 where
  pub one_a_text : length books ≡ length texts
  pub each : (k : ℕ) (d : RankState) → k < length books → Represents k ranks (slice_index_or books k d) (slice_index_or texts k [])

-- the texts, where that of a rank goes on with this piece
abbrev pub with_piece : List (List ℕ) → ℕ → List ℕ → List (List ℕ)
with_piece texts rank piece = slice_set texts rank (slice_index_or texts rank [] ++ piece)

-- the book of a rank may be fed `count` bytes more
abbrev pub HasRoom : List RankState → ℕ → ℕ → Type 0
HasRoom books rank count = (d : RankState) → (slice_index_or books rank d).text.fed + count ≤ fed_limit

-- memory ran out while one of the books was fed
abbrev pub RanOut : List RankState → Type 0
RanOut books = Any book.RanOut books

-- no text has more lines than there may be bytes
abbrev pub HaveFewLines : List (List ℕ) → Type 0
HaveFewLines texts = (k : ℕ) → k < length texts → length (lines (slice_index_or texts k [])) ≤ fed_limit

-- No log has ended, the books represent some logs unless memory ran out, and it is known whether memory ran out.
pub record AreKept (ran_out : Bool) (books : List RankState) : Type 0 where
  pub go_on : All (λ state. state.text.closed ≡ false) books
  pub out : ran_out ≡ true → RanOut books
  pub in_memory : ran_out ≡ false → All (λ state. state.ran_out ≡ false) books
  pub represent : ran_out ≡ false → (texts : List (List ℕ)) × HaveBooks (length books) books texts
