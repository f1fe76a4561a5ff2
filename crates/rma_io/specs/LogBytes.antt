-- What is known of the bytes of a log, by what its source can say.
use Rattle.std.specs.Prelude.{◌≡◌, ◌≢◌, ℕ, List, [], ◌++◌, Option, None, IfSome, slice_index_or}
use Rattle.std.specs.Io.KnownBytes.{Consumes, Keeps}
use Rattle.rma_io.specs.Known.{StillKnown}

-- the bytes taken from a log, and those left of it, where they are known
pub record LogBytes : Type 0 where
  pub taken : Option (List ℕ)
  pub left : Option (List ℕ)

-- nothing is known of a log
abbrev pub unknown : LogBytes
unknown = record { taken = None; left = None }

-- what is known of the log of this rank
abbrev pub log_of : List LogBytes → ℕ → LogBytes
log_of logs rank = slice_index_or logs rank unknown

-- nothing was taken of a log yet
abbrev pub IsUntouched : LogBytes → Type 0
IsUntouched log = IfSome log.taken (λ bytes. bytes ≡ [])

-- a log before and after this piece was taken from the front of what is left of it
pub record Takes (piece : List ℕ) (before after : LogBytes) : Type 0 where
  pub taken : StillKnown (λ old new. new ≡ old ++ piece) before.taken after.taken
  pub left : Consumes before.left after.left piece

-- a log before and after a call that took nothing from it
pub record Stays (before after : LogBytes) : Type 0 where
  pub taken : StillKnown (λ old new. new ≡ old) before.taken after.taken
  pub left : Keeps before.left after.left

-- this piece was taken from the log of this rank, and nothing from any other
pub record TakesFrom (rank : ℕ) (piece : List ℕ) (before after : List LogBytes) : Type 0 where
  pub takes : Takes piece (log_of before rank) (log_of after rank)
  pub others : (other : ℕ) → other ≢ rank → Stays (log_of before other) (log_of after other)

-- nothing was taken from any log
abbrev pub AllStay : List LogBytes → List LogBytes → Type 0
AllStay before after = (rank : ℕ) → Stays (log_of before rank) (log_of after rank)
