-- Which calls create windows.
use Rattle.std.specs.Prelude.{◌≡◌, ℕ, List, Bool, false, Some, None, slice_get}
use Rattle.rma_base.specs.declared.rank.Rank.{Rank}
use Rattle.rma_call.specs.declared.what.What.{What}
use Rattle.rma_window.specs.Creation.{creation_of}

-- what a call does creates no window
abbrev pub CreatesNothing : What → Type 0
CreatesNothing what = (rank : Rank) (number : ℕ) → creation_of rank number what ≡ None

-- where no flag is set, nothing is created
abbrev pub AreCreating : List What → List Bool → Type 0
AreCreating whats flags = (number : ℕ) (what : What) → slice_get whats number ≡ Some what → slice_get flags number ≡ Some false → CreatesNothing what
