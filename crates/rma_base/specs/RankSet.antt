-- Sets of ranks (MPI 4.0, "Groups, Contexts, Communicators, and Caching").
use Rattle.std.specs.Prelude.{ℕ, List, [], ◌∷◌, Bool, false, ◌||◌, ◌==◌, nat_lt, if◌then◌else◌}
use Rattle.std.specs.List.{list_any}
use Rattle.rma_base.specs.declared.rank.Rank.{Rank}

-- the number of a rank
abbrev pub number_of : Rank → ℕ
number_of rank = rank.0

-- the number is one of these
abbrev pub has_number : ℕ → List ℕ → Bool
has_number n numbers = list_any (λ m. m == n) numbers

-- some number stands twice
abbrev pub has_repeat : List ℕ → Bool
has_repeat [] = false
has_repeat (n ∷ numbers) = has_number n numbers || has_repeat numbers

-- ascending numbers, with one more in its place
abbrev pub placed : ℕ → List ℕ → List ℕ
placed n [] = n ∷ []
placed n (m ∷ numbers) = if nat_lt n m then n ∷ m ∷ numbers else m ∷ placed n numbers

-- ascending numbers, with these in their places
abbrev pub placed_all : List ℕ → List ℕ → List ℕ
placed_all sorted [] = sorted
placed_all sorted (n ∷ numbers) = placed_all (placed n sorted) numbers

-- the numbers in ascending order
abbrev pub ascending : List ℕ → List ℕ
ascending numbers = placed_all [] numbers
