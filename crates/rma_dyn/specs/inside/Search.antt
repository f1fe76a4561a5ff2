-- What a search for the attaches that hold the bytes of an access knows.
use Rattle.std.specs.Prelude.{◌≡◌, ◌<◌, ◌≤◌, nat_lt, ℕ, List, Contains, Some, slice_get, if◌then◌else◌}
use Rattle.rma_rules.specs.Access.{Access}
use Rattle.rma_dyn.specs.declared.change.Change.{Change}
use Rattle.rma_dyn.specs.declared.search.Cover.{Cover}
use Rattle.rma_dyn.specs.declared.search.Cover.TheVariants.{Nothing, Kept, Gone}
use Rattle.rma_dyn.specs.Region.{HoldsAll, IsDetachOf}

-- an attach before the call of a number of its rank gives all bytes of an access
pub record Holds (a : Access) (bound : ℕ) (g : Change) : Type 0 where
  pub all : HoldsAll g a
  pub before : g.call < bound

-- it has a detach before the call of a number
pub record IsGone (list : List Change) (freed : ℕ) (g : Change) : Type 0 where
  pub detach : Change
  pub of : IsDetachOf list g detach
  pub early : detach.call < freed

-- each that holds it is gone: this is the last one by its call, and its detach
pub record IsGoneFrom (list : List Change) (a : Access) (bound freed from : ℕ) (last detach : Change) : Type 0 where
  pub there : Contains list last
  pub holds : Holds a bound last
  pub detach_of : IsDetachOf list last detach
  pub is_last : (k : ℕ) (g : Change) → from ≤ k → slice_get list k ≡ Some g → Holds a bound g → g.call ≤ last.call
  pub each : (k : ℕ) (g : Change) → from ≤ k → slice_get list k ≡ Some g → Holds a bound g → IsGone list freed g

-- what is known of those that hold an access among the elements from an index on
abbrev pub IsCover : List Change → Access → ℕ → ℕ → ℕ → Cover → Type 0
IsCover list a bound freed from Nothing = (k : ℕ) (g : Change) → from ≤ k → slice_get list k ≡ Some g → ¬ Holds a bound g
IsCover list a bound freed from Kept = (g : Change) × Contains list g × Holds a bound g × ¬ IsGone list freed g
IsCover list a bound freed from (Gone last detach) = IsGoneFrom list a bound freed from last detach

-- what is known with one more attach that holds the access, and its detach
abbrev pub later : Cover → Change → Change → Cover
later Nothing attach detach = Gone attach detach
later Kept attach detach = Kept
later (Gone last given) attach detach = if nat_lt last.call attach.call then Gone attach detach else Gone last given
