-- What is found of pairs of two lists, as one list in order.
use Rattle.std.specs.Prelude.{◌≡◌, ◌<◌, ℕ, List, Contains, Some, slice_get}
use Rattle.std.specs.declared.cmp.Ordering.{Ordering}
use Rattle.std.specs.declared.cmp.Ordering.TheVariants.{Less}

-- something is found of an element of the one list and one of the other
pub record IsOfSome {A B X : Type 0} (Is : A → B → X → Type 0) (firsts : List A) (seconds : List B) (found : X) : Type 0 where
  pub first : A
  pub second : B
  pub has_first : Contains firsts first
  pub has_second : Contains seconds second
  pub is : Is first second found

-- each element comes before all that follow it
abbrev pub Ascends : {X : Type 0} → (X → X → Ordering) → List X → Type 0
Ascends {X} order list = (i j : ℕ) (x y : X) → i < j → slice_get list i ≡ Some x → slice_get list j ≡ Some y → order x y ≡ Less

-- a list is that of all that is found: each once, in order
pub record AreAll {X : Type 0} (order : X → X → Ordering) (Is : X → Type 0) (list : List X) : Type 0 where
  pub only : (x : X) → Contains list x → Is x
  pub all : (x : X) → Is x → Contains list x
  pub ascend : Ascends order list
