-- How the reports are gathered: list by list, index by index; and the exposures in their order.
use Rattle.std.specs.Prelude.{◌≡◌, ◌<◌, ◌≤◌, ◌⊎◌, ◌==◌, ◌||◌, ◌&&◌, nat_le, nat_lt, not, Bool, true, false, ℕ, List, Contains, Option, Some, None, slice_get, length}
use Rattle.std.specs.Cmp.{IsTotalOrder}
use Rattle.std.specs.declared.cmp.Ordering.{Ordering}
use Rattle.std.specs.declared.cmp.Ordering.TheVariants.{Equal}
use Rattle.rma_base.specs.declared.rank.Rank.{Rank}
use Rattle.rma_rules.specs.declared.span.Exposure.{Exposure}
use Rattle.rma_rules.specs.declared.span.ExposureKind.{ExposureKind}
use Rattle.rma_rules.specs.declared.span.ExposureKind.TheVariants.{Fenced, Posted}
use Rattle.rma_concurrent.specs.Listed.{Ascends}

-- something is found of an element of a list that stands from one index up to another
pub record IsFrom {B X : Type 0} (Is : B → X → Type 0) (list : List B) (low high : ℕ) (found : X) : Type 0 where
  pub place : ℕ
  pub element : B
  pub from : low ≤ place
  pub below : place < high
  pub there : slice_get list place ≡ Some element
  pub is : Is element found

-- something is found of an element of a list
abbrev pub IsOf : {B X : Type 0} → (B → X → Type 0) → List B → X → Type 0
IsOf Is list found = IsFrom Is list 0 (length list) found

-- a list has what it had, and all that is found
pub record HasMore {X : Type 0} (Is : X → Type 0) (old new : List X) : Type 0 where
  pub only : (x : X) → Contains new x → Contains old x ⊎ Is x
  pub kept : (x : X) → Contains old x → Contains new x
  pub all : (x : X) → Is x → Contains new x

-- an order in which no two different elements have one place
pub record IsOrder {X : Type 0} (order : X → X → Ordering) : Type 0 where
  pub total : IsTotalOrder order
  pub ties : (x y : X) → order x y ≡ Equal → x ≡ y

-- a list has the elements of another, each once, in order
pub record IsInOrder {X : Type 0} (order : X → X → Ordering) (list out : List X) : Type 0 where
  pub only : (x : X) → Contains out x → Contains list x
  pub all : (x : X) → Contains list x → Contains out x
  pub ascend : Ascends order out

-- ---- exposures in their order: by window, by target, by kind, and by the calls that open them

-- the place of a kind among the kinds
abbrev pub kind_place : ExposureKind → ℕ
kind_place Posted = 0
kind_place Fenced = 1

-- the one comes before the other, or beside it
pub record IsNotAfter (a b : Exposure) : Type 0 where
  pub windows : a.window.0 ≤ b.window.0
  pub targets : a.window.0 ≡ b.window.0 → a.target.0 ≤ b.target.0
  pub kinds : a.window.0 ≡ b.window.0 → a.target.0 ≡ b.target.0 → kind_place a.kind ≤ kind_place b.kind
  pub openers : a.window.0 ≡ b.window.0 → a.target.0 ≡ b.target.0 → kind_place a.kind ≡ kind_place b.kind → a.opener ≤ b.opener

-- a list of exposures is in that order
abbrev pub Rise : List Exposure → Type 0
Rise list = (i j : ℕ) (a b : Exposure) → i ≤ j → slice_get list i ≡ Some a → slice_get list j ≡ Some b → IsNotAfter a b

-- an exposure comes before those of a window, at one target or at all
abbrev pub is_below : ℕ → Option Rank → Exposure → Bool
is_below window None own = nat_lt own.window.0 window
is_below window (Some target) own = nat_lt own.window.0 window || (own.window.0 == window && nat_lt own.target.0 target.0)

-- it comes behind them
abbrev pub is_above : ℕ → Option Rank → Exposure → Bool
is_above window None own = nat_lt window own.window.0
is_above window (Some target) own = nat_lt window own.window.0 || (window == own.window.0 && nat_lt target.0 own.target.0)

-- ---- exposures side by side

-- two exposures are of one window, one target and one kind
pub record IsBeside (a b : Exposure) : Type 0 where
  pub window : a.window ≡ b.window
  pub target : a.target ≡ b.target
  pub kind : a.kind ≡ b.kind

-- so are all from one index up to another
abbrev pub AreBeside : List Exposure → ℕ → ℕ → Type 0
AreBeside list low high = (i j : ℕ) (a b : Exposure) → low ≤ i → i < high → low ≤ j → j < high → slice_get list i ≡ Some a → slice_get list j ≡ Some b → IsBeside a b

-- whether two are
abbrev pub is_beside : Exposure → Exposure → Bool
is_beside a b = a.window.0 == b.window.0 && (a.target.0 == b.target.0 && kind_place a.kind == kind_place b.kind)

-- the second is of a window, a target or a kind that comes behind those of the first
abbrev pub is_behind : Exposure → Exposure → Bool
is_behind a b = nat_lt a.window.0 b.window.0 || (a.window.0 == b.window.0 && (nat_lt a.target.0 b.target.0 || (a.target.0 == b.target.0 && nat_lt (kind_place a.kind) (kind_place b.kind))))

-- the one call comes no later than the other, if there is one; no call comes never
abbrev pub is_by : Option ℕ → Option ℕ → Bool
is_by first None = true
is_by None (Some second) = false
is_by (Some first) (Some second) = nat_le first second

-- of two that stand side by side, one behind the other, the first closes no later
abbrev pub is_in_step : Exposure → Exposure → Bool
is_in_step a b = not (is_beside a b) || is_by a.close b.close

-- so it is in a list of any two such
abbrev pub ClosesRise : List Exposure → Type 0
ClosesRise list = (i j : ℕ) (a b : Exposure) → i ≤ j → slice_get list i ≡ Some a → slice_get list j ≡ Some b → IsBeside a b → is_by a.close b.close ≡ true
