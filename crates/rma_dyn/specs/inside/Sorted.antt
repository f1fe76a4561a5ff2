-- Attaches and detaches in their order: by rank, window, address and call.
use Rattle.std.specs.Prelude.{◌≡◌, ◌+◌, ◌≤◌, ◌==◌, ◌&&◌, ◌||◌, nat_lt, ℕ, Bool, All, List, Contains, Option, Some, None, is_none, length, slice_get, if◌then◌else◌}
use Rattle.rma_base.specs.Limits.{address_limit}
use Rattle.rma_rules.specs.declared.span.Owner.{Owner}
use Rattle.rma_dyn.specs.declared.change.Change.{Change}
use Rattle.rma_dyn.specs.Region.{IsBeside}

-- the one comes before the other, or beside it
pub record IsNotAfter (a b : Change) : Type 0 where
  pub ranks : a.rank.0 ≤ b.rank.0
  pub windows : a.rank.0 ≡ b.rank.0 → a.window.0 ≤ b.window.0
  pub addresses : a.rank.0 ≡ b.rank.0 → a.window.0 ≡ b.window.0 → a.address ≤ b.address
  pub calls : a.rank.0 ≡ b.rank.0 → a.window.0 ≡ b.window.0 → a.address ≡ b.address → a.call ≤ b.call

-- a list is in that order
abbrev pub Rise : List Change → Type 0
Rise list = (i j : ℕ) (a b : Change) → i ≤ j → slice_get list i ≡ Some a → slice_get list j ≡ Some b → IsNotAfter a b

-- whether one is of a rank and a window
abbrev pub is_owned : Owner → Change → Bool
is_owned owner own = own.rank.0 == owner.rank.0 && own.window.0 == owner.window.0

-- the rank and the window of one
abbrev pub owner_of : Change → Owner
owner_of own = record { rank = own.rank; window = own.window }

-- whether one comes before those of a rank and a window at an address and from the call of a number on
abbrev pub is_below : Owner → ℕ → ℕ → Change → Bool
is_below owner address call own =
    nat_lt own.rank.0 owner.rank.0
    || (own.rank.0 == owner.rank.0
    && (nat_lt own.window.0 owner.window.0
    || (own.window.0 == owner.window.0
    && (nat_lt own.address address || (own.address == address && nat_lt own.call call)))))

-- a detach, if it is one at the address of an attach
abbrev pub some_detach : Change → Change → Option Change
some_detach g next =
    if ((next.rank.0 == g.rank.0 && next.window.0 == g.window.0) && next.address == g.address) && is_none next.size then Some next else None

-- a rank makes one call of a number
abbrev pub AreOnce : List Change → Type 0
AreOnce list = (a b : Change) → Contains list a → Contains list b → a.rank ≡ b.rank → a.call ≡ b.call → a ≡ b

-- the bytes of an attach lie in the space of addresses
abbrev pub IsInSpace : Change → Type 0
IsInSpace c = (size : ℕ) → c.size ≡ Some size → c.address + size ≤ address_limit

-- so do those of each
abbrev pub AreInSpace : List Change → Type 0
AreInSpace list = All IsInSpace list

-- the address behind the bytes that an attach of so many gives; 0 for a detach
abbrev pub end_with : ℕ → Option ℕ → ℕ
end_with address None = 0
end_with address (Some size) = address + size

-- the same of a call
abbrev pub end_of : Change → ℕ
end_of c = end_with c.address c.size

-- one stands up to those of a rank and a window, or among them
pub record IsUpTo (owner : Owner) (own : Change) : Type 0 where
  pub rank : own.rank.0 ≤ owner.rank.0
  pub window : own.rank.0 ≡ owner.rank.0 → own.window.0 ≤ owner.window.0

-- for each index up to which these numbers go no attach of the same rank and window ends behind its number that stands there or before
abbrev pub Reach : List Change → List ℕ → Type 0
Reach list reaches =
    (i j : ℕ) (a b : Change) (reach : ℕ) → j ≤ i → slice_get list i ≡ Some a → slice_get list j ≡ Some b → IsBeside b a → slice_get reaches i ≡ Some reach → end_of b ≤ reach

-- so they go up to all of a list
pub record AreReaches (list : List Change) (reaches : List ℕ) : Type 0 where
  pub as_many : length reaches ≡ length list
  pub each : Reach list reaches
