-- Which detaches have a region to end.
use Rattle.std.specs.Prelude.{◌≤◌, ℕ, List, Contains}
use Rattle.rma_dyn.specs.declared.change.Change.{Change}
use Rattle.rma_dyn.specs.Region.{IsAtSame, IsDetachOf, IsLiveAt}

-- a region that is live at a detach begins at its address
abbrev pub IsKnown : List Change → Change → Type 0
IsKnown list d = (g : Change) × Contains list g × IsAtSame g d × IsLiveAt list g d.call

-- an attach has no detach before the call of a number of its rank
abbrev pub IsStill : List Change → Change → ℕ → Type 0
IsStill list g number = (h : Change) → IsDetachOf list g h → number ≤ h.call
