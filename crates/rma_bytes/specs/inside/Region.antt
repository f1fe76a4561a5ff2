-- What stands in a region.
use Rattle.std.specs.Prelude.{◌≤◌, length, map, List, [], ◌∷◌}
use Rattle.rma_bytes.specs.declared.run.Run.{Run}
use Rattle.rma_bytes.specs.declared.region.Stored.{Stored}
use Rattle.rma_bytes.specs.declared.region.Stored.TheVariants.{Empty, One, Several}
use Rattle.rma_bytes.specs.Runs.{IsCanonical, moved}

-- the runs of a region
abbrev pub runs_in : Stored → List Run
runs_in Empty = []
runs_in (One run) = run ∷ []
runs_in (Several runs by) = map (moved by) runs.value

-- they are in canonical form, also where they are not moved, and several where they are shared
abbrev pub IsStored : Stored → Type 0
IsStored Empty = Unit {0}
IsStored (One run) = IsCanonical (run ∷ [])
IsStored (Several runs by) = (2 ≤ length runs.value) × IsCanonical runs.value × IsCanonical (map (moved by) runs.value)
