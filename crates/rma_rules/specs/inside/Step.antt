-- Runs of accumulates whose elements start at the same places.
use Rattle.std.specs.Prelude.{◌≡◌, ◌*◌, ◌⊎◌, ℕ, ℤ, pos, ◌+ℤ◌, List, Contains, Option, Some, None, ⊤}
use Rattle.rma_bytes.specs.declared.run.Run.{Run}
use Rattle.rma_bytes.specs.Runs.{IsByteOf}

-- one run starts a number of whole elements after the other
abbrev pub AreInStep : ℕ → Run → Run → Type 0
AreInStep size x y = (k : ℕ) × ((x.start ≡ y.start +ℤ pos (k * size)) ⊎ (y.start ≡ x.start +ℤ pos (k * size)))

-- two runs share a byte
abbrev pub RunsMeet : Run → Run → Type 0
RunsMeet x y = (b : ℤ) × IsByteOf x b × IsByteOf y b

-- they are out of step, where a size is given
abbrev pub AreOutOfStep : Option ℕ → Run → Run → Type 0
AreOutOfStep None x y = ⊤
AreOutOfStep (Some size) x y = ¬ AreInStep size x y

-- two runs share a byte, and are out of step
unfoldable pub RunsClash : Option ℕ → Run → Run → Type 0
RunsClash size x y = RunsMeet x y × AreOutOfStep size x y

-- some run of each list do
unfoldable pub Clash : Option ℕ → List Run → List Run → Type 0
Clash size xs ys = (x : Run) × (y : Run) × Contains xs x × Contains ys y × RunsClash size x y
