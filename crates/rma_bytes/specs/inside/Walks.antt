-- Words for the walks over lists of runs that build a set.
use Rattle.std.specs.Prelude.{nat_lt, if◌then◌else◌, ℤ, pos, neg_ℤ, ◌+ℤ◌, ◌≤ℤ◌, ◌<ℤ◌, ◌^◌, List, [], ◌∷◌, ◌++◌, ⊤}
use Rattle.rma_bytes.specs.declared.run.Run.{Run}
use Rattle.rma_bytes.specs.Runs.{HasByte}

-- the starts of the runs do not fall, and the first is no less than s
abbrev pub AscendFrom : ℤ → List Run → Type 0
AscendFrom s [] = ⊤
AscendFrom s (run ∷ runs) = (s ≤ℤ run.start) × AscendFrom run.start runs

-- the starts of runs within the bounds do not fall
abbrev pub Ascend : List Run → Type 0
Ascend runs = AscendFrom (neg_ℤ (pos (2 ^ 49))) runs

-- each byte of the runs lies before s: at least one number lies between
abbrev pub LieBefore : List Run → ℤ → Type 0
LieBefore runs s = (b : ℤ) → HasByte runs b → (b +ℤ pos 1) <ℤ s

-- the runs with one more after them, unless that is empty
abbrev pub kept : List Run → Run → List Run
kept runs run = (if nat_lt 0 run.len then runs ++ run ∷ [] else runs)
