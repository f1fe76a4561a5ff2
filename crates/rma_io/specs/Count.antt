-- Counts, which never fall and stand still at the last value of 64 bits.
use Rattle.std.specs.Prelude.{◌≡◌, ℕ, ◌+◌, ◌-◌, ◌^◌, ◌<◌, ◌⊎◌, min}

-- a count rose in a call: it is greater after it, or it stands at the end of its type
abbrev pub Rose : ℕ → ℕ → Type 0
Rose old new = (old < new) ⊎ (new ≡ 2 ^ 64 - 1)

-- a count after n more things were counted
abbrev pub raised : ℕ → ℕ → ℕ
raised count n = min (count + n) (2 ^ 64 - 1)
