-- The names of communicators, windows, requests and datatypes (the log format of this product).
use Rattle.std.specs.Prelude.{ℕ, List, [], ◌∷◌, length, Bool, false, ◌||◌, ◌&&◌, ◌==◌, nat_le}
use Rattle.std.specs.List.{list_all}

-- a number from `low` to `high`
abbrev pub is_between : ℕ → ℕ → ℕ → Bool
is_between low high b = nat_le low b && nat_le b high

-- a letter of ASCII, or `_`
abbrev pub begins_name : ℕ → Bool
begins_name b = is_between 65 90 b || is_between 97 122 b || b == 95

-- one of these, a digit, `.` or `-`
abbrev pub continues_name : ℕ → Bool
continues_name b = begins_name b || is_between 48 57 b || b == 46 || b == 45

-- a letter or `_`, then letters, digits, `_`, `.` and `-`, 64 bytes at most
abbrev pub is_name : List ℕ → Bool
is_name [] = false
is_name (b ∷ bs) = begins_name b && list_all continues_name bs && nat_le (length bs) 63
