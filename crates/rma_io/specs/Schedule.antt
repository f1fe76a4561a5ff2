-- Which log a source in memory reads next, and how many bytes of it. Logs are read as a list of pairs says, a rank and a
-- number of bytes each, and then from the lowest rank on. What is left of the logs is a list of numbers, by rank.
use Rattle.std.specs.Prelude.{◌≡◌, ℕ, ◌+◌, ◌<◌, ◌⊎◌, List, [], All, Some, min, max, take, drop, slice_get, slice_index}

-- a rank, and how many bytes of its log to read next
abbrev pub Cut : Type 0
Cut = ℕ × ℕ

-- nothing
abbrev pub IsZero : ℕ → Type 0
IsZero n = n ≡ 0

-- a pair names a log with nothing left, or none at all
abbrev pub IsIdle : List ℕ → Cut → Type 0
IsIdle left cut = slice_index left cut.0 ≡ 0

-- the first pair whose log has bytes left says what is read: the bytes that it asks for, where 0 counts as 1, as far as
-- they are there and there is room; it and those before it are used up
pub record IsNextByCut (left : List ℕ) (cuts : List Cut) (room rank len : ℕ) (unused : List Cut) : Type 0 where
  pub index : ℕ
  pub asked : ℕ
  pub idle_before : All (IsIdle left) (take index cuts)
  pub stands : slice_get cuts index ≡ Some (rank, asked)
  pub some_left : 0 < slice_index left rank
  pub capped : len ≡ min (max asked 1) (min room (slice_index left rank))
  pub uses : unused ≡ drop (index + 1) cuts

-- no pair is left whose log has bytes left, and the lowest rank with bytes left is read, as many as fit
pub record IsNextByRank (left : List ℕ) (cuts : List Cut) (room rank len : ℕ) (unused : List Cut) : Type 0 where
  pub idle : All (IsIdle left) cuts
  pub none_below : All IsZero (take rank left)
  pub some_left : 0 < slice_index left rank
  pub capped : len ≡ min room (slice_index left rank)
  pub uses : unused ≡ []

-- the log of this rank is read next, for len bytes
abbrev pub IsNext : List ℕ → List Cut → ℕ → ℕ → ℕ → List Cut → Type 0
IsNext left cuts room rank len unused = IsNextByCut left cuts room rank len unused ⊎ IsNextByRank left cuts room rank len unused

-- no log is read next: nothing is left of any, and no pair either
abbrev pub NoneIsNext : List ℕ → List Cut → Type 0
NoneIsNext left unused = All IsZero left × (unused ≡ [])
