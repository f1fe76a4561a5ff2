-- A log of a trial as parts that are made one at a time, and how far it was given out.
use Rattle.std.specs.Prelude.{All, ◌∷◌, slice_index, ◌≡◌, ℕ, ◌+◌, ◌<◌, ◌≤◌, ◌⊎◌, List, [], ◌++◌, length, take, drop, suc, zero, nat_lt, ◌==◌, if◌then◌else◌}
use Rattle.rma_gen.specs.Trial.{CanRun, log_of, first_lines, round_lines, last_lines}
use Rattle.rma_gen.specs.TrialLogs.{Tape, NoneLeft}
use Rattle.rma_gen.specs.declared.trial.Trial.{Trial}
use Rattle.rma_gen.specs.declared.rank_log.RankLog.{RankLog}

-- how many parts a log has: a round is a part
abbrev pub parts_of : Trial → ℕ
parts_of trial = trial.rounds + 2

-- the lines of a part
abbrev pub part_text : Trial → ℕ → ℕ → List ℕ
part_text trial rank zero = first_lines trial rank
part_text trial rank (suc round) = if nat_lt round trial.rounds then round_lines trial rank round else last_lines

-- the parts before this one
abbrev pub text_before : Trial → ℕ → ℕ → List ℕ
text_before trial rank zero = []
text_before trial rank (suc part) = text_before trial rank part ++ part_text trial rank part

-- a place in a log: within a part, or behind the last one
pub record IsPlace (trial : Trial) (log : RankLog) : Type 0 where
  pub ranked : log.rank < trial.ranks
  pub within : ((log.part < parts_of trial) × (log.offset < length (part_text trial log.rank log.part))) ⊎ ((log.part ≡ parts_of trial) × (log.offset ≡ 0))

-- how many bytes stand before a place
abbrev pub given : Trial → RankLog → ℕ
given trial log = length (text_before trial log.rank log.part) + log.offset

-- the log that was given out up to a place
abbrev pub tape_at : Trial → RankLog → Tape
tape_at trial log = record { taken = take (given trial log) (log_of trial log.rank); left = drop (given trial log) (log_of trial log.rank) }

-- a place after so many bytes more of a part of which so many are left
abbrev pub advanced : ℕ → ℕ → RankLog → RankLog
advanced len left log =
    if len == left then record { rank = log.rank; part = log.part + 1; offset = 0 } else record { rank = log.rank; part = log.part; offset = log.offset + len }

-- the places where the logs of the first so many ranks begin
abbrev pub places_below : ℕ → List RankLog
places_below zero = []
places_below (suc rank) = places_below rank ++ record { rank = rank; part = 0; offset = 0 } ∷ []

-- what holds of the places in the logs of a trial, and of the rank whose turn it is
pub record HasPlaces (trial : Trial) (logs : List RankLog) (turn : ℕ) : Type 0 where
  pub can_run : CanRun trial
  pub one_a_rank : length logs ≡ trial.ranks
  pub places : All (IsPlace trial) logs
  pub turn_is : turn < trial.ranks

-- this rank is the first of these with something left
abbrev pub IsFirstLeft : List ℕ → ℕ → ℕ → ℕ → Type 0
IsFirstLeft left from rank to = (0 < slice_index left rank) × (from ≤ rank) × (rank < to) × NoneLeft left from rank
