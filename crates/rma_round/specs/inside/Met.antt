-- The meets of a run, each once: turn by turn some rounds of each name.
use Rattle.std.specs.Prelude.{ℕ, zero, suc, ◌+◌, ◌-◌, ◌*◌, ◌/◌, ◌==◌, min, List, [], ◌++◌, Bool, false, Option, option_map, slice_get, if◌then◌else◌}
use Rattle.std.specs.List.{flat_map, list_any}
use Rattle.std.specs.Option.{option_map_or}
use Rattle.rma_call.specs.Call.{RankCalls}
use Rattle.rma_link.specs.declared.meet.Member.{Member}
use Rattle.rma_link.specs.declared.meet.Meet.{Meet}
use Rattle.rma_run.specs.Run.{calls_of}
use Rattle.rma_round.specs.declared.kind.Kind.{Kind}
use Rattle.rma_round.specs.declared.name_rounds.NameRounds.{NameRounds}
use Rattle.rma_round.specs.declared.rounds.Rounds.{Rounds}
use Rattle.rma_round.specs.Meet.{waits_for_all, round_at, meet_of, kinds}
use Rattle.rma_round.specs.inside.Rounds.{of_kind, rounds_in}

-- the call of a rank in the round of this number, by what is kept of the rank
abbrev pub member_in : ℕ → ℕ × List ℕ → Option Member
member_in place entry = option_map (λ call. record { rank = record { 0 = entry.0 }; call = call }) (slice_get entry.1 place)

-- whether a call of a round waits for all
abbrev pub member_waits : List RankCalls → Member → Bool
member_waits ranks member = option_map_or (λ call. waits_for_all call.what) (slice_get (calls_of ranks member.rank.0) member.call) false

-- the meet of the calls of a round, if any waits for all
abbrev pub met : List RankCalls → List Member → List Meet
met ranks members = if list_any (member_waits ranks) members then meet_of members else []

-- what is had of the rounds before that of this number
abbrev pub before_round : (ℕ → List Meet) → ℕ → List Meet
before_round f zero = []
before_round f (suc place) = before_round f place ++ f place

-- what is had of the rounds from one number up to another
abbrev pub from_round : (ℕ → List Meet) → ℕ → ℕ → List Meet
from_round f from to = before_round (λ k. f (from + k)) (to - from)

-- with how many rounds a turn begins, of so many turns, where there are so many rounds: the last one has what is left
abbrev pub turn_start : ℕ → ℕ → ℕ → ℕ
turn_start turns rounds turn = if turn == turns then rounds else min (turn * (rounds / turns)) rounds

-- the meets of a turn of a kind on a name, by what is kept of the name
abbrev pub name_meets : List RankCalls → Kind → ℕ → ℕ → List ℕ × NameRounds → List Meet
name_meets ranks kind turns turn entry =
    let most = rounds_in entry.1 in
    from_round (λ place. met ranks (round_at kind entry.0 ranks place)) (turn_start turns most turn) (turn_start turns most (turn + 1))

-- the meets of a turn of a kind, by what is kept of its names
abbrev pub turn_meets : List RankCalls → Kind → ℕ → List (List ℕ × NameRounds) → ℕ → List Meet
turn_meets ranks kind turns names turn = flat_map (name_meets ranks kind turns turn) names

-- the meets of a kind
abbrev pub kind_meets : List RankCalls → Rounds → ℕ → Kind → List Meet
kind_meets ranks rounds turns kind = before_round (turn_meets ranks kind turns (of_kind kind rounds).names.entries) turns

-- the meets of all kinds
abbrev pub all_meets : List RankCalls → Rounds → ℕ → List Meet
all_meets ranks rounds turns = flat_map (kind_meets ranks rounds turns) kinds
