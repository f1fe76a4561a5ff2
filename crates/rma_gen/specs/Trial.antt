-- The logs of a trial: what the ranks of a made-up program would have recorded (docs/FORMAT.md, "The logs of a trial").
use Rattle.std.specs.Prelude.{ℕ, ◌+◌, ◌*◌, ◌%◌, ◌≤◌, List, [], ◌∷◌, ◌++◌, codes, decimal, suc, zero, ◌==◌, if◌then◌else◌}
use Rattle.rma_gen.specs.declared.trial.Trial.{Trial}

-- what a trial may ask for
pub record CanRun (trial : Trial) : Type 0 where
  pub some_ranks : 2 ≤ trial.ranks
  pub few_ranks : trial.ranks ≤ 64
  pub some_rounds : 1 ≤ trial.rounds
  pub few_rounds : trial.ranks * trial.rounds ≤ 1000000

-- the rank that a rank puts to
abbrev pub target : Trial → ℕ → ℕ
target trial rank = (rank + 1) % trial.ranks

-- which element of the target's window is put to in a round
abbrev pub displacement : Trial → ℕ → ℕ
displacement trial round = (trial.seed + round) % 1024

-- where the element stands that is put in a round
abbrev pub origin : ℕ → ℕ
origin round = 16384 + 4 * (round % 1024)

-- where the element stands that a rank loads in a round: once in a hundred rounds it is the one that is put to, and else the one behind it
abbrev pub loaded : Trial → ℕ → ℕ → ℕ
loaded trial rank round =
    if (trial.seed + round) % 100 == rank then 4096 + 4 * displacement trial round else 4096 + 4 * ((displacement trial round + 1) % 1024)

-- the lines before the rounds
abbrev pub first_lines : Trial → ℕ → List ℕ
first_lines trial rank =
    codes "rma 1 " ++ decimal rank ++ codes " " ++ decimal trial.ranks ++ codes "\n"
    ++ codes "win create W world 4096 4096 4 unified same_op_no_op\n"
    ++ codes "fence W noprecede\n"

-- the lines of a round
abbrev pub round_lines : Trial → ℕ → ℕ → List ℕ
round_lines trial rank round =
    codes "put W " ++ decimal (target trial rank) ++ codes " " ++ decimal (displacement trial round) ++ codes " 1 INT " ++ decimal (origin round) ++ codes " 1 INT\n"
    ++ codes "load " ++ decimal (loaded trial rank round) ++ codes " 1 INT\n"
    ++ codes "fence W\n"

-- the lines behind the rounds
abbrev pub last_lines : List ℕ
last_lines = codes "win free W\n" ++ codes "end\n"

-- the lines of the first so many rounds
abbrev pub rounds_text : Trial → ℕ → ℕ → List ℕ
rounds_text trial rank zero = []
rounds_text trial rank (suc round) = rounds_text trial rank round ++ round_lines trial rank round

-- the log of a rank
unfoldable pub log_of : Trial → ℕ → List ℕ
log_of trial rank = first_lines trial rank ++ rounds_text trial rank trial.rounds ++ last_lines

-- the logs of the first so many ranks
abbrev pub logs_below : Trial → ℕ → List (List ℕ)
logs_below trial zero = []
logs_below trial (suc rank) = logs_below trial rank ++ log_of trial rank ∷ []

-- the logs of a trial, by rank
abbrev pub trial_logs : Trial → List (List ℕ)
trial_logs trial = logs_below trial trial.ranks
