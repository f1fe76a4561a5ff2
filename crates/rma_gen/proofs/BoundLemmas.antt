-- How many bytes the logs of a trial have at most.
use Rattle.std.proofs.Common.{◌≡◌, ℕ, ◌+◌, ◌*◌, ◌%◌, ◌^◌, ◌<◌, ◌≤◌, Bool, true, false, cond, List, [], ◌∷◌, ◌++◌, ◌==◌, suc, zero, length, map, codes, decimal, refl, ap, arith, length-append}
use Rattle.std.proofs.Math.Nat.{suc-mul}
use Rattle.std.specs.List.{sum_by}
use Rattle.std.proofs.lemmas.Fmt.{length-decimal-le}
use Rattle.std.proofs.lemmas.Nat.{mod_below}
use Rattle.std.proofs.lemmas.List.{length_push}
use Rattle.std.proofs.lemmas.List.Sums.{sum_by-cons, sum_by-append}
use Rattle.rma_gen.specs.Trial.{CanRun, target, displacement, origin, loaded, first_lines, round_lines, rounds_text, last_lines, log_of, logs_below, trial_logs}
use Rattle.rma_gen.specs.TrialLogs.{Tape, TrialSource, text_of, texts_of, untouched, unread, source_of}
use Rattle.rma_gen.specs.declared.trial.Trial.{Trial}

short : (n : ℕ) → n < 2 ^ 32 → length (decimal n) ≤ 10
short n small = length-decimal-le 10 n (omega arith) (omega (arith, small)) (omega (arith, small))

seven : (a b c d e f g : List ℕ) → length (a ++ b ++ c ++ d ++ e ++ f ++ g) ≡ length a + length b + length c + length d + length e + length f + length g
seven a b c d e f g = omega (
  arith,
  length-append (a ++ b ++ c ++ d ++ e ++ f) g,
  length-append (a ++ b ++ c ++ d ++ e) f,
  length-append (a ++ b ++ c ++ d) e,
  length-append (a ++ b ++ c) d,
  length-append (a ++ b) c,
  length-append a b,
)

put_and_load : (a b c d e f g h i j k : List ℕ) → length (a ++ b ++ c ++ d ++ e ++ f ++ g ++ h ++ i ++ j ++ k) ≡
    length a + length b + length c + length d + length e + length f + (length g + length h + length i + length j + length k)
put_and_load a b c d e f g h i j k =
    let before = a ++ b ++ c ++ d ++ e ++ f in omega (
      arith,
      length-append (before ++ g ++ h ++ i ++ j) k,
      length-append (before ++ g ++ h ++ i) j,
      length-append (before ++ g ++ h) i,
      length-append (before ++ g) h,
      length-append before g,
      length-append (a ++ b ++ c ++ d ++ e) f,
      length-append (a ++ b ++ c ++ d) e,
      length-append (a ++ b ++ c) d,
      length-append (a ++ b) c,
      length-append a b,
    )

module _ (trial : Trial) (can : CanRun trial) where
  target_short : (rank : ℕ) → length (decimal (target trial rank)) ≤ 10
  target_short rank = short (target trial rank) (omega (arith, mod_below (rank + 1) trial.ranks (omega (arith, can.some_ranks)), can.few_ranks))

  displacement_short : (round : ℕ) → length (decimal (displacement trial round)) ≤ 10
  displacement_short round = short (displacement trial round) (omega (arith, mod_below (trial.seed + round) 1024 (omega arith)))

  origin_short : (round : ℕ) → length (decimal (origin round)) ≤ 10
  origin_short round = short (origin round) (omega (arith, mod_below round 1024 (omega arith)))

  loaded_small : (rank round : ℕ) → loaded trial rank round < 2 ^ 32
  loaded_small rank round = by ((trial.seed + round) % 100 == rank)
    where
      by : (b : Bool) → cond b (4096 + 4 * displacement trial round) (4096 + 4 * ((displacement trial round + 1) % 1024)) < 2 ^ 32
      by true = omega (arith, mod_below (trial.seed + round) 1024 (omega arith))
      by false = omega (arith, mod_below (displacement trial round + 1) 1024 (omega arith))

  first_bound : (rank : ℕ) → rank < trial.ranks → length (first_lines trial rank) ≤ 100
  first_bound rank below =
      let size : length (first_lines trial rank) ≡ 6 + length (decimal rank) + 1 + length (decimal trial.ranks) + 1 + 53 + 18 =
      seven (codes "rma 1 ") (decimal rank) (codes " ") (decimal trial.ranks) (codes "\n") (codes "win create W world 4096 4096 4 unified same_op_no_op\n") (codes "fence W noprecede\n") in
      omega (arith, size, short rank (omega (arith, below, can.few_ranks)), short trial.ranks (omega (arith, can.few_ranks)))

  round_bound : (rank round : ℕ) → length (round_lines trial rank round) ≤ 100
  round_bound rank round =
      let size : length (round_lines trial rank round) ≡
      6 + length (decimal (target trial rank)) + 1 + length (decimal (displacement trial round)) + 7 + length (decimal (origin round)) + (7 + 5 + length (decimal (loaded trial rank round)) + 7 + 8) =
      put_and_load (codes "put W ") (decimal (target trial rank)) (codes " ") (decimal (displacement trial round)) (codes " 1 INT ") (decimal (origin round))
      (codes " 1 INT\n") (codes "load ") (decimal (loaded trial rank round)) (codes " 1 INT\n") (codes "fence W\n") in
      omega (arith, size, target_short rank, displacement_short round, origin_short round, short (loaded trial rank round) (loaded_small rank round))

  rounds_bound : (rank round : ℕ) → length (rounds_text trial rank round) ≤ 100 * round
  rounds_bound rank zero = omega arith
  rounds_bound rank (suc round) = omega (arith, length-append (rounds_text trial rank round) (round_lines trial rank round), rounds_bound rank round, round_bound rank round)

  log_bound : (rank : ℕ) → rank < trial.ranks → length (log_of trial rank) ≤ 115 + 100 * trial.rounds
  unfolding log_of
  log_bound rank below =
      let first = first_lines trial rank in
      let rounds = rounds_text trial rank trial.rounds in
      let end : length last_lines ≡ 15 = refl in
      omega (arith, length-append (first ++ rounds) last_lines, length-append first rounds, first_bound rank below, rounds_bound rank trial.rounds, end)

  logs_bound : (ranks : ℕ) → ranks ≤ trial.ranks → sum_by (λ (log : List ℕ). length log) (logs_below trial ranks) ≤ 115 * ranks + 100 * (ranks * trial.rounds)
  logs_bound zero few = omega arith
  logs_bound (suc rank) few =
      let log = log_of trial rank in
      let more = sum_by-append (λ (log : List ℕ). length log) (logs_below trial rank) (log ∷ []) in
      let one = sum_by-cons (λ (log : List ℕ). length log) log [] in
      let product : suc rank * trial.rounds ≡ rank * trial.rounds + trial.rounds = suc-mul rank trial.rounds in
      omega (arith, more, one, product, logs_bound rank (omega (arith, few)), log_bound rank few)

  -- far fewer than are read
  pub all_bound : sum_by (λ (log : List ℕ). length log) (trial_logs trial) ≤ 200000000
  all_bound = omega (arith, logs_bound trial.ranks (omega arith), can.few_rounds, can.few_ranks)

-- what was taken is part of the logs
taken_of : (tapes : List Tape) → sum_by (λ (tape : Tape). length tape.taken) tapes ≤ sum_by (λ (log : List ℕ). length log) (map text_of tapes)
taken_of [] = omega arith
taken_of (tape ∷ tapes) =
    omega (
      arith,
      sum_by-cons (λ (tape : Tape). length tape.taken) tape tapes,
      sum_by-cons (λ (log : List ℕ). length log) (text_of tape) (map text_of tapes),
      length-append tape.taken tape.left,
      taken_of tapes,
    )

pub taken_bound : (trial : Trial) → CanRun trial → (source : TrialSource) → texts_of source ≡ trial_logs trial → (source_of source).taken ≤ 200000000
taken_bound trial can source texts =
    omega (arith, taken_of source.tapes, ap (λ (logs : List (List ℕ)). sum_by (λ (log : List ℕ). length log) logs) texts, all_bound trial can)

-- the logs of which nothing was taken are the logs
untouched_texts : (texts : List (List ℕ)) → map text_of (map untouched texts) ≡ texts
untouched_texts [] = refl
untouched_texts (text ∷ texts) = ap (λ them. text ∷ them) (untouched_texts texts)

pub unread_texts : (trial : Trial) → texts_of (unread trial) ≡ trial_logs trial
unread_texts trial = untouched_texts (trial_logs trial)

pub as_many_as_ranks : (trial : Trial) → (ranks : ℕ) → length (logs_below trial ranks) ≡ ranks
as_many_as_ranks trial zero = refl
as_many_as_ranks trial (suc rank) = omega (arith, length_push (logs_below trial rank) (log_of trial rank), as_many_as_ranks trial rank)
