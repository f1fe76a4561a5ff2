-- The logs of all ranks, and how one of them is served.
use Rattle.std.proofs.Common.{◌≡◌, ℕ, ◌+◌, ◌%◌, ◌<◌, ◌≤◌, List, [], ◌∷◌, ◌++◌, suc, zero, length, map, take, drop, set, get_or, min, All, Ok, refl, sym, ap, subst, inl, ◌∙◌, arith, append_assoc, length-append}
use Rattle.std.specs.List.{sum_by, slice_index, refill}
use Rattle.std.proofs.lemmas.List.{length-map, length-set, length-drop, length-take-le, get_or-map, map_push, map-set, take-append-drop, take_at, set-get_or, length_push, nil_from_length}
use Rattle.std.proofs.lemmas.Nat.{mod_below}
use Rattle.std.proofs.lemmas.List.Elements.{All-nil, All-push, All-set, All-map}
use Rattle.std.proofs.lemmas.List.Sums.{sum_by-set}
use Rattle.std.proofs.lemmas.Option.{slice_get_within, slice_get_read, get_or_from_slice_get}
use Rattle.std.specs.Io.KnownBytes.{IsAtEnd}
use Rattle.rma_io.specs.LogBytes.{LogBytes, unknown, Takes, TakesFrom}
use Rattle.rma_io.specs.Source.{IsPulled}
use Rattle.rma_io.specs.declared.source.Pull.TheVariants.{Bytes, Done}
use Rattle.rma_io.proofs.LogBytesLemmas.{AllStay_same, TakesFrom_set}
use Rattle.rma_gen.specs.Trial as logs
use Rattle.rma_gen.specs.Trial.{CanRun, logs_below, trial_logs, first_lines}
use Rattle.rma_gen.specs.TrialLogs.{Tape, TrialSource, text_of, untouched, known_bytes, source_of, KeepsTexts, lefts, NoneLeft, IsServed, after_taking}
use Rattle.rma_gen.specs.inside.Parts.{tape_at, IsPlace, HasPlaces, places_below}
use Rattle.rma_gen.specs.declared.trial.Trial.{Trial}
use Rattle.rma_gen.specs.declared.rank_log.RankLog.{RankLog}

-- ---- the beginning

abbrev start : ℕ → RankLog
start rank = record { rank = rank; part = 0; offset = 0 }

places_of : (trial : Trial) (rank : ℕ) → rank < trial.ranks → IsPlace trial (start rank)
places_of trial rank below = record { ranked = below; within = inl (omega arith, omega arith) }

pub start_length : (ranks : ℕ) → length (places_below ranks) ≡ ranks
start_length zero = refl
start_length (suc rank) = omega (arith, length_push (places_below rank) (start rank), start_length rank)

pub start_places : (trial : Trial) (ranks : ℕ) → ranks ≤ trial.ranks → All (IsPlace trial) (places_below ranks)
start_places trial zero few = All-nil (IsPlace trial)
start_places trial (suc rank) few = All-push (IsPlace trial) (places_below rank) (start rank) (start_places trial rank (omega (arith, few))) (places_of trial rank few)

pub start_tapes : (trial : Trial) (ranks : ℕ) → map (tape_at trial) (places_below ranks) ≡ map untouched (logs_below trial ranks)
start_tapes trial zero = refl
start_tapes trial (suc rank) =
    map_push (tape_at trial) (places_below rank) (start rank)
    ∙ ap (λ ts. ts ++ untouched (logs.log_of trial rank) ∷ []) (start_tapes trial rank)
    ∙ sym (map_push untouched (logs_below trial rank) (logs.log_of trial rank))

-- ---- what is left

pub left_of_rank : (trial : Trial) (logs : List RankLog) (rank : ℕ) (d : RankLog) → rank < length logs
    → slice_index (lefts (map (tape_at trial) logs)) rank ≡ length (tape_at trial (get_or logs rank d)).left
left_of_rank trial logs rank d below =
    let tapes = map (tape_at trial) logs in
    let size = length-map logs (tape_at trial) in
    get_or-map (λ (t : Tape). length t.left) tapes rank (tape_at trial d) 0 (omega (arith, size, below))
    ∙ ap (λ (t : Tape). length t.left) (get_or-map (tape_at trial) logs rank d (tape_at trial d) below)

-- nothing is left of any log
pub all_read : (tapes : List Tape) → NoneLeft (lefts tapes) 0 (length tapes) → All (λ tape. tape.left ≡ []) tapes
all_read tapes none k d below =
    nil_from_length (get_or tapes k d).left (sym (get_or-map (λ (t : Tape). length t.left) tapes k d 0 below) ∙ none k (omega arith) below)

pub pulled_done : (source : TrialSource) (room : List ℕ) → NoneLeft (lefts source.tapes) 0 (length source.tapes) → IsPulled (source_of source) room (Ok Done) (source_of source)
pulled_done source room none = record {
  within = tt;
  same_logs = refl;
  taken = omega arith;
  moved = (AllStay_same (map known_bytes source.tapes), All-map (λ (log : LogBytes). IsAtEnd log.left) known_bytes source.tapes (all_read source.tapes none));
  never_falls = omega arith;
  failed = tt;
}

-- ---- a rank is served

module _ (old : TrialSource) (room : List ℕ) (rank len : ℕ) (new : TrialSource) (filled : List ℕ) (served : IsServed old room rank len new filled) where
  there : rank < length old.tapes
  there = slice_get_within old.tapes rank served.tape served.ranked

  tapes_are : new.tapes ≡ set old.tapes rank (after_taking len served.tape)
  tapes_are = ap (λ (s : TrialSource). s.tapes) served.moved

  pub keeps_texts : KeepsTexts old new
  keeps_texts =
      let tape = served.tape in
      let stays : text_of (after_taking len tape) ≡ text_of tape =
      append_assoc tape.taken (take len tape.left) (drop len tape.left) ∙ ap (λ t. tape.taken ++ t) (take-append-drop len tape.left) in
      ap (map text_of) tapes_are
      ∙ map-set text_of old.tapes rank (after_taking len tape)
      ∙ ap (λ t. set (map text_of old.tapes) rank t) (stays ∙ sym (ap text_of (get_or_from_slice_get old.tapes rank tape tape served.ranked)) ∙ sym (get_or-map text_of old.tapes rank tape [] there))
      ∙ set-get_or (map text_of old.tapes) rank []

  pub pulled : 0 < len → IsPulled (source_of old) filled (Ok (Bytes rank len)) (source_of new)
  pulled some =
      let tape = served.tape in
      let after = after_taking len tape in
      let start : length (take len tape.left) ≡ len = length-take-le len tape.left (omega (arith, served.capped)) in
      let size = ap (λ t. length t) served.fills ∙ length-append (take len tape.left) (drop len room) in
      let rest = length-drop len room in
      let read : take len filled ≡ take len tape.left = ap (take len) served.fills ∙ take_at (take len tape.left) (drop len room) len start in
      let before_length = length-map old.tapes known_bytes in
      let after_length = length-map new.tapes known_bytes in
      let same = ap (λ (ts : List Tape). length ts) tapes_are ∙ length-set old.tapes rank after in
      let was : get_or old.tapes rank tape ≡ tape = get_or_from_slice_get old.tapes rank tape tape served.ranked in
      let sum = sum_by-set (λ (t : Tape). length t.taken) old.tapes rank after tape there in
      let now = ap (λ (ts : List Tape). sum_by (λ (t : Tape). length t.taken) ts) tapes_are in
      let one = ap (λ (t : Tape). length t.taken) was in
      let more = length-append tape.taken (take len tape.left) in
      let takes : Takes (take len filled) (known_bytes tape) (known_bytes after) =
      subst (λ (piece : List ℕ). Takes piece (known_bytes tape) (known_bytes after)) (sym read)
      (record { taken = refl; left = sym (take-append-drop len tape.left) }) in
      record {
        within = (omega (arith, there, before_length), some, omega (arith, size, rest, start, served.capped));
        same_logs = omega (arith, before_length, after_length, same);
        taken = omega (arith, sum, now, one, more, start);
        moved =
            subst (λ (logs : List LogBytes). TakesFrom rank (take len filled) (map known_bytes old.tapes) logs)
            (sym (ap (map known_bytes) tapes_are ∙ map-set known_bytes old.tapes rank after))
            (TakesFrom_set (map known_bytes old.tapes) rank (take len filled) (known_bytes tape) (known_bytes after) (omega (arith, there, before_length))
            (get_or-map known_bytes old.tapes rank tape unknown there ∙ ap known_bytes was) takes);
        never_falls = omega arith;
        failed = tt;
      }

  -- who has something left is served with something
  pub some_served : 0 < length room → 0 < slice_index (lefts old.tapes) rank → 0 < len
  some_served some left =
      let tape = served.tape in
      let was : get_or old.tapes rank tape ≡ tape = get_or_from_slice_get old.tapes rank tape tape served.ranked in
      let size : slice_index (lefts old.tapes) rank ≡ length tape.left = get_or-map (λ (t : Tape). length t.left) old.tapes rank tape 0 there ∙ ap (λ (t : Tape). length t.left) was in
      omega (arith, served.capped, size, some, left)

-- ---- a place after its rank was served

pub set_refilled : (old seen : List RankLog) (rank : ℕ) (log : RankLog) → seen ≡ old → refill (length old) old (set seen rank log) ≡ set old rank log
set_refilled old seen rank log same =
    ap (λ them. refill (length old) old (set them rank log)) same
    ∙ take_at (set old rank log) (drop (length (set old rank log)) old) (length old) (length-set old rank log)

pub places_served : (trial : Trial) (logs : List RankLog) (turn rank : ℕ) (log : RankLog) → HasPlaces trial logs turn → IsPlace trial log
    → HasPlaces trial (set logs rank log) ((rank + 1) % length logs)
places_served trial logs turn rank log has place =
    let below : (rank + 1) % length logs < length logs = mod_below (rank + 1) (length logs) (omega (arith, has.one_a_rank, has.can_run.some_ranks)) in
    record {
      can_run = has.can_run;
      one_a_rank = length-set logs rank log ∙ has.one_a_rank;
      places = All-set (IsPlace trial) logs rank log place has.places;
      turn_is = omega (arith, below, has.one_a_rank);
    }

pub is_served : (trial : Trial) (logs : List RankLog) (turn rank len ranks : ℕ) (room filled : List ℕ) (log after d : RankLog) → rank < length logs → log ≡ get_or logs rank d → ranks ≡ length logs
    → len ≡ min (min (length room) 4096) (length (tape_at trial log).left) → tape_at trial after ≡ after_taking len (tape_at trial log) → filled ≡ take len (tape_at trial log).left ++ drop len room
    → IsServed (record { tapes = map (tape_at trial) logs; turn = turn }) room rank len (record { tapes = map (tape_at trial) (set logs rank after); turn = (rank + 1) % ranks }) filled
is_served trial logs turn rank len ranks room filled log after d there is many capped moved fills =
    let size = length-map logs (tape_at trial) in
    let at : get_or (map (tape_at trial) logs) rank (tape_at trial log) ≡ tape_at trial log = get_or-map (tape_at trial) logs rank d (tape_at trial log) there ∙ ap (tape_at trial) (sym is) in
    record {
      tape = tape_at trial log;
      ranked = slice_get_read (map (tape_at trial) logs) (length (map (tape_at trial) logs)) rank (tape_at trial log) refl (omega (arith, size, there)) (sym at);
      capped = capped;
      moved =
          ap (λ them. record { tapes = them; turn = (rank + 1) % ranks }) (map-set (tape_at trial) logs rank after ∙ ap (set (map (tape_at trial) logs) rank) moved)
          ∙ ap (λ n. record { tapes = set (map (tape_at trial) logs) rank (after_taking len (tape_at trial log)); turn = (rank + 1) % n }) (many ∙ sym size);
      fills = fills;
    }
