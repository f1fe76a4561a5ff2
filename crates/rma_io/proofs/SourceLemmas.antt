-- Pulls and opens in memory, as any source's.
use Rattle.std.proofs.Common.{◌≡◌, ℕ, ◌+◌, ◌<◌, ◌≤◌, ◌^◌, List, [], ◌∷◌, ◌++◌, length, map, take, drop, set, All, slice_index, Result, Ok, Err, refl, sym, subst, ap, ◌∙◌, arith}
use Rattle.std.specs.Prelude.{OnErr, Option, None}
use Rattle.std.proofs.lemmas.List.{take-append-drop, length-drop, length-set, length-map, length-take-le, length-append, map-set, map_push, take_at, nil_from_length, set-get_or}
use Rattle.std.proofs.lemmas.List.Elements.{All-head, All-tail, All-cons, All-nil}
use Rattle.std.proofs.lemmas.Option.{slice_get_within, get_or_from_slice_get}
use Rattle.rma_io.specs.LogBytes.{LogBytes, unknown, Takes, TakesFrom}
use Rattle.rma_io.specs.Log.{Log, untouched, known_bytes, bytes_left, names_of, after_taking}
use Rattle.rma_io.specs.Schedule.{Cut, IsZero}
use Rattle.rma_io.specs.ScheduledRead.{IsScheduledRead}
use Rattle.rma_io.specs.Source.{Source, IsPulled, IsOpened, AreRead, pulled_len}
use Rattle.std.specs.Io.KnownBytes.{IsAtEnd}
use Rattle.rma_io.specs.MemoryLogs as memory
use Rattle.rma_io.specs.MemoryLogs.{MemorySource, IsMemoryPull, IsMemoryOpen}
use Rattle.rma_io.specs.SureLogs as sure
use Rattle.rma_io.specs.SureLogs.{SureSource, IsSurePull, IsSureOpen}
use Rattle.rma_io.specs.declared.source.Failed.{Failed}
use Rattle.rma_io.specs.declared.source.OpenFault.{OpenFault}
use Rattle.rma_io.specs.declared.source.OpenFault.TheVariants as refusal
use Rattle.rma_io.specs.declared.source.Pull.{Pull}
use Rattle.rma_io.specs.declared.source.Pull.TheVariants.{Bytes, Done}
use Rattle.rma_io.proofs.CountLemmas.{Rose_raised}
use Rattle.rma_io.proofs.LogBytesLemmas.{AllStay_same, TakesFrom_set}
use Rattle.rma_io.proofs.ScheduleLemmas.{IsNext_share, read_map}

-- a source in memory
abbrev in_memory : List Log → ℕ → ℕ → Source
in_memory logs taken faults = record { logs = map known_bytes logs; taken = taken; faults = faults }

AreRead_zeros : (logs : List Log) → All IsZero (bytes_left logs) → AreRead (map known_bytes logs)
AreRead_zeros [] zeros = All-nil (λ (log : LogBytes). IsAtEnd log.left)
AreRead_zeros (log ∷ logs) zeros =
    All-cons (λ (log : LogBytes). IsAtEnd log.left) (known_bytes log) (map known_bytes logs)
    (nil_from_length log.left (All-head IsZero (length log.left) (bytes_left logs) zeros))
    (AreRead_zeros logs (All-tail IsZero (length log.left) (bytes_left logs) zeros))

-- names stay
names_of_read : (before after : List Log) (cuts unused : List Cut) (room filled : List ℕ) (pull : Pull)
    → IsScheduledRead before cuts room pull after unused filled → names_of after ≡ names_of before
names_of_read before after cuts unused room filled (Bytes rank len) (next, reads) =
    let log = reads.log in
    ap names_of reads.moved
    ∙ map-set (λ (l : Log). l.name) before rank (after_taking len log)
    ∙ ap (λ (name : List ℕ). set (names_of before) rank name) (sym (read_map (λ (l : Log). l.name) before rank log [] reads.ranked))
    ∙ set-get_or (names_of before) rank []
names_of_read before after cuts unused room filled Done (next, same, fills) = ap names_of same

-- a pull that does not fail
IsPulled_read : (before after : List Log) (cuts unused : List Cut) (room filled : List ℕ) (pull : Pull) (taken faults : ℕ)
    → 0 < length room → IsScheduledRead before cuts room pull after unused filled
    → IsPulled (in_memory before taken faults) filled (Ok pull) (in_memory after (taken + pulled_len (Ok pull)) faults)
IsPulled_read before after cuts unused room filled (Bytes rank len) taken faults some (next, reads) =
    let log = reads.log in
    let share = IsNext_share (bytes_left before) cuts (length room) rank len unused next in
    let left : slice_index (bytes_left before) rank ≡ length log.left = read_map (λ (l : Log). length l.left) before rank log 0 reads.ranked in
    let there = share.there in
    let fits = share.fits in
    let one : 1 ≤ len = share.some some in
    let start : length (take len log.left) ≡ len = length-take-le len log.left (omega arith) in
    let size = ap length reads.fills ∙ length-append (take len log.left) (drop len room) in
    let rest = length-drop len room in
    let read : take len filled ≡ take len log.left = ap (take len) reads.fills ∙ take_at (take len log.left) (drop len room) len start in
    let within = slice_get_within before rank log reads.ranked in
    let before_length = length-map before known_bytes in
    let after_length = length-map after known_bytes in
    let moved = ap length reads.moved ∙ length-set before rank (after_taking len log) in
    let takes : Takes (take len filled) (known_bytes log) (known_bytes (after_taking len log)) =
    subst (λ (piece : List ℕ). Takes piece (known_bytes log) (known_bytes (after_taking len log))) (sym read)
    (record { taken = refl; left = sym (take-append-drop len log.left) }) in
    record {
      within = (omega arith, one, omega arith);
      same_logs = omega arith;
      taken = refl;
      moved =
          subst (λ (logs : List LogBytes). TakesFrom rank (take len filled) (map known_bytes before) logs)
          (sym (ap (λ (logs : List Log). map known_bytes logs) reads.moved ∙ map-set known_bytes before rank (after_taking len log)))
          (TakesFrom_set (map known_bytes before) rank (take len filled) (known_bytes log) (known_bytes (after_taking len log)) (omega arith)
          (read_map known_bytes before rank log unknown reads.ranked) takes);
      never_falls = omega arith;
      failed = tt;
    }
IsPulled_read before after cuts unused room filled Done taken faults some (next, same, fills) =
    subst (λ (logs : List Log). IsPulled (in_memory before taken faults) filled (Ok Done) (in_memory logs (taken + 0) faults)) (sym same)
    (record {
      within = tt;
      same_logs = refl;
      taken = refl;
      moved = (AllStay_same (map known_bytes before), AreRead_zeros before next.0);
      never_falls = omega arith;
      failed = tt;
    })

-- a pull of a source that can fail
pub IsPulled_memory : (old : MemorySource) (room : List ℕ) (answer : Result Pull Failed) (new : MemorySource) (filled : List ℕ)
    → 0 < length room → OnErr answer (old.faults < 2 ^ 64) → IsMemoryPull old room answer new filled
    → IsPulled (memory.source_of old) filled answer (memory.source_of new)
IsPulled_memory old room (Ok pull) new filled some small (goes, reads, same) =
    subst (λ (source : Source). IsPulled (memory.source_of old) filled (Ok pull) source) (sym (ap memory.source_of same))
    (IsPulled_read old.logs new.logs old.cuts new.cuts room filled pull old.taken old.faults some reads)
IsPulled_memory old room (Err e) new filled some small (fails, same, fills) =
    subst (λ (source : Source). IsPulled (memory.source_of old) filled (Err e) source) (sym (ap memory.source_of same))
    (record {
      within = tt;
      same_logs = refl;
      taken = omega arith;
      moved = AllStay_same (map known_bytes old.logs);
      never_falls = omega arith;
      failed = Rose_raised old.faults small;
    })

pub KeepsOpened_memory : (old : MemorySource) (room : List ℕ) (answer : Result Pull Failed) (new : MemorySource) (filled : List ℕ)
    → IsMemoryPull old room answer new filled → memory.KeepsOpened old new
KeepsOpened_memory old room (Ok pull) new filled (goes, reads, same) =
    let names = names_of_read old.logs new.logs old.cuts new.cuts room filled pull reads in
    let refused : new.refused ≡ old.refused = ap (λ (m : MemorySource). m.refused) same in
    cc
KeepsOpened_memory old room (Err e) new filled (fails, same, fills) = ap memory.opened_of same

-- an open that adds a log, or changes no more than the name last refused and the count of faults
IsOpened_added : (logs : List Log) (refused : Option (List ℕ)) (name bytes : List ℕ) (taken faults : ℕ)
    → IsOpened (in_memory logs taken faults) (record { names = names_of logs; refused = refused }) name (Ok tt)
    (in_memory (logs ++ untouched name bytes ∷ []) taken faults) (record { names = names_of (logs ++ untouched name bytes ∷ []); refused = refused })
IsOpened_added logs refused name bytes taken faults = record {
  names = map_push (λ (l : Log). l.name) logs (untouched name bytes);
  refused = refl;
  taken = refl;
  added = (known_bytes (untouched name bytes), refl, map_push known_bytes logs (untouched name bytes));
  never_falls = omega arith;
  failed = λ e. cc;
}

-- an open of a source that can fail
pub IsOpened_memory : (old : MemorySource) (name : List ℕ) (answer : Result Unit OpenFault) (new : MemorySource)
    → old.faults < 2 ^ 64 → IsMemoryOpen old name answer new
    → IsOpened (memory.source_of old) (memory.opened_of old) name answer (memory.source_of new) (memory.opened_of new)
IsOpened_memory old name (Ok x) new small (index, file, first, goes, same) =
    subst (λ (m : MemorySource). IsOpened (memory.source_of old) (memory.opened_of old) name (Ok x) (memory.source_of m) (memory.opened_of m)) (sym same)
    (IsOpened_added old.logs old.refused name file.bytes old.taken old.faults)
IsOpened_memory old name (Err refusal.Failed) new small (why, same) =
    subst (λ (m : MemorySource). IsOpened (memory.source_of old) (memory.opened_of old) name (Err refusal.Failed) (memory.source_of m) (memory.opened_of m)) (sym same)
    (record { names = refl; refused = refl; taken = refl; added = refl; never_falls = omega arith; failed = λ e. Rose_raised old.faults small })
IsOpened_memory old name (Err refusal.Memory) new small same =
    subst (λ (m : MemorySource). IsOpened (memory.source_of old) (memory.opened_of old) name (Err refusal.Memory) (memory.source_of m) (memory.opened_of m)) (sym same)
    (record { names = refl; refused = refl; taken = refl; added = refl; never_falls = omega arith; failed = λ e. cc })

-- a file of this name was found and added
pub IsMemoryOpen_added : (old : MemorySource) (name : List ℕ) (index : ℕ) (answer : Result Unit OpenFault) (new : MemorySource)
    → ¬ memory.MustFail old → memory.IsFirstNamedAt old.files name index → memory.AddsFile (memory.after_call old) name index answer new
    → IsMemoryOpen old name answer new
IsMemoryOpen_added old name index (Ok x) new goes (file, first) added = (
  index,
  file,
  first,
  goes,
  added ∙ ap (λ (bytes : List ℕ). memory.after_opening name bytes (memory.after_call old))
      (ap (λ (f : memory.File). f.bytes) (get_or_from_slice_get old.files index file (record { name = []; bytes = [] }) first.stands)),
)
IsMemoryOpen_added old name index (Err refusal.Failed) new goes first added = absurd added
IsMemoryOpen_added old name index (Err refusal.Memory) new goes first added = added

-- a pull of a source that never fails
pub IsPulled_sure : (old : SureSource) (room : List ℕ) (answer : Result Pull Failed) (new : SureSource) (filled : List ℕ)
    → 0 < length room → IsSurePull old room answer new filled
    → IsPulled (sure.source_of old) filled answer (sure.source_of new)
IsPulled_sure old room (Ok pull) new filled some (reads, same) =
    subst (λ (source : Source). IsPulled (sure.source_of old) filled (Ok pull) source) (sym (ap sure.source_of same))
    (IsPulled_read old.logs new.logs old.cuts new.cuts room filled pull old.taken 0 some reads)
IsPulled_sure old room (Err e) new filled some pulled = absurd pulled

pub KeepsOpened_sure : (old : SureSource) (room : List ℕ) (answer : Result Pull Failed) (new : SureSource) (filled : List ℕ)
    → IsSurePull old room answer new filled → sure.KeepsOpened old new
KeepsOpened_sure old room (Ok pull) new filled (reads, same) =
    let names = names_of_read old.logs new.logs old.cuts new.cuts room filled pull reads in
    cc
KeepsOpened_sure old room (Err e) new filled pulled = absurd pulled

-- an open of a source that never fails
pub IsOpened_sure : (old : SureSource) (name : List ℕ) (answer : Result Unit OpenFault) (new : SureSource)
    → IsSureOpen old name answer new
    → IsOpened (sure.source_of old) (sure.opened_of old) name answer (sure.source_of new) (sure.opened_of new)
IsOpened_sure old name (Ok x) new same =
    subst (λ (m : SureSource). IsOpened (sure.source_of old) (sure.opened_of old) name (Ok x) (sure.source_of m) (sure.opened_of m)) (sym same)
    (IsOpened_added old.logs None name (sure.text_of old.contents (length old.logs)) old.taken 0)
IsOpened_sure old name (Err refusal.Failed) new opened = absurd opened
IsOpened_sure old name (Err refusal.Memory) new same =
    subst (λ (m : SureSource). IsOpened (sure.source_of old) (sure.opened_of old) name (Err refusal.Memory) (sure.source_of m) (sure.opened_of m)) (sym same)
    (record { names = refl; refused = refl; taken = refl; added = refl; never_falls = omega arith; failed = λ e. cc })
