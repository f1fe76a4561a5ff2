-- What was taken of the open logs, as what is read of logs.
use Rattle.std.proofs.Common.{◌≡◌, ℕ, ◌+◌, ◌<◌, ◌≤◌, List, [], ◌∷◌, ◌++◌, length, map, take, drop, get_or, set, All, slice_index, Some, None, refl, sym, subst, ap, ◌∙◌, inl, inr, arith}
use Rattle.std.specs.List.{slice_get}
use Rattle.std.specs.Option.{option_map}
use Rattle.std.proofs.lemmas.List.{take-take, drop-take, take-append-drop, drop-drop, length-drop, map-set, get_or-map}
use Rattle.std.proofs.lemmas.List.Elements.{All-head, All-tail, All-set}
use Rattle.std.proofs.lemmas.Option.{slice_get-map, slice_get_within, get_or_from_slice_get}
use Rattle.rma_io.specs.Log.{Log, bytes_left, after_taking}
use Rattle.rma_io.specs.Schedule.{Cut, IsZero, IsNext}
use Rattle.rma_io.specs.ScheduledRead.{IsScheduledRead}
use Rattle.rma_io.specs.inside.OpenLogs.{Progress, OpenLogs, lefts, advanced, log_at, logs_at, FitsFile, IsNextChunk}
use Rattle.rma_io.specs.declared.open_log.Chunk.{Chunk}
use Rattle.rma_io.specs.declared.source.Pull.TheVariants.{Bytes, Done}

-- how many bytes the rank that is next gets
pub record IsShare (left : List ℕ) (room rank len : ℕ) : Type 0 where
  pub some : 0 < room → 1 ≤ len
  pub fits : len ≤ room
  pub there : len ≤ slice_index left rank

pub IsNext_share : (left : List ℕ) (cuts : List Cut) (room rank len : ℕ) (unused : List Cut)
    → IsNext left cuts room rank len unused → IsShare left room rank len
IsNext_share left cuts room rank len unused (inl next) =
    let e = next.capped in
    let s = next.some_left in
    record { some = λ r. omega arith; fits = omega arith; there = omega arith }
IsNext_share left cuts room rank len unused (inr next) =
    let e = next.capped in
    let s = next.some_left in
    record { some = λ r. omega arith; fits = omega arith; there = omega arith }

-- an element of a list that is made of another
pub read_map : {X Y : Type 0} (f : X → Y) (xs : List X) (i : ℕ) (x : X) (d : Y) → slice_get xs i ≡ Some x → get_or (map f xs) i d ≡ f x
read_map f xs i x d e = get_or-map f xs i x d (slice_get_within xs i x e) ∙ ap f (get_or_from_slice_get xs i x x e)

bytes_left_logs_at : (files : ℕ → List ℕ) (logs : List Progress) → All (FitsFile files) logs
    → bytes_left (logs_at files logs) ≡ lefts logs
bytes_left_logs_at files [] fits = refl
bytes_left_logs_at files (log ∷ logs) fits =
    let first : log.at + log.left ≡ length (files log.file) = All-head (FitsFile files) log logs fits in
    let e : length (drop log.at (files log.file)) ≡ log.left = omega (arith, length-drop log.at (files log.file)) in
    let rest = bytes_left_logs_at files logs (All-tail (FitsFile files) log logs fits) in
    cc

pub take_twice : (n more : ℕ) (xs : List ℕ) → take (n + more) xs ≡ take n xs ++ take more (drop n xs)
take_twice n more xs =
    sym (take-append-drop n (take (n + more) xs))
    ∙ ap (λ (z : List ℕ). z ++ drop n (take (n + more) xs)) (take-take n (n + more) xs (omega arith))
    ∙ ap (λ (z : List ℕ). take n xs ++ z) (drop-take n more xs)

log_at_advanced : (files : ℕ → List ℕ) (n : ℕ) (log : Progress) → log_at files (advanced n log) ≡ after_taking n (log_at files log)
log_at_advanced files n log =
    let t = take_twice log.at n (files log.file) in
    let d = drop-drop n log.at (files log.file) in
    cc

-- the bytes that were taken are there, and the logs still fit their files
pub record Taken (files : ℕ → List ℕ) (new : OpenLogs) (room : ℕ) (chunk : Chunk) : Type 0 where
  pub there : chunk.at + chunk.len ≤ length (files chunk.file)
  pub fits : chunk.len ≤ room
  pub logs : All (FitsFile files) new.logs

pub chunk_taken : (files : ℕ → List ℕ) (old new : OpenLogs) (room : ℕ) (chunk : Chunk)
    → All (FitsFile files) old.logs → IsNextChunk old room (Some chunk) new → Taken files new room chunk
chunk_taken files old new room chunk fits (log, ranked, file, at, next, moved) =
    let share = IsNext_share (lefts old.logs) old.cuts room chunk.rank chunk.len new.cuts next in
    let left = read_map (λ (p : Progress). p.left) old.logs chunk.rank log 0 ranked in
    let within = slice_get_within old.logs chunk.rank log ranked in
    let whole : log.at + log.left ≡ length (files log.file) =
    subst (FitsFile files) (get_or_from_slice_get old.logs chunk.rank log log ranked) (fits chunk.rank log within) in
    let there = share.there in
    let after : FitsFile files (advanced chunk.len log) = omega arith in
    record {
      there = rw file (omega arith);
      fits = share.fits;
      logs = subst (λ (ps : List Progress). All (FitsFile files) ps) (sym moved) (All-set (FitsFile files) old.logs chunk.rank (advanced chunk.len log) after fits);
    }

-- the log that is next is read
pub chunk_read : (files : ℕ → List ℕ) (old new : OpenLogs) (room : List ℕ) (chunk : Chunk) (filled : List ℕ)
    → All (FitsFile files) old.logs → IsNextChunk old (length room) (Some chunk) new
    → filled ≡ take chunk.len (drop chunk.at (files chunk.file)) ++ drop chunk.len room
    → IsScheduledRead (logs_at files old.logs) old.cuts room (Bytes chunk.rank chunk.len) (logs_at files new.logs) new.cuts filled
chunk_read files old new room chunk filled fits (log, ranked, file, at, next, moved) fills = (
  subst (λ (left : List ℕ). IsNext left old.cuts (length room) chunk.rank chunk.len new.cuts) (sym (bytes_left_logs_at files old.logs fits)) next,
  record {
    log = log_at files log;
    ranked = slice_get-map (log_at files) old.logs chunk.rank ∙ ap (λ o. option_map (log_at files) o) ranked;
    moved = ap (logs_at files) moved ∙ map-set (log_at files) old.logs chunk.rank (advanced chunk.len log)
        ∙ ap (λ (l : Log). set (logs_at files old.logs) chunk.rank l) (log_at_advanced files chunk.len log);
    fills = cc;
  },
)

-- nothing is left to read
pub none_read : (files : ℕ → List ℕ) (old new : OpenLogs) (room : List ℕ)
    → All (FitsFile files) old.logs → IsNextChunk old (length room) None new
    → IsScheduledRead (logs_at files old.logs) old.cuts room Done (logs_at files new.logs) new.cuts room
none_read files old new room fits ((zeros, unused), same) =
    ((subst (λ (left : List ℕ). All IsZero left) (sym (bytes_left_logs_at files old.logs fits)) zeros, unused), ap (logs_at files) same, refl)
