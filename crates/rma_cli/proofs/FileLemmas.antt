-- What is known of files, while they are read.
use Rattle.std.proofs.Common.{refl, ◌≡◌, ◌≢◌, ℕ, ◌<◌, ◌+◌, List, [], ◌∷◌, ◌++◌, length, get_or, set, take, All, sym, subst, ap, ◌∙◌, inl, inr, arith, length-append}
use Rattle.std.specs.Prelude.{Option, None, Some, Contains, remove}
use Rattle.std.specs.Io.KnownBytes.{IsAtEnd, Consumes, Keeps}
use Rattle.std.proofs.Math.Seq.{map-set_same}
use Rattle.std.proofs.Math.ListN.{get_or-map}
use Rattle.std.proofs.lemmas.Bool.{cases_eq, cases_lt}
use Rattle.std.proofs.lemmas.List.{get_or-set_same, get_or-set_other, get_or_append_left, get_or_default, length-set, length-map, map-set, get_or_push}
use Rattle.std.proofs.lemmas.List as list
use Rattle.std.proofs.lemmas.List.Elements.{Contains-append_left, Contains-push, All-push}
use Rattle.std.proofs.lemmas.List.Edits.{length-remove, get_or-remove_below, get_or-remove_above}
use Rattle.std.proofs.lemmas.Grind.{in_remove}
use Rattle.rma_io.specs.Known.{StillKnown}
use Rattle.rma_io.specs.LogBytes.{LogBytes, unknown, log_of, Stays, TakesFrom}
use Rattle.rma_io.specs.Source.{AreRead}
use Rattle.rma_cli.specs.Files.{Progress, Open, Closed, Ended, IsOpen, AreOneByOne, LogFile, left_of, bytes_of, logs_of, names_of}
use Rattle.rma_cli.specs.inside.Files.{IsReadToEnd, OthersEnded, OneOpen, NothingTaken}
use Rattle.rma_io.proofs.LogBytesLemmas.{Keeps_same}

Contains_remove : (xs : List ℕ) (index x : ℕ) → index < length xs → x ≢ get_or xs index x → Contains xs x → Contains (remove xs index) x
Contains_remove xs index x within other (k, there, is) =
    elim (cases_eq k index) [
      | inl same ↦ absurd (other (subst (λ (i : ℕ). x ≡ get_or xs i x) same (sym is)))
      | inr ne ↦ (in_remove xs index k x within there (sym is) ne).1
    ]

Keeps_trans : (a b c : Option (List ℕ)) → Keeps a b → Keeps b c → Keeps a c
Keeps_trans None b c kept then = tt
Keeps_trans (Some xs) None c kept then = absurd kept
Keeps_trans (Some xs) (Some ys) None kept then = absurd then
Keeps_trans (Some xs) (Some ys) (Some zs) kept then = then ∙ kept

-- all files were read to their ends
pub all_ended : (files : List LogFile) → OthersEnded [] files → All (λ file. file.progress ≡ Ended) files
all_ended files ended rank d within = ended rank d within (λ (k, none, is). absurd (omega (arith, none)))

pub AreRead_ended : (files : List LogFile) → OthersEnded [] files → AreRead (logs_of files)
AreRead_ended files ended rank d within =
    let n = length-map files bytes_of in
    let file : LogFile = record { name = []; progress = Ended } in
    subst (λ (log : LogBytes). IsAtEnd log.left) (sym (list.get_or-map bytes_of files rank file d (omega arith)))
    (subst (λ (progress : Progress). IsAtEnd (left_of progress)) (sym (all_ended files ended rank file (omega arith))) refl)

-- nothing is left of a file that was read to its end
pub Keeps_end : (progress : Progress) → IsReadToEnd progress → Keeps (left_of progress) (Some [])
Keeps_end (Open None) at_end = tt
Keeps_end (Open (Some xs)) at_end = sym at_end
Keeps_end Closed at_end = absurd at_end
Keeps_end Ended at_end = refl

pub Keeps_ended : (before : Option (List ℕ)) (progress : Progress) → Keeps before (left_of progress) → IsReadToEnd progress → Keeps before (Some [])
Keeps_ended before progress kept at_end = Keeps_trans before (left_of progress) (Some []) kept (Keeps_end progress at_end)

Keeps_Consumes : (a b c : Option (List ℕ)) (piece : List ℕ) → Keeps a b → Consumes b c piece → Consumes a c piece
Keeps_Consumes None b c piece kept then = tt
Keeps_Consumes (Some xs) None c piece kept then = absurd kept
Keeps_Consumes (Some xs) (Some ys) None piece kept then = absurd then
Keeps_Consumes (Some xs) (Some ys) (Some zs) piece kept then = sym kept ∙ then

-- what is known of a file, after one of them was read
log_of_set_same : (files : List LogFile) (rank : ℕ) (file : LogFile) → rank < length files
    → log_of (logs_of (set files rank file)) rank ≡ bytes_of file
log_of_set_same files rank file within =
    let n = length-map files bytes_of in
    ap (λ (logs : List LogBytes). log_of logs rank) (map-set bytes_of files rank file)
    ∙ get_or-set_same (logs_of files) rank (bytes_of file) unknown (omega arith)

log_of_set_other : (files : List LogFile) (rank other : ℕ) (file : LogFile) → other ≢ rank
    → log_of (logs_of (set files rank file)) other ≡ log_of (logs_of files) other
log_of_set_other files rank other file ne =
    ap (λ (logs : List LogBytes). log_of logs other) (map-set bytes_of files rank file)
    ∙ get_or-set_other (logs_of files) rank other (bytes_of file) unknown ne

log_of_read : (files : List LogFile) (rank : ℕ) (file : LogFile) → rank < length files → file ≡ get_or files rank file
    → log_of (logs_of files) rank ≡ bytes_of file
log_of_read files rank file within is = list.get_or-map bytes_of files rank file unknown within ∙ ap bytes_of (sym is)

-- a file that was not read to its end was read
pub OthersEnded_read : (unended : List ℕ) (files : List LogFile) (rank : ℕ) (after : LogFile) → Contains unended rank
    → OthersEnded unended files → OthersEnded unended (set files rank after)
OthersEnded_read unended files rank after contained ended other d within not =
    elim (cases_eq other rank) [
      | inl same ↦ absurd (not (subst (λ (r : ℕ). Contains unended r) (sym same) contained))
      | inr ne ↦
          subst (λ (file : LogFile). file.progress ≡ Ended) (sym (get_or-set_other files rank other after d ne))
          (ended other d (omega (arith, length-set files rank after)) not)
    ]

-- a file was read to its end
pub OthersEnded_end : (unended : List ℕ) (files : List LogFile) (index rank : ℕ) (after : LogFile) → index < length unended
    → rank ≡ get_or unended index rank → rank < length files → after.progress ≡ Ended
    → OthersEnded unended files → OthersEnded (remove unended index) (set files rank after)
OthersEnded_end unended files index rank after there is rank_there at_end ended other d within not =
    elim (cases_eq other rank) [
      | inl same ↦
          subst (λ (file : LogFile). file.progress ≡ Ended)
          (sym (ap (λ (r : ℕ). get_or (set files rank after) r d) same ∙ get_or-set_same files rank after d rank_there)) at_end
      | inr ne ↦
          subst (λ (file : LogFile). file.progress ≡ Ended) (sym (get_or-set_other files rank other after d ne))
          (ended other d (omega (arith, length-set files rank after))
          (λ contained. not (Contains_remove unended index other there (λ e. ne (e ∙ get_or_default unended index other rank there ∙ sym is)) contained)))
    ]

pub names_of_set : (files : List LogFile) (rank : ℕ) (before after : LogFile) → before ≡ get_or files rank before
    → after.name ≡ before.name → names_of (set files rank after) ≡ names_of files
names_of_set files rank before after is same =
    map-set_same (λ (file : LogFile). file.name) files rank after before (same ∙ ap (λ (file : LogFile). file.name) is)

-- nothing is known of the bytes taken of files
none_taken : (files : List LogFile) (rank : ℕ) → (log_of (logs_of files) rank).taken ≡ None
none_taken files rank = ap (λ (log : LogBytes). log.taken) (get_or-map bytes_of files rank (record { name = []; progress = Closed }))

Stays_left : (before after : LogBytes) → before.taken ≡ None → after.taken ≡ None → Keeps before.left after.left → Stays before after
Stays_left before after b a kept = record {
  taken =
      subst (λ (known : Option (List ℕ)). StillKnown (λ old new. new ≡ old) before.taken known) (sym a) tt;
  left = kept;
}

-- a file was read, and nothing was taken of it
pub NothingTaken_read : (initial files : List LogFile) (rank : ℕ) (before after : LogFile) → rank < length files
    → before ≡ get_or files rank before → after.name ≡ before.name → Keeps (left_of before.progress) (left_of after.progress)
    → NothingTaken initial files → NothingTaken initial (set files rank after)
NothingTaken_read initial files rank before after within is same kept nothing = record {
  same_files = length-set files rank after ∙ nothing.same_files;
  names = names_of_set files rank before after is same ∙ nothing.names;
  stay = λ other.
      Stays_left _ _ (none_taken initial other) (none_taken (set files rank after) other)
      (Keeps_trans _ (log_of (logs_of files) other).left _ (nothing.stay other).left
      (elim (cases_eq other rank) [
        | inl e ↦
            subst (λ (r : ℕ). Keeps (log_of (logs_of files) r).left (log_of (logs_of (set files rank after)) r).left) (sym e)
            (subst (λ (log : LogBytes). Keeps log.left (log_of (logs_of (set files rank after)) rank).left) (sym (log_of_read files rank before within is))
            (subst (λ (log : LogBytes). Keeps (left_of before.progress) log.left) (sym (log_of_set_same files rank after within)) kept))
        | inr ne ↦
            subst (λ (log : LogBytes). Keeps (log_of (logs_of files) other).left log.left) (sym (log_of_set_other files rank other after ne))
            (Keeps_same (log_of (logs_of files) other).left)
      ]));
}

-- a file was read, and this piece was taken of it
pub TakesFrom_read : (initial files : List LogFile) (rank : ℕ) (piece : List ℕ) (before after : LogFile) → rank < length files
    → before ≡ get_or files rank before → Consumes (left_of before.progress) (left_of after.progress) piece
    → NothingTaken initial files → TakesFrom rank piece (logs_of initial) (logs_of (set files rank after))
TakesFrom_read initial files rank piece before after within is consumes nothing = record {
  takes = record {
    taken =
        subst (λ (known : Option (List ℕ)). StillKnown (λ old new. new ≡ old ++ piece) (log_of (logs_of initial) rank).taken known)
        (sym (none_taken (set files rank after) rank)) tt;
    left =
        subst (λ (log : LogBytes). Consumes (log_of (logs_of initial) rank).left log.left piece) (sym (log_of_set_same files rank after within))
        (Keeps_Consumes _ (left_of before.progress) _ piece
        (subst (λ (log : LogBytes). Keeps (log_of (logs_of initial) rank).left log.left) (log_of_read files rank before within is) (nothing.stay rank).left)
        consumes);
  };
  others = λ other ne.
      subst (λ (log : LogBytes). Stays (log_of (logs_of initial) other) log) (sym (log_of_set_other files rank other after ne)) (nothing.stay other);
}

-- one more file was opened
pub OthersEnded_open : (unended : List ℕ) (files : List LogFile) (file : LogFile) → OthersEnded unended files
    → OthersEnded (unended ++ length files ∷ []) (files ++ file ∷ [])
OthersEnded_open unended files file ended rank d within not =
    let l = length-append files (file ∷ []) in
    elim (cases_lt rank (length files)) [
      | inl old ↦
          subst (λ (log : LogFile). log.progress ≡ Ended) (sym (get_or_append_left files (file ∷ []) d rank old))
          (ended rank d old (λ contained. not (Contains-append_left unended (length files ∷ []) rank contained)))
      | inr new ↦ absurd (not (subst (λ (r : ℕ). Contains (unended ++ length files ∷ []) r) (omega arith) (Contains-push unended (length files))))
    ]

-- at most one file is open, where none is but the first that is still to be read
pub OneOpen_one : (unended : List ℕ) (files : List LogFile) → OneOpen unended files → AreOneByOne files
OneOpen_one unended files one rank other d within within_other is_open is_open_other =
    let first = one rank d within is_open in
    let second = one other d within_other is_open_other in
    sym first.1 ∙ get_or_default unended 0 rank other first.0 ∙ second.1

pub OneOpen_read : (unended : List ℕ) (files : List LogFile) (rank : ℕ) (after : LogFile) → 0 < length unended → get_or unended 0 rank ≡ rank
    → OneOpen unended files → OneOpen unended (set files rank after)
OneOpen_read unended files rank after some first one other d within is_open =
    elim (cases_eq other rank) [
      | inl same ↦ (some, subst (λ (r : ℕ). get_or unended 0 r ≡ r) (sym same) first)
      | inr ne ↦
          one other d (omega (arith, length-set files rank after))
          (subst (λ (file : LogFile). IsOpen file.progress) (get_or-set_other files rank other after d ne) is_open)
    ]

pub OneOpen_end : (unended : List ℕ) (files : List LogFile) (rank : ℕ) (after : LogFile) → 0 < length unended → get_or unended 0 rank ≡ rank
    → rank < length files → after.progress ≡ Ended → OneOpen unended files → OneOpen (remove unended 0) (set files rank after)
OneOpen_end unended files rank after some first there at_end one other d within is_open =
    elim (cases_eq other rank) [
      | inl same ↦
          absurd (subst (λ (progress : Progress). IsOpen progress)
          (ap (λ (file : LogFile). file.progress) (ap (λ (r : ℕ). get_or (set files rank after) r d) same ∙ get_or-set_same files rank after d there) ∙ at_end) is_open)
      | inr ne ↦
          let was = one other d (omega (arith, length-set files rank after))
          (subst (λ (file : LogFile). IsOpen file.progress) (get_or-set_other files rank other after d ne) is_open) in
          absurd (ne (sym was.1 ∙ get_or_default unended 0 other rank some ∙ first))
    ]

pub OneOpen_open : (unended : List ℕ) (files : List LogFile) (file : LogFile) → file.progress ≡ Closed → OneOpen unended files
    → OneOpen (unended ++ length files ∷ []) (files ++ file ∷ [])
OneOpen_open unended files file closed one rank d within is_open =
    let l = length-append files (file ∷ []) in
    let m = length-append unended (length files ∷ []) in
    elim (cases_lt rank (length files)) [
      | inl old ↦
          let was = one rank d old (subst (λ (log : LogFile). IsOpen log.progress) (get_or_append_left files (file ∷ []) d rank old) is_open) in
          (omega arith, get_or_append_left unended (length files ∷ []) rank 0 was.0 ∙ was.1)
      | inr new ↦
          let last : rank ≡ length files = omega arith in
          absurd (subst (λ (progress : Progress). IsOpen progress)
          (ap (λ (log : LogFile). log.progress) (get_or_push files file d rank (sym last)) ∙ closed) is_open)
    ]

-- a read that gave no bytes
pub Keeps_nothing : (a b : Option (List ℕ)) (n : ℕ) (room : List ℕ) → n ≡ 0 → Consumes a b (take n room) → Keeps a b
Keeps_nothing None b n room zero consumed = tt
Keeps_nothing (Some xs) None n room zero consumed = consumed
Keeps_nothing (Some xs) (Some ys) n room zero consumed = sym (consumed ∙ ap (λ m. take m room ++ ys) zero)

-- the ranks not seen to end are ranks of files
pub ranks_read : (unended : List ℕ) (files : List LogFile) (rank : ℕ) (after : LogFile) → All (λ r. r < length files) unended
    → All (λ r. r < length (set files rank after)) unended
ranks_read unended files rank after ranks k d l = omega (arith, ranks k d l, length-set files rank after)

pub ranks_remove : (unended : List ℕ) (n index : ℕ) → index < length unended → All (λ r. r < n) unended → All (λ r. r < n) (remove unended index)
ranks_remove unended n index there ranks k d l =
    let m = length-remove unended index there in
    elim (cases_lt k index) [
      | inl below ↦ subst (λ r. r < n) (sym (get_or-remove_below unended index d k below there)) (ranks k d (omega arith))
      | inr after ↦ subst (λ r. r < n) (sym (get_or-remove_above unended index d k after there)) (ranks (k + 1) d (omega arith))
    ]

pub ranks_open : (unended : List ℕ) (files : List LogFile) (file : LogFile) → All (λ r. r < length files) unended
    → All (λ r. r < length (files ++ file ∷ [])) (unended ++ length files ∷ [])
ranks_open unended files file ranks =
    let n = length-append files (file ∷ []) in
    All-push (λ r. r < length (files ++ file ∷ [])) unended (length files) (λ k d l. omega (arith, ranks k d l)) (omega arith)
