-- Runs of equal basic datatypes.
use Rattle.std.proofs.Common.{◌≡◌, ◌≢◌, ℕ, zero, suc, ◌+◌, ◌*◌, ◌<◌, ◌≤◌, List, [], ◌∷◌, ◌++◌, length, get_or, set, take, refl, sym, ap, ◌∙◌, arith}
use Rattle.rma_type.proofs.Words.{append-nil, append_assoc, replicate-append-replicate, length-append, length-replicate, take_more, length-flat_map-take, Basic, SignedChar, copies, SigRun, basics_of, spread, BeginsOther, AreRuns}
use Rattle.std.proofs.lemmas.List.Concat.{flat_map-append}
use Rattle.std.proofs.Math.Nat.{mul-le-mul_left}
use Rattle.rma_typemap.proofs.SignatureLemmas.{copies_one, copies_nil, copies_add}

-- what is read where there is no run
abbrev pub no_run : SigRun
no_run = record { basic = SignedChar; count = 0 }

pub spread_append : (xs ys : List SigRun) → spread (xs ++ ys) ≡ spread xs ++ spread ys
spread_append xs ys = flat_map-append basics_of xs ys

pub spread_one : (run : SigRun) → spread (run ∷ []) ≡ basics_of run
spread_one run = append-nil (basics_of run)

pub length_basics_of : (run : SigRun) → length (basics_of run) ≡ run.count
length_basics_of run = length-replicate run.count run.basic

pub spread_empty : (runs : List SigRun) → length runs < 1 → spread runs ≡ []
spread_empty [] h = refl
spread_empty (run ∷ runs) h = absurd (omega arith)

-- ---- one run

pub run_is_some : (runs : List SigRun) (i : ℕ) (d : SigRun) → i < length runs → AreRuns runs → 0 < (get_or runs i d).count
run_is_some [] i d lt h = absurd (omega arith)
run_is_some (run ∷ runs) zero d lt h = h.0
run_is_some (run ∷ runs) (suc i) d lt h = run_is_some runs i d (omega arith) h.2

pub run_is_short : (runs : List SigRun) (i : ℕ) (d : SigRun) → i < length runs → (get_or runs i d).count ≤ length (spread runs)
run_is_short [] i d lt = absurd (omega arith)
run_is_short (run ∷ runs) zero d lt = omega (arith, length-append (basics_of run) (spread runs), length_basics_of run)
run_is_short (run ∷ runs) (suc i) d lt = let rest = run_is_short runs i d (omega arith) in omega (arith, length-append (basics_of run) (spread runs), rest)

-- ---- a run made longer

longer : (last run new : SigRun) → last.basic ≡ run.basic → new.basic ≡ last.basic → new.count ≡ last.count + run.count → basics_of new ≡ basics_of last ++ basics_of run
longer last run new same basic count =
    rw (count, basic, ← same) (sym (replicate-append-replicate last.count run.count last.basic))

pub spread_merged : (items : List SigRun) (i : ℕ) (last run new : SigRun) → suc i ≡ length items → last ≡ get_or items i last → last.basic ≡ run.basic →
    new.basic ≡ last.basic → new.count ≡ last.count + run.count → spread (set items i new) ≡ spread items ++ basics_of run
spread_merged [] i last run new end is same basic count = absurd (omega arith)
spread_merged (x ∷ []) zero last run new end is same basic count =
    rw (append-nil (basics_of new), append-nil (basics_of x), longer last run new same basic count) (ap (λ y. basics_of y ++ basics_of run) is)
spread_merged (x ∷ y ∷ items) zero last run new end is same basic count = absurd (omega arith)
spread_merged (x ∷ items) (suc i) last run new end is same basic count =
    rw (spread_merged items i last run new (omega arith) is same basic count) (sym (append_assoc (basics_of x) (spread items) (basics_of run)))

begins_set : (basic : Basic) (items : List SigRun) (i : ℕ) (last new : SigRun) → last ≡ get_or items i last → new.basic ≡ last.basic → BeginsOther basic items → BeginsOther basic (set items i new)
begins_set basic [] i last new is same h = h
begins_set basic (x ∷ items) zero last new is same h = λ e. h (e ∙ same ∙ ap (λ (r : SigRun). r.basic) is)
begins_set basic (x ∷ items) (suc i) last new is same h = h

pub AreRuns_merged : (items : List SigRun) (i : ℕ) (last new : SigRun) → i < length items → last ≡ get_or items i last → new.basic ≡ last.basic → 0 < new.count → AreRuns items → AreRuns (set items i new)
AreRuns_merged [] i last new lt is same some h = h
AreRuns_merged (x ∷ items) zero last new lt is same some h =
    (some, rw (same ∙ ap (λ (r : SigRun). r.basic) is) h.1, h.2)
AreRuns_merged (x ∷ items) (suc i) last new lt is same some h =
    (h.0, begins_set x.basic items i last new is same h.1, AreRuns_merged items i last new (omega arith) is same some h.2)

-- ---- a run more

pub AreRuns_push : (items : List SigRun) (run : SigRun) → 0 < run.count → ((i : ℕ) (d : SigRun) → suc i ≡ length items → (get_or items i d).basic ≢ run.basic) → AreRuns items → AreRuns (items ++ run ∷ [])
AreRuns_push [] run some other h = (some, tt, tt)
AreRuns_push (x ∷ []) run some other h = (h.0, other 0 x refl, (some, tt, tt))
AreRuns_push (x ∷ y ∷ items) run some other h = (h.0, h.1, AreRuns_push (y ∷ items) run some (λ i d e. other (suc i) d (ap suc e)) h.2)

-- ---- runs one after another

pub spread_more : (runs : List SigRun) (i : ℕ) (d : SigRun) → i < length runs → spread (take (i + 1) runs) ≡ spread (take i runs) ++ basics_of (get_or runs i d)
spread_more runs i d lt =
    rw (take_more runs i d lt, spread_append (take i runs) (get_or runs i d ∷ []), spread_one (get_or runs i d))

pub spread_more_fits : (runs : List SigRun) (i : ℕ) (d : SigRun) → i < length runs → length (spread (take i runs)) + (get_or runs i d).count ≤ length (spread runs)
spread_more_fits runs i d lt = omega (arith, length-flat_map-take basics_of runs i d lt, length_basics_of (get_or runs i d))

-- ---- copies of runs

pub one_copy_more : (k n len : ℕ) → k < n → k * len + len ≤ n * len
one_copy_more k n len lt = let le : k + 1 ≤ n = omega arith in omega (arith, mul-le-mul_left len le)

pub copies_more : (k : ℕ) (done one : List Basic) → (done ++ copies k one) ++ one ≡ done ++ copies (k + 1) one
copies_more k done one =
    rw (append_assoc done (copies k one) one, copies_add k 1 one, copies_one one)

pub no_copies : (n : ℕ) (done : List Basic) (runs : List SigRun) → length runs < 1 → done ≡ done ++ copies n (spread runs)
no_copies n done runs h =
    rw (spread_empty runs h, copies_nil n) (sym (append-nil done))
