-- The calls of logs without a bad line are those of a run of good logs.
use Rattle.std.proofs.Common.{◌≡◌, ℕ, zero, suc, ◌+◌, ◌≤◌, List, [], ◌∷◌, length, slice_get, Some, sym, ap, subst, refl, arith}
use Rattle.rma_base.specs.Limits.{fed_limit}
use Rattle.rma_lex.specs.Checked.{checked_lines}
use Rattle.rma_lex.proofs.CheckLemmas.{length_checked_lines}
use Rattle.rma_lex.specs.Line.{lines}
use Rattle.std.specs.Prelude.{Contains}
use Rattle.rma_call.specs.Call.{Call, RankCalls}
use Rattle.rma_kept.specs.Kept.{AreKept}
use Rattle.rma_kept.proofs.WholeLemmas.{few_of_good, whole_is}
use Rattle.rma_log.specs.declared.fault.BookEnd.{BookEnd}
use Rattle.rma_log.specs.declared.fault.BookEnd.TheVariants.{Calls, Fault}
use Rattle.rma_log.specs.Ends.{IsEnd}
use Rattle.rma_accesses.specs.Run.{AreGood}
use Rattle.rma_accesses.proofs.RankLemmas.{place_of}
use Rattle.rma_stream.specs.Findings.{AreEnds, bad_lines, calls_in}
use Rattle.rma_stream.specs.inside.Feeding.{HaveFewLines}
use Rattle.rma_stream.proofs.OutcomeLemmas.{in_order}

-- a log has no more calls than there may be lines
few_of_log : (logs rank : ℕ) (text : List ℕ) (own : RankCalls) → IsEnd rank logs (checked_lines text) (Calls own) → length (lines text) ≤ fed_limit → length own.calls ≤ fed_limit
few_of_log logs rank text own end few =
    let recorded = ap (λ (calls : List Call). length calls) end.calls_are in
    let fewer = few_of_good rank logs (checked_lines text) end.good.0 in
    omega (arith, recorded, fewer, length_checked_lines text, few)

few_each : (logs rank : ℕ) (texts : List (List ℕ)) (ends : List BookEnd) → AreEnds logs rank texts ends → bad_lines rank ends ≡ [] → HaveFewLines texts → (i : ℕ) (own : RankCalls)
    → slice_get (calls_in ends) i ≡ Some own → length own.calls ≤ fed_limit
few_each logs rank [] [] h none few i own at = absurd (let no : ⊥ = cc in no)
few_each logs rank [] (end ∷ ends) h none few i own at = absurd h
few_each logs rank (text ∷ texts) [] h none few i own at = absurd h
few_each logs rank (text ∷ texts) (Fault fault ∷ ends) h none few i own at = absurd (let no : ⊥ = cc in no)
few_each logs rank (text ∷ texts) (Calls calls ∷ ends) h none few zero own at =
    let is : calls ≡ own = cc in
    subst (λ (it : RankCalls). length it.calls ≤ fed_limit) is (few_of_log logs rank text calls h.0 (few 0 (omega arith)))
few_each logs rank (text ∷ texts) (Calls calls ∷ ends) h none few (suc i) own at =
    few_each logs (rank + 1) texts ends h.1 none (λ k lt. few (suc k) (omega arith)) i own at

-- there is one log a rank
one_a_rank : (logs rank : ℕ) (texts : List (List ℕ)) (ends : List BookEnd) → AreEnds logs rank texts ends → bad_lines rank ends ≡ [] → length (calls_in ends) ≡ length texts
one_a_rank logs rank [] [] h none = refl
one_a_rank logs rank [] (end ∷ ends) h none = absurd h
one_a_rank logs rank (text ∷ texts) [] h none = absurd h
one_a_rank logs rank (text ∷ texts) (Fault fault ∷ ends) h none = absurd (let no : ⊥ = cc in no)
one_a_rank logs rank (text ∷ texts) (Calls calls ∷ ends) h none = ap suc (one_a_rank logs (rank + 1) texts ends h.1 none)

kept_each : (logs rank : ℕ) (texts : List (List ℕ)) (ends : List BookEnd) → AreEnds logs rank texts ends → bad_lines rank ends ≡ [] → (i : ℕ) (own : RankCalls) → slice_get (calls_in ends) i ≡ Some own
    → AreKept own.rank.0 logs own.calls
kept_each logs rank [] [] h none i own at = absurd (let no : ⊥ = cc in no)
kept_each logs rank [] (end ∷ ends) h none i own at = absurd h
kept_each logs rank (text ∷ texts) [] h none i own at = absurd h
kept_each logs rank (text ∷ texts) (Fault fault ∷ ends) h none i own at = absurd (let no : ⊥ = cc in no)
kept_each logs rank (text ∷ texts) (Calls calls ∷ ends) h none zero own at =
    let is : calls ≡ own = cc in
    subst (λ (it : RankCalls). AreKept it.rank.0 logs it.calls) is (whole_is rank logs (checked_lines text) calls h.0).kept
kept_each logs rank (text ∷ texts) (Calls calls ∷ ends) h none (suc i) own at = kept_each logs (rank + 1) texts ends h.1 none i own at

-- what the calls of each log satisfy, however long the logs are
pub are_kept : (texts : List (List ℕ)) (ends : List BookEnd) → AreEnds (length texts) 0 texts ends → bad_lines 0 ends ≡ [] → (own : RankCalls) → Contains (calls_in ends) own
    → AreKept own.rank.0 (length (calls_in ends)) own.calls
are_kept texts ends are none own has =
    let place = place_of (calls_in ends) own has in
    subst (λ n. AreKept own.rank.0 n own.calls) (sym (one_a_rank (length texts) 0 texts ends are none)) (kept_each (length texts) 0 texts ends are none place.0 own place.1)

pub are_good : (texts : List (List ℕ)) (ends : List BookEnd) → AreEnds (length texts) 0 texts ends → bad_lines 0 ends ≡ [] → HaveFewLines texts → AreGood (calls_in ends)
are_good texts ends are none few = record {
  run = record {
    in_order = in_order (length texts) texts ends are none;
    few = few_each (length texts) 0 texts ends are none few;
  };
  kept = are_kept texts ends are none;
}
