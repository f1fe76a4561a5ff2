-- How far the first passes of an audit come, and what is found then.
use Rattle.std.proofs.Common.{◌≡◌, ◌≢◌, false, eqb, length, ℕ, zero, suc, ◌+◌, ◌-◌, List, [], ◌∷◌, map, Some, None, inl, inr, refl, sym, ap, ◌∙◌}
use Rattle.std.specs.Prelude.{slice_get}
use Rattle.std.proofs.lemmas.Bool.{false≢true}
use Rattle.rma_call.specs.Call.{RankCalls}
use Rattle.rma_log.specs.declared.fault.BookEnd.{BookEnd}
use Rattle.rma_log.specs.declared.fault.BookEnd.TheVariants.{Calls, Fault}
use Rattle.rma_order.specs.Impossible.{AreImpossibleCalls}
use Rattle.rma_order.specs.declared.impossible.ImpossibleCall.{ImpossibleCall}
use Rattle.rma_report.specs.declared.finding.Finding.{Finding}
use Rattle.rma_report.specs.declared.finding.Finding.TheVariants.{Mismatch}
use Rattle.rma_sync.specs.Matching.{match_faults}
use Rattle.rma_stream.specs.declared.question.Question.{Question}
use Rattle.rma_stream.specs.declared.question.Question.TheVariants.{Audit, Strict, Explain}
use Rattle.rma_stream.specs.declared.question.Verdict.{Verdict}
use Rattle.rma_stream.specs.Explained.{race_at, race_of}
use Rattle.rma_stream.specs.Findings.{AreFaults, AreFindingsOf, AreImpossible, AreRunFindings, bad_lines, calls_in, impossible, mismatches}
use Rattle.rma_stream.specs.inside.Study.{AreEarly, HasNoRace}
use Rattle.rma_stream.specs.inside.Verdict.{IsVerdict}

-- ---- the first passes find no race

no_race_of_bad : (rank i : ℕ) (ends : List BookEnd) → race_of (slice_get (bad_lines rank ends) i) ≡ None
no_race_of_bad rank i [] = refl
no_race_of_bad rank i (Calls calls ∷ ends) = no_race_of_bad (rank + 1) i ends
no_race_of_bad rank zero (Fault fault ∷ ends) = refl
no_race_of_bad rank (suc i) (Fault fault ∷ ends) = no_race_of_bad (rank + 1) i ends

no_race_of_each : {X : Type 0} (f : X → Finding) → ((x : X) → race_of (Some (f x)) ≡ None) → (i : ℕ) (xs : List X) → race_of (slice_get (map f xs) i) ≡ None
no_race_of_each f none i [] = refl
no_race_of_each f none zero (x ∷ xs) = none x
no_race_of_each f none (suc i) (x ∷ xs) = no_race_of_each f none i xs

pub no_race_of_map : {X : Type 0} (f : X → Finding) → ((x : X) → race_of (Some (f x)) ≡ None) → (xs : List X) (found : List Finding) → found ≡ map f xs → HasNoRace found
no_race_of_map f none xs found is number = ap (λ (them : List Finding). race_at them number) is ∙ no_race_of_each f none (number - 1) xs

not_empty : (found : List Finding) → eqb (length found) 0 ≡ false → found ≢ []
not_empty [] some = absurd (false≢true (sym some))
not_empty (finding ∷ found) some = λ none. absurd (let no : ⊥ = cc in no)

pub early_by_bad : (ends : List BookEnd) (bad : List Finding) → bad ≡ bad_lines 0 ends → bad ≢ [] → AreEarly (AreFindingsOf ends) bad
early_by_bad ends bad is some = record {
  are = inl (is, some);
  some = some;
  no_race = λ number. ap (λ (them : List Finding). race_at them number) is ∙ no_race_of_bad 0 (number - 1) ends;
}

pub early_by_mismatches : (ranks : List RankCalls) (found : List Finding) → found ≡ mismatches ranks → eqb (length found) 0 ≡ false → AreEarly (AreRunFindings ranks) found
early_by_mismatches ranks found is some = record {
  are = inl (is, not_empty found some);
  some = not_empty found some;
  no_race = no_race_of_map Mismatch (λ fault. refl) (match_faults ranks) found is;
}

pub early_by_impossible : (ranks : List RankCalls) (calls : List ImpossibleCall) → AreImpossibleCalls ranks calls → calls ≢ [] → (found : List Finding) → found ≡ map impossible calls → AreEarly (AreImpossible ranks) found
early_by_impossible ranks [] are some found is = absurd (some refl)
early_by_impossible ranks (call ∷ calls) are some found is = record {
  are = (call ∷ calls, are, is);
  some = λ none. absurd (let no : ⊥ = (let both = sym is ∙ none in cc) in no);
  no_race = no_race_of_map impossible (λ it. refl) (call ∷ calls) found is;
}

-- ---- what is found in a run of good logs

pub early_in_run : (ranks : List RankCalls) → mismatches ranks ≡ [] → (found : List Finding) → AreEarly (AreImpossible ranks) found → AreEarly (AreRunFindings ranks) found
early_in_run ranks matched found early = record { are = inr (sym matched, inl (early.are, early.some)); some = early.some; no_race = early.no_race }

pub by_good : (ends : List BookEnd) → bad_lines 0 ends ≡ [] → (found : List Finding) → AreRunFindings (calls_in ends) found → AreFindingsOf ends found
by_good ends none found is = inr (sym none, is)

pub by_faults : (ranks : List RankCalls) → mismatches ranks ≡ [] → AreImpossible ranks [] → (found : List Finding) → AreFaults ranks found → AreRunFindings ranks found
by_faults ranks matched possible found is = inr (sym matched, inr (possible, is))

-- ---- the answer

module _ (First Second : List Finding → Type 0) (ranks : List RankCalls) (each : (found : List Finding) → First found → Second found) where
  -- what holds of what an audit finds
  pub verdict_by : (question : Question) (verdict : Verdict) → IsVerdict question First ranks verdict → IsVerdict question Second ranks verdict
  verdict_by Audit verdict is = each verdict.found is
  verdict_by Strict verdict (inl (is, some)) = inl (each verdict.found is, some)
  verdict_by Strict verdict (inr (none, strict)) = inr (each [] none, strict)
  verdict_by (Explain number) verdict (is, cuts) = (each verdict.found is, cuts)

-- where the first passes find something
pub early_verdict : (Found : List Finding → Type 0) (ranks : List RankCalls) (question : Question) (found : List Finding) → AreEarly Found found → IsVerdict question Found ranks (record { found = found; cuts = None })
early_verdict Found ranks Audit found early = early.are
early_verdict Found ranks Strict found early = inl (early.are, early.some)
early_verdict Found ranks (Explain number) found early = (early.are, early.no_race number)
