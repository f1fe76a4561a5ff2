-- The logs of a run have one verdict.
use Rattle.std.proofs.Common.{◌≡◌, ℕ, List, [], length, Some, inl, inr, refl, sym, subst, ◌∙◌}
use Rattle.std.specs.Prelude.{Option}
use Rattle.std.proofs.lemmas.Option.{none-some}
use Rattle.rma_cut.specs.declared.cuts.Cuts.{Cuts}
use Rattle.rma_finding.specs.declared.finding.FoundRace.{FoundRace}
use Rattle.rma_log.specs.declared.fault.BookEnd.{BookEnd}
use Rattle.rma_report.specs.declared.finding.Finding.{Finding}
use Rattle.rma_run.specs.Run.{AreInOrder}
use Rattle.rma_stream.specs.Explained.{AreCutsAt, race_at}
use Rattle.rma_stream.specs.Findings.{AreEnds, AreFindings, AreFindingsOf, AreRunFindings, OrElse, bad_lines, calls_in}
use Rattle.rma_stream.specs.Strict.{AreStrict, AreStrictFindings}
use Rattle.rma_stream.proofs.ExplainLemmas.{one_cuts}
use Rattle.rma_stream.proofs.FindingLemmas.{one_in_run, one_or_else}
use Rattle.rma_stream.proofs.OutcomeLemmas.{in_order, one_list}
use Rattle.rma_stream.proofs.RunLemmas.{are_kept}
use Rattle.rma_stream.proofs.StudyLemmas.{early_by_bad}

pub one_findings : (logs : List (List ℕ)) (found others : List Finding) → AreFindings logs found → AreFindings logs others → found ≡ others
one_findings logs found others h k =
    let same = one_list (length logs) 0 logs h.0 k.0 h.1 k.1 in
    one_or_else (λ list. list ≡ bad_lines 0 h.0) (AreRunFindings (calls_in h.0)) (λ list other one two. one ∙ sym two) (λ none. one_in_run (calls_in h.0) (in_order (length logs) logs h.0 h.1 (sym none))) found others h.2
    (subst (λ (ends : List BookEnd). AreFindingsOf ends others) (sym same) k.2)

-- where an audit finds nothing, no line is bad
none_bad : (ends : List BookEnd) → AreFindingsOf ends [] → bad_lines 0 ends ≡ []
none_bad ends (inl (is, some)) = absurd (some refl)
none_bad ends (inr (none, rest)) = sym none

pub good_where_clean : (logs : List (List ℕ)) (ends : List BookEnd) → AreEnds (length logs) 0 logs ends → AreFindings logs [] → AreInOrder (calls_in ends)
good_where_clean logs ends are (others, are_too, found) =
    let same = one_list (length logs) 0 logs ends others are are_too in
    in_order (length logs) logs ends are (none_bad ends (subst (λ (them : List BookEnd). AreFindingsOf them []) (sym same) found))

-- where some finding is a race, no line is bad
none_where_race : (ends : List BookEnd) (found : List Finding) (number : ℕ) (race : FoundRace) → AreFindingsOf ends found → race_at found number ≡ Some race → bad_lines 0 ends ≡ []
none_where_race ends found number race (inl (is, some)) at = absurd (none-some race (sym ((early_by_bad ends found is some).no_race number) ∙ at))
none_where_race ends found number race (inr (none, rest)) at = sym none

pub one_explained : (logs : List (List ℕ)) (ends : List BookEnd) → AreEnds (length logs) 0 logs ends → (found : List Finding) → AreFindingsOf ends found → (number : ℕ) (cuts other : Option Cuts)
    → AreCutsAt (calls_in ends) found number cuts → AreCutsAt (calls_in ends) found number other → cuts ≡ other
one_explained logs ends are found found_are number cuts other one two =
    one_cuts (calls_in ends) found number
    (λ race at. let none = none_where_race ends found number race found_are at in (in_order (length logs) logs ends are none, are_kept logs ends are none))
    cuts other one two

-- what a strict audit finds in the logs, by how they end
pub strict_of_ends : (logs : List (List ℕ)) (ends : List BookEnd) → AreEnds (length logs) 0 logs ends → (found : List Finding) → OrElse (AreFindingsOf ends) (AreStrict (calls_in ends)) found → AreStrictFindings logs found
strict_of_ends logs ends are found (inl (is, some)) = inl ((ends, are, is), some)
strict_of_ends logs ends are found (inr (none, strict)) = inr ((ends, are, none), (ends, are, strict))
