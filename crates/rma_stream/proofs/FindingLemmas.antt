-- What is found in a run, pass by pass.
use Rattle.std.proofs.Common.{◌≡◌, List, [], ◌∷◌, ◌++◌, map, inl, inr, refl, sym, ap, ◌∙◌}
use Rattle.rma_call.specs.Call.{RankCalls}
use Rattle.rma_report.specs.declared.finding.Finding.{Finding}
use Rattle.rma_run.specs.Run.{AreInOrder}
use Rattle.rma_order.proofs.ImpossibleLemmas.{one_impossible, some_impossible}
use Rattle.rma_stream.specs.Findings.{AreFaults, AreImpossible, ArePairs, AreRunFindings, OrElse, epoch_faults, impossible, mismatches}
use Rattle.rma_stream.proofs.PairLemmas.{one_pairs}

-- ---- a pass, and later ones

-- where each finds one list, so do they together
pub one_or_else : (first later : List Finding → Type 0) → ((found others : List Finding) → first found → first others → found ≡ others)
    → (first [] → (found others : List Finding) → later found → later others → found ≡ others) → (found others : List Finding) → OrElse first later found → OrElse first later others → found ≡ others
one_or_else first later one next found others (inl h) (inl k) = one found others h.0 k.0
one_or_else first later one next found others (inl h) (inr k) = absurd (h.1 (one found [] h.0 k.0))
one_or_else first later one next found others (inr h) (inl k) = absurd (k.1 (one others [] k.0 h.0))
one_or_else first later one next found others (inr h) (inr k) = next h.0 found others h.1 k.1

-- where each finds some list, so do they together
pub some_or_else : (first later : List Finding → Type 0) → (found : List Finding) × first found → (first [] → (found : List Finding) × later found) → (found : List Finding) × OrElse first later found
some_or_else first later ([], is) next = let rest = next is in (rest.0, inr (is, rest.1))
some_or_else first later (finding ∷ found, is) next = (finding ∷ found, inl (is, λ none. absurd (let no : ⊥ = cc in no)))

-- ---- the findings of a run

one_called : (ranks : List RankCalls) (found others : List Finding) → AreImpossible ranks found → AreImpossible ranks others → found ≡ others
one_called ranks found others h k = h.2 ∙ ap (map impossible) (one_impossible ranks h.0 k.0 h.1 k.1) ∙ sym k.2

one_faults : (ranks : List RankCalls) → AreInOrder ranks → (found others : List Finding) → AreFaults ranks found → AreFaults ranks others → found ≡ others
one_faults ranks in_order found others h k = h.2 ∙ ap (λ pairs. epoch_faults ranks ++ pairs) (one_pairs ranks h.0 k.0 in_order h.1 k.1) ∙ sym k.2

pub one_in_run : (ranks : List RankCalls) → AreInOrder ranks → (found others : List Finding) → AreRunFindings ranks found → AreRunFindings ranks others → found ≡ others
one_in_run ranks in_order =
    one_or_else (λ found. found ≡ mismatches ranks) (OrElse (AreImpossible ranks) (AreFaults ranks)) (λ found others h k. h ∙ sym k)
    (λ none. one_or_else (AreImpossible ranks) (AreFaults ranks) (one_called ranks) (λ possible. one_faults ranks in_order))

some_called : (ranks : List RankCalls) → AreInOrder ranks → (found : List Finding) × AreImpossible ranks found
some_called ranks in_order = let calls = some_impossible ranks in_order in (map impossible calls.0, (calls.0, calls.1, refl))

pub some_in_run : (ranks : List RankCalls) → AreInOrder ranks → (pairs : List Finding) × ArePairs ranks pairs → (found : List Finding) × AreRunFindings ranks found
some_in_run ranks in_order pairs =
    some_or_else (λ found. found ≡ mismatches ranks) (OrElse (AreImpossible ranks) (AreFaults ranks)) (mismatches ranks, refl)
    (λ none. some_or_else (AreImpossible ranks) (AreFaults ranks) (some_called ranks in_order) (λ possible. (epoch_faults ranks ++ pairs.0, (pairs.0, pairs.1, refl))))
