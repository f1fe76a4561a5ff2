-- What an audit finds in the whole logs of a run.
use Rattle.std.specs.Prelude.{◌≡◌, ◌≢◌, ◌⊎◌, ℕ, ◌+◌, List, [], ◌∷◌, ◌++◌, length, map, sum_by, Option, option_map}
use Rattle.std.specs.List.{filter_map}
use Rattle.rma_lex.specs.Checked.{checked_lines}
use Rattle.rma_lex.specs.Line.{lines}
use Rattle.rma_call.specs.Call.{RankCalls}
use Rattle.rma_log.specs.declared.fault.BookEnd.{BookEnd}
use Rattle.rma_log.specs.declared.fault.BookEnd.TheVariants.{Calls, Fault}
use Rattle.rma_log.specs.Ends.{IsEnd}
use Rattle.rma_sync.specs.Matching.{match_faults}
use Rattle.rma_order.specs.declared.impossible.ImpossibleCall.{ImpossibleCall}
use Rattle.rma_order.specs.Impossible.{AreImpossibleCalls}
use Rattle.rma_order.specs.RunLinks.{links_of}
use Rattle.rma_window.specs.Creation.{creations}
use Rattle.rma_window.specs.Windows.{Window, windows_by}
use Rattle.rma_epoch.specs.Fault.{fault_of}
use Rattle.rma_rules.specs.Spans.{Spans}
use Rattle.rma_span.specs.Span.{accesses}
use Rattle.rma_accesses.specs.Run.{AreListsOf}
use Rattle.rma_finding.specs.declared.finding.FoundRace.{FoundRace}
use Rattle.rma_finding.specs.declared.finding.ExposedLock.{ExposedLock}
use Rattle.rma_finding.specs.declared.finding.DoubledPost.{DoubledPost}
use Rattle.rma_finding.specs.declared.finding.PairFinding.TheVariants.{Race, Exposed, Doubled}
use Rattle.rma_pairs.specs.Races.{AreRaces}
use Rattle.rma_concurrent.specs.Concurrent.{AreDoubled, AreExposed}
use Rattle.rma_report.specs.declared.finding.Finding.{Finding}
use Rattle.rma_report.specs.declared.finding.Finding.TheVariants.{Malformed, Mismatch, Impossible, Epoch, Pair}

-- the outcome of each of some logs, among `logs` of them, where the first is that of this rank
abbrev pub AreEnds : ℕ → ℕ → List (List ℕ) → List BookEnd → Type 0
AreEnds logs rank [] [] = Unit {0}
AreEnds logs rank [] (end ∷ ends) = ⊥
AreEnds logs rank (text ∷ texts) [] = ⊥
AreEnds logs rank (text ∷ texts) (end ∷ ends) = IsEnd rank logs (checked_lines text) end × AreEnds logs (rank + 1) texts ends

-- the calls of the ranks whose logs are good
abbrev pub calls_in : List BookEnd → List RankCalls
calls_in [] = []
calls_in (Calls calls ∷ ends) = calls ∷ calls_in ends
calls_in (Fault fault ∷ ends) = calls_in ends

-- ---- what each pass finds

-- the first bad line of each log that has one, by rank, where the first log is that of this rank
abbrev pub bad_lines : ℕ → List BookEnd → List Finding
bad_lines rank [] = []
bad_lines rank (Calls calls ∷ ends) = bad_lines (rank + 1) ends
bad_lines rank (Fault fault ∷ ends) = Malformed (record { 0 = rank }) fault.line fault.reason ∷ bad_lines (rank + 1) ends

-- the calls of a run that the calls of other ranks do not match
abbrev pub mismatches : List RankCalls → List Finding
mismatches ranks = map Mismatch (match_faults ranks)

-- a call that is never left, as a finding
abbrev pub impossible : ImpossibleCall → Finding
impossible call = Impossible call.rank call.line

-- the first call of each rank of a run that is never left
abbrev pub AreImpossible : List RankCalls → List Finding → Type 0
AreImpossible ranks found = (calls : List ImpossibleCall) × AreImpossibleCalls ranks calls × (found ≡ map impossible calls)

-- the first epoch fault of a rank of a run with these windows, as a finding, if it has one
abbrev pub epoch_finding : List Window → RankCalls → Option Finding
epoch_finding windows own = option_map (λ fault. Epoch own.rank fault.line fault.reason) (fault_of windows own)

-- the first epoch fault of each rank of a run that has one
abbrev pub epoch_faults : List RankCalls → List Finding
epoch_faults ranks = filter_map (epoch_finding (windows_by (creations ranks))) ranks

-- races, locks of exposed targets and doubled posts, as findings
abbrev pub pair_findings : List FoundRace → List ExposedLock → List DoubledPost → List Finding
pair_findings races exposed doubled = map (λ race. Pair (Race race)) races ++ map (λ lock. Pair (Exposed lock)) exposed ++ map (λ post. Pair (Doubled post)) doubled

-- what is found of pairs among the sound calls of a possible run: all races between their accesses, all lock epochs at targets that are
-- exposed meanwhile, and all posts of targets that fences expose meanwhile
pub record ArePairs (ranks : List RankCalls) (found : List Finding) : Type 0 where
  pub lists : Spans
  pub races : List FoundRace
  pub exposed : List ExposedLock
  pub doubled : List DoubledPost
  pub lists_are : AreListsOf ranks lists
  pub races_are : AreRaces (links_of ranks) (windows_by (creations ranks)) lists (accesses ranks) races
  pub exposed_are : AreExposed (links_of ranks) (windows_by (creations ranks)) lists exposed
  pub doubled_are : AreDoubled (windows_by (creations ranks)) lists doubled
  pub found_are : found ≡ pair_findings races exposed doubled

-- ---- the findings

-- what one pass finds, or, where it finds nothing, what later ones do
abbrev pub OrElse : (List Finding → Type 0) → (List Finding → Type 0) → List Finding → Type 0
OrElse first later found = (first found × (found ≢ [])) ⊎ (first [] × later found)

-- the epoch faults of a run, and then what is found of pairs
abbrev pub AreFaults : List RankCalls → List Finding → Type 0
AreFaults ranks found = (pairs : List Finding) × ArePairs ranks pairs × (found ≡ epoch_faults ranks ++ pairs)

-- what is found in the run of logs without a bad line
abbrev pub AreRunFindings : List RankCalls → List Finding → Type 0
AreRunFindings ranks = OrElse (λ found. found ≡ mismatches ranks) (OrElse (AreImpossible ranks) (AreFaults ranks))

-- what is found in logs with these outcomes
abbrev pub AreFindingsOf : List BookEnd → List Finding → Type 0
AreFindingsOf ends = OrElse (λ found. found ≡ bad_lines 0 ends) (AreRunFindings (calls_in ends))

-- the findings in these whole logs, one log a rank
abbrev pub AreFindings : List (List ℕ) → List Finding → Type 0
AreFindings logs found = (ends : List BookEnd) × AreEnds (length logs) 0 logs ends × AreFindingsOf ends found

-- how many lines the logs have together
abbrev pub count_of_lines : List (List ℕ) → ℕ
count_of_lines logs = sum_by (λ log. length (lines log)) logs
