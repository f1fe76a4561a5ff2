-- How far the first passes of an audit come in a run without a bad line.
use Rattle.std.specs.Prelude.{◌≡◌, ◌≢◌, ℕ, List, [], None}
use Rattle.rma_call.specs.Call.{RankCalls}
use Rattle.rma_clock.specs.declared.shared.SharedClocks.{SharedClocks}
use Rattle.rma_happens_before.specs.RunOrder.{IsHappensBefore}
use Rattle.rma_link.specs.declared.links.Links.{Links}
use Rattle.rma_report.specs.declared.finding.Finding.{Finding}
use Rattle.rma_stream.specs.declared.study.Study.{Study}
use Rattle.rma_stream.specs.declared.study.Study.TheVariants.{Failed, Possible}
use Rattle.rma_stream.specs.Explained.{race_at}
use Rattle.rma_stream.specs.Findings.{AreImpossible, AreRunFindings, mismatches}

-- no finding is a race
abbrev pub HasNoRace : List Finding → Type 0
HasNoRace found = (number : ℕ) → race_at found number ≡ None

-- something is found, and no race
pub record AreEarly (Found : List Finding → Type 0) (found : List Finding) : Type 0 where
  pub are : Found found
  pub some : found ≢ []
  pub no_race : HasNoRace found

-- where calls match: those that are never left, or the order of a possible run
abbrev pub IsOrdered : (SharedClocks → List ℕ → Links → Type 0) → List RankCalls → Study → Type 0
IsOrdered are_of ranks (Failed found) = AreEarly (AreImpossible ranks) found
IsOrdered are_of ranks (Possible order) = IsHappensBefore are_of ranks order

-- what is found first, or, where the first passes find nothing, the order of the run
abbrev pub IsStudy : (SharedClocks → List ℕ → Links → Type 0) → List RankCalls → Study → Type 0
IsStudy are_of ranks (Failed found) = AreEarly (AreRunFindings ranks) found
IsStudy are_of ranks (Possible order) = (mismatches ranks ≡ []) × IsHappensBefore are_of ranks order
