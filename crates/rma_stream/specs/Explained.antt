-- The cuts that explain one of the findings of an audit.
use Rattle.std.specs.Prelude.{◌≡◌, ℕ, ◌-◌, List, Option, Some, None, length, slice_get}
use Rattle.rma_call.specs.Call.{RankCalls}
use Rattle.rma_log.specs.declared.fault.BookEnd.{BookEnd}
use Rattle.rma_order.specs.RunLinks.{links_of}
use Rattle.rma_run.specs.Run.{lens_of}
use Rattle.rma_window.specs.Creation.{creations}
use Rattle.rma_window.specs.Windows.{windows_by}
use Rattle.rma_rules.specs.Spans.{Spans}
use Rattle.rma_span.specs.Span.{accesses}
use Rattle.rma_accesses.specs.Run.{AreListsOf}
use Rattle.rma_cut.specs.declared.cuts.Cuts.{Cuts}
use Rattle.rma_explain.specs.Explanation.{AreCutsOf}
use Rattle.rma_finding.specs.declared.finding.FoundRace.{FoundRace}
use Rattle.rma_finding.specs.declared.finding.PairFinding.TheVariants.{Race}
use Rattle.rma_report.specs.declared.finding.Finding.{Finding}
use Rattle.rma_report.specs.declared.finding.Finding.TheVariants.{Pair}
use Rattle.rma_stream.specs.Findings.{AreEnds, AreFindingsOf, calls_in}

-- the race that a finding is, if it is one
abbrev pub race_of : Option Finding → Option FoundRace
race_of (Some (Pair (Race race))) = Some race
race_of _ = None

-- the race that is the finding of this number, counted from 1, if it is one
abbrev pub race_at : List Finding → ℕ → Option FoundRace
race_at found number = race_of (slice_get found (number - 1))

-- the cuts show that race of a run, where the finding of this number is one, and there are none where it is not
abbrev pub AreCutsAt : List RankCalls → List Finding → ℕ → Option Cuts → Type 0
AreCutsAt ranks found number None = race_at found number ≡ None
AreCutsAt ranks found number (Some cuts) =
    (race : FoundRace) × (lists : Spans) × (race_at found number ≡ Some race) × AreListsOf ranks lists
    × AreCutsOf (links_of ranks) (lens_of ranks) (windows_by (creations ranks)) lists (accesses ranks) race cuts

-- the findings of an audit of these whole logs, and the cuts that show the one of this number
pub record AreExplained (logs : List (List ℕ)) (number : ℕ) (found : List Finding) (cuts : Option Cuts) : Type 0 where
  pub ends : List BookEnd
  pub ends_are : AreEnds (length logs) 0 logs ends
  pub found_are : AreFindingsOf ends found
  pub cuts_are : AreCutsAt (calls_in ends) found number cuts
