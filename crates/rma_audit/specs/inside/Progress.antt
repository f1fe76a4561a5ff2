-- How far the reading of the logs came.
use Rattle.std.specs.Prelude.{◌≡◌, ℕ, ◌+◌, ◌<◌, ◌≤◌, List, length, sum_by}
use Rattle.rma_base.specs.Limits.{byte_limit}
use Rattle.rma_io.specs.Count.{Rose}
use Rattle.rma_io.specs.Source.{Source}
use Rattle.rma_io.specs.declared.source.OpenFault.{OpenFault}
use Rattle.rma_io.specs.declared.source.OpenFault.TheVariants as refusal
use Rattle.rma_book.specs.inside.RankState.{RankState}
use Rattle.rma_stream.specs.inside.Feeding.{HaveBooks}
use Rattle.rma_audit.specs.Answers.{AreTaken}
use Rattle.rma_audit.specs.declared.stop.Stop.{Stop}
use Rattle.rma_audit.specs.declared.stop.Stop.TheVariants as stops

-- the books were fed what was taken of the logs, which are these texts so far
pub record HasTaken (source : Source) (books : List RankState) (texts : List (List ℕ)) : Type 0 where
  pub one_a_log : length texts ≡ length source.logs
  pub read : HaveBooks (length source.logs) books texts
  pub all_taken : sum_by length texts ≡ source.taken
  pub bytes : AreTaken source.logs texts

-- the books were fed what was taken of the logs
abbrev pub FollowsSource : Source → List RankState → Type 0
FollowsSource source books = (texts : List (List ℕ)) × HasTaken source books texts

-- reading stopped for this cause
abbrev pub StopsAt : Stop → Source → Source → Type 0
StopsAt stops.Fault before after = Rose before.faults after.faults × (after.taken ≤ byte_limit)
StopsAt (stops.TooLarge bytes) before after = (byte_limit < bytes) × (bytes ≤ byte_limit + 65536) × (bytes ≡ after.taken)
StopsAt stops.Memory before after = after.taken ≤ byte_limit

-- what an open that failed stops the reading with
abbrev pub stop_of : OpenFault → Stop
stop_of refusal.Failed = stops.Fault
stop_of refusal.Memory = stops.Memory

-- some pulls, or none, led from one state of a source to another: each kept what a pull keeps
pub data AfterPulls {P : Type 0} (stays : P → P → Type 0) (first : P) : P → Type 0 where
  NoPull : AfterPulls stays first first
  OnePull : (before after : P) → AfterPulls stays first before → stays before after → AfterPulls stays first after
