-- What is kept of the calls of a run when they are scanned once.
use Rattle.std.specs.Prelude.{◌≡◌, ℕ, List}
use Rattle.rma_call.specs.Call.{RankCalls}
use Rattle.rma_round.specs.declared.kind.Kind.TheVariants as kind
use Rattle.rma_difference.specs.declared.all_rounds.AllRounds.{AllRounds}
use Rattle.rma_difference.specs.declared.scan.Scan.{Scan}
use Rattle.rma_member.specs.Declaration.{declarations}
use Rattle.rma_member.specs.Attribute.{declared, created}
use Rattle.rma_difference.specs.inside.Round.{AreRounds}

-- what is kept represents the calls of each kind of the ranks
pub record AreAllRounds (ranks : List RankCalls) (index : ℕ) (m : AllRounds) : Type 0 where
  pub collectives_are : AreRounds kind.Collective ranks index m.collectives
  pub frees_are : AreRounds kind.Free ranks index m.frees
  pub fences_are : AreRounds kind.Fence ranks index m.fences
  pub movings_are : AreRounds kind.Moving ranks index m.movings

-- what is kept represents the calls of the ranks up to the current one
pub record HasScanned (ranks : List RankCalls) (index : ℕ) (r : Scan) : Type 0 where
  pub comms_are : r.comms ≡ declarations declared ranks
  pub creations_are : r.creations ≡ declarations created ranks
  pub rounds_are : AreAllRounds ranks index r.rounds
