-- What is kept of the calls that are taken.
use Rattle.std.specs.Prelude.{ℕ, List}
use Rattle.rma_call.specs.Call.{Call}
use Rattle.rma_message.specs.inside.Live as message
use Rattle.rma_round.specs.inside.Rounds as round
use Rattle.rma_exposure.specs.inside.Epochs as exposure
use Rattle.rma_match.specs.declared.live_match.LiveMatch.{LiveMatch}
use Rattle.rma_match.specs.Source.{AreFew}
use Rattle.rma_match.specs.inside.Groups.{AreGroups}

-- what is kept represents these calls of the ranks of a run of so many
pub record Represents (ranks : ℕ) (calls : ℕ → List Call) (live : LiveMatch) : Type 0 where
  pub few : AreFew calls
  pub groups_are : AreGroups ranks calls live.groups
  pub messages_are : message.Represents calls live.messages
  pub rounds_are : round.Represents calls live.rounds
  pub exposures_are : exposure.Represents calls live.exposures
