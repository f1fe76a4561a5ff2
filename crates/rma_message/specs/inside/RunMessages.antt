-- What is kept of the messages of a run.
use Rattle.std.specs.Prelude.{[], ⊤}
use Rattle.rma_message.specs.Messages.{AreNumbered, edges_in, faults_in}
use Rattle.rma_message.specs.RunMessages.{RunMessages}
use Rattle.rma_message.specs.declared.run_messages.Found.{Found}
use Rattle.rma_message.specs.declared.run_messages.Found.TheVariants.{Matched, Ends}

-- the faults and the edges of what is kept
abbrev pub found_messages : Found → RunMessages
found_messages (Matched edges) = record { faults = []; edges = edges }
found_messages (Ends messages) = record { faults = faults_in messages; edges = edges_in messages }

-- the ends that are kept have numbers that calls of the run may have
abbrev pub AreFound : Found → Type 0
AreFound (Matched edges) = ⊤
AreFound (Ends messages) = AreNumbered messages
