-- What a table keeps of the requests of a log.
use Rattle.std.specs.Prelude.{◌≡◌, ℕ, ◌+◌, List, [], unwrap_or}
use Rattle.std.specs.Map.{lookup}
use Rattle.rma_judge.specs.Naming.{Attributes}
use Rattle.rma_judge.specs.Names.{is_same, makes, waits, request_change}
use Rattle.rma_judge.specs.declared.names.Pending.{Pending}

-- the requests that are pending, and how many were made and completed
pub record RequestTable : Type 0 where
  pub pending : List (List ℕ × Pending)
  pub made : ℕ
  pub completed : ℕ

-- no request was made
abbrev pub no_requests : RequestTable
no_requests = record { pending = []; made = 0; completed = 0 }

-- The requests changed as an event says.
pub record AreChanged (old new : RequestTable) (it : Attributes) : Type 0 where
  pub pending : (name : List ℕ) → lookup (is_same name) new.pending ≡ unwrap_or (request_change old.made it name) (lookup (is_same name) old.pending)
  pub made : new.made ≡ old.made + makes it
  pub completed : new.completed ≡ old.completed + waits it
