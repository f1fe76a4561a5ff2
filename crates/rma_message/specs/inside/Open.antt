-- How the receives of a rank that are not complete are found.
use Rattle.std.specs.Prelude.{◌≡◌, ℕ, List, nat_eq}
use Rattle.std.specs.Map.{lookup}
use Rattle.rma_message.specs.declared.receive.Receive.{Receive}
use Rattle.rma_message.specs.Receive.{open_at}

-- the map has the index of the receive of each request that is not complete
abbrev pub AreOpen : List Receive → List (ℕ × ℕ) → Type 0
AreOpen receives indexes = (request : ℕ) → lookup (nat_eq request) indexes ≡ open_at request receives
