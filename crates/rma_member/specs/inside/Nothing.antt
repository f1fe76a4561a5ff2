-- Calls that declare nothing.
use Rattle.std.specs.Prelude.{◌≡◌, None}
use Rattle.rma_call.specs.declared.what.What.{What}
use Rattle.rma_member.specs.Attribute.{declared, created}

-- what a call does declares no communicator, and creates no window
pub record DeclaresNothing (what : What) : Type 0 where
  pub no_comm : declared what ≡ None
  pub no_window : created what ≡ None
