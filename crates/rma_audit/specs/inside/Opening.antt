-- How far the opening of the logs came.
use Rattle.std.specs.Prelude.{◌≡◌, ℕ, ◌≤◌, List, None, All}
use Rattle.rma_io.specs.LogBytes.{IsUntouched}
use Rattle.rma_io.specs.Source.{Source, Opened}

-- the first names were opened and none was refused; nothing was taken, and no fault was forgotten
pub record HasOpened (before after : Source) (opened : Opened) (given : List (List ℕ)) : Type 0 where
  pub names : opened.names ≡ given
  pub refused : opened.refused ≡ None
  pub taken : after.taken ≡ before.taken
  pub untouched : All IsUntouched after.logs
  pub faults : before.faults ≤ after.faults
