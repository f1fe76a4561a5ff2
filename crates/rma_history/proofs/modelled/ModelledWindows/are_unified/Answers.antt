use Rattle.std.proofs.Common.{◌≡◌, not, Bool, true, false, refl, sym, IsTrue}
use Rattle.rma_history.proofs.modelled.ModelledWindows.are_unified.Goals as goal

is_false : (b : Bool) → IsTrue (not b) → b ≡ false
is_false true is = sym is
is_false false is = refl

pub returns : goal.returns
returns c = λ test id. (rw c.self.view_is at (c.self.invariant (is_false c.self.inside.has_separate test))) id
