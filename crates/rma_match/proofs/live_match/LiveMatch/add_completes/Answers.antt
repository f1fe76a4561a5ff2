use Rattle.std.proofs.Common.{◌≡◌, None, refl}
use Rattle.rma_call.specs.Call.{what_of}
use Rattle.rma_exposure.specs.Opening.{waited}
use Rattle.rma_match.proofs.live_match.LiveMatch.add_completes.Goals as goal

pub returns-then-not-is_expwait : goal.returns-then-not-is_expwait
returns-then-not-is_expwait c = λ ranks calls are there.
    let none : waited (what_of c.args.call.what) ≡ None = c.is_expwait.ensures c.if-not-is_expwait.true in
    rw (there, none) refl
