use Rattle.std.proofs.Common.{◌≡◌, ◌+◌, Bool, arith}
use Rattle.rma_judge.specs.Names.{is_same}
use Rattle.rma_judge.specs.declared.names.Pending.{Pending}
use Rattle.rma_judge.proofs.StateLemmas.{put_over}
use Rattle.rma_judge.proofs.requests.Requests.make.Goals as goal

pub returns-clause-pending : goal.returns-clause-pending
returns-clause-pending c = λ name.
    let request : Bool → Pending = λ receives. record { ordinal = c.self.inside.made + 1; receives = receives } in
    let next : c.in-Some-checked_add.ordinal ≡ c.self.inside.made + 1 = omega (arith, c.in-Some-checked_add.ensures) in
    rw (c.in-Some.is, ← c.self.view_is, c.in-Ok.ensures.updates.0 name, c.in_ok-copy.ensures, next)
    (put_over request (is_same c.in-Some.name.now name) c.in-Some.receives _)
