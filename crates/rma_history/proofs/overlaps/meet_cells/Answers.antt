use Rattle.std.proofs.Common.{◌↔◌, ℕ, ℤ, Contains, arith}
use Rattle.std.proofs.lemmas.Result.{on_ok_weaker}
use Rattle.rma_bytes.specs.Runs.{HasByte}
use Rattle.rma_cells.specs.Cells.{StandsAt}
use Rattle.rma_history.proofs.overlaps.meet_cells.Goals as goal

pub returns-then-settled-eq0-clause-found : goal.returns-then-settled-eq0-clause-found
returns-then-settled-eq0-clause-found c = λ id b stands has.
    let less = c.requires id b stands in
    let none = c.if-settled-eq0.true in
    absurd (omega (arith, less, none))

pub returns-clause-found : goal.returns-clause-found
returns-clause-found c = on_ok_weaker c.look.result
    (λ (met : (id : ℕ) → Contains c.look.new.met.items id ↔ ((b : ℤ) × StandsAt c.args.cells.now id b × HasByte c.in_ok-reach.reach b)) id b stands has. (met id).1 (b, stands, c.in_ok-reach.ensures b has))
    c.look.ensures

pub returns-clause-bound : goal.returns-clause-bound
returns-clause-bound c = on_ok_weaker c.look.result
    (λ (met : (id : ℕ) → Contains c.look.new.met.items id ↔ ((b : ℤ) × StandsAt c.args.cells.now id b × HasByte c.in_ok-reach.reach b)) id there.
    let one = (met id).0 there in
    c.requires id one.0 one.1)
    c.look.ensures
