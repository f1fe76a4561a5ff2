use Rattle.std.proofs.Common.{refl, sym}
use Rattle.rma_cover.proofs.HeldLemmas.{gone_on}
use Rattle.rma_cover.proofs.own_locks.OwnLocks.go_on.Goals as goal

pub returns : goal.returns
returns c = λ windows rank epochs before le holds.
    let own = c.args.self.now in
    gone_on
    windows
    rank
    epochs
    before
    c.args.number
    own
    (record { all = own.all; next = c.in_ok-self.field-0; held = c.open.new.held; keys = own.keys })
    c.keep_held.new.held.items
    le
    holds
    refl
    c.keep_held.ensures
    (rw (sym c.deref.ensures.value)
    (record { within = c.in_ok-self.ensures.within; held = c.in_ok-self.ensures.held; opened = c.in_ok-self.ensures.opened; unopened = c.in_ok-self.ensures.unopened }))
