use Rattle.std.proofs.Common.{◌≡◌, Some}
use Rattle.rma_rules.specs.Before.{NeedsVisible}
use Rattle.rma_cut.proofs.make.held_back.Goals as goal

pub returns-then-is_update_seen : goal.returns-then-is_update_seen
unfolding NeedsVisible
returns-then-is_update_seen c = λ window.
    let done : c.args.a.now.done ≡ Some c.in_ok-a.field-0 = rw (← c.a.view_is) c.in_ok-a.was in
    let seen = c.is_update_seen.ensures.0 c.if-is_update_seen.true in
    let told = c.separate_window.ensures window in
    (λ found. (c.in_ok-a.field-0, done, (seen.0, seen.1, told.0 found)), λ held. told.1 held.2.2)

pub returns-else-is_update_seen : goal.returns-else-is_update_seen
unfolding NeedsVisible
returns-else-is_update_seen c = λ window.
    (λ found. absurd (cc), λ held. absurd (let yes = c.is_update_seen.ensures.1 (held.2.0, held.2.1) in let no = c.if-is_update_seen.false in cc))
