use Rattle.rma_rules.specs.Before.{NeedsVisible}
use Rattle.rma_cut.proofs.check.needs_visible.Goals as goal

pub returns-then-is_update_seen : goal.returns-then-is_update_seen
unfolding NeedsVisible
returns-then-is_update_seen c = λ window.
    let seen = c.is_update_seen.ensures.0 c.if-is_update_seen.true in
    let told = c.separate_window.ensures window in
    (λ found. (seen.0, seen.1, told.0 found), λ needs. told.1 needs.2)

pub returns-else-is_update_seen : goal.returns-else-is_update_seen
unfolding NeedsVisible
returns-else-is_update_seen c = λ window.
    (λ found. absurd (cc), λ needs. absurd (let yes = c.is_update_seen.ensures.1 (needs.0, needs.1) in let no = c.if-is_update_seen.false in cc))
