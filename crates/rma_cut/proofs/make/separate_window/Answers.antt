use Rattle.std.proofs.Common.{◌≡◌, None, Some}
use Rattle.rma_rules.proofs.PartLemmas.{is_separate, is_unified, through_none}
use Rattle.rma_cut.proofs.make.separate_window.Goals as goal

pub returns-in_err-window : goal.returns-in_err-window
returns-in_err-window c = λ id.
    let none : c.args.a.now.window ≡ None = rw (← c.a.view_is) c.in_err-window.was in
    (λ found. absurd (cc (c.from_residual.ensures)), λ is. absurd (through_none c.args.windows.now c.args.a.now id none is))

pub returns-in-Separate : goal.returns-in-Separate
returns-in-Separate c = λ id.
    let through : c.args.a.now.window ≡ Some c.in_ok-window.window = rw (← c.a.view_is) c.in_ok-window.was in
    is_separate c.args.windows.now c.args.a.now c.in_ok-window.window through c.in-Separate.ensures id

pub returns-in-Unified : goal.returns-in-Unified
returns-in-Unified c = λ id.
    let through : c.args.a.now.window ≡ Some c.in_ok-window.window = rw (← c.a.view_is) c.in_ok-window.was in
    (λ found. absurd (cc), λ is. absurd (is_unified c.args.windows.now c.args.a.now c.in_ok-window.window through c.in-Unified.ensures id is))
