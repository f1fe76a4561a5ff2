use Rattle.std.proofs.Common.{◌≡◌, ◌<◌, List, length, Some, sym, subst, ap, ◌∙◌}
use Rattle.rma_points.proofs.OptionLemmas.{mapped}
use Rattle.rma_rules.specs.Access.{Access}
use Rattle.rma_window.specs.Windows.{Window, window_of}
use Rattle.rma_dyn.proofs.AskedLemmas.{on_window}
use Rattle.rma_dyn.proofs.access.fault_of.Goals as goal

pub is_dynamic-requires : goal.is_dynamic-requires
is_dynamic-requires g c =
    let known = c.requires.known in
    let is : c.args.access.now.window ≡ Some c.in-Some.window = ap (λ (x : Access). x.window) (sym c.access.view_is) ∙ c.in-Some.is in
    subst (λ (ws : List Window). c.in-Some.window.0 < length ws) (sym known.of_run) (on_window c.args.ranks.now known.run c.args.access.now c.requires.access c.in-Some.window is)

pub returns-then-is_dynamic : goal.returns-then-is_dynamic
returns-then-is_dynamic g c = λ links are.
    let windows = c.args.windows.now in
    let id = c.in-Some.window in
    let is : c.args.access.now.window ≡ Some id = ap (λ (x : Access). x.window) (sym c.access.view_is) ∙ c.in-Some.is in
    let window = mapped (λ (w : Window). w.dynamic) (window_of windows id) _ c.if-is_dynamic.ensures in
    c.fault_through.ensures links windows are (id, window.0, is, window.1, window.2)
