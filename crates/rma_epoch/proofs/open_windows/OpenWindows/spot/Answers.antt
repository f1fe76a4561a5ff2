use Rattle.std.proofs.Common.{ap, ◌∙◌}
use Rattle.rma_epoch.specs.inside.Windows.{kept}
use Rattle.rma_epoch.proofs.open_windows.OpenWindows.spot.Goals as goal

pub returns-in_ok-window-in-Some-clause-same : goal.returns-in_ok-window-in-Some-clause-same
returns-in_ok-window-in-Some-clause-same c = λ before are. record {
  windows_are = λ name. ap (λ entries. kept entries name) c.in_ok-window-in-Some.ensures.same ∙ c.in_ok-index-in-Some.ensures.same name ∙ are.windows_are name;
}
