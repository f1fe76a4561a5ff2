use Rattle.std.proofs.Common.{ap, ◌∙◌}
use Rattle.std.specs.Prelude.{option_map}
use Rattle.rma_window.specs.declared.window_id.WindowId.{WindowId}
use Rattle.rma_window.proofs.WindowsLemmas.{number_of_is}
use Rattle.rma_window.proofs.windows.Windows.find.Goals as goal

pub returns-in-Some : goal.returns-in-Some
returns-in-Some c =
    let own = c.self.inside in
    rw (← c.self.view_is)
    (ap (option_map (λ n. let id : WindowId = record { 0 = n } in id)) (c.in-Some.ensures.index ∙ number_of_is c.args.name.now own.names.entries own.parts.entries))

pub returns-in-None : goal.returns-in-None
returns-in-None c =
    let own = c.self.inside in
    rw (← c.self.view_is)
    (ap (option_map (λ n. let id : WindowId = record { 0 = n } in id)) (c.in-None.ensures.index ∙ number_of_is c.args.name.now own.names.entries own.parts.entries))
