use Rattle.std.proofs.Common.{refl, ap, ◌∙◌, arith}
use Rattle.std.specs.Prelude.{option_map}
use Rattle.rma_window.specs.Windows.{Window}
use Rattle.rma_window.proofs.WindowsLemmas.{kept_of_attributes, length_windows}
use Rattle.rma_window.proofs.windows.Windows.is_dynamic.Goals as goal

pub index-requires : goal.index-requires
index-requires c = omega (arith, rw (← c.self.view_is) at c.requires, length_windows 0 c.self.inside.names.entries c.self.inside.parts.entries)

pub returns : goal.returns
returns c =
    let own = c.self.inside in
    rw (← c.self.view_is)
    (kept_of_attributes (λ (w : Window). w.dynamic) (λ a. a.dynamic) (λ n named parts. refl) 0 c.args.window.0 own.names.entries own.parts.entries ∙ ap (option_map (λ a. a.dynamic)) c.index.ensures)
