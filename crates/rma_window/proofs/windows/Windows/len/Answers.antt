use Rattle.std.proofs.Common.{length, sym, ap, ◌∙◌}
use Rattle.rma_window.proofs.WindowsLemmas.{length_windows}
use Rattle.rma_window.proofs.windows.Windows.len.Goals as goal

pub returns : goal.returns
returns c =
    let own = c.self.inside in
    c.len.ensures.len ∙ sym (length_windows 0 own.names.entries own.parts.entries) ∙ ap length c.self.view_is
