use Rattle.std.proofs.Common.{◌∙◌}
use Rattle.rma_epoch.proofs.LiveLemmas.{unclosed_is}
use Rattle.rma_epoch.proofs.open_windows.OpenWindows.is_unclosed.Goals as goal

pub returns : goal.returns
returns c = λ calls are. c.any_unclosed.ensures.any ∙ unclosed_is calls c.args.self.now.windows.entries are.windows_are c.any_unclosed.ensures.found
