use Rattle.std.proofs.Common.{◌∙◌, sym}
use Rattle.rma_call.specs.Call.{what_of}
use Rattle.rma_window.specs.Creation.{creation_of}
use Rattle.rma_window.proofs.WholeLemmas.{test_is_right}
use Rattle.rma_window.proofs.windows.Windows.take_next.Goals as goal

pub take-requires : goal.take-requires
take-requires c = test_is_right c.args.self.now (creation_of c.args.rank c.in-Ok.number (what_of c.args.call.what)) (sym (c.may_take.ensures c.in-Ok.number) ∙ c.if-not-may_take.false)
