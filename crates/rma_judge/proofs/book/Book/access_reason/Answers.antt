use Rattle.std.proofs.Common.{sym, ◌∙◌}
use Rattle.std.specs.Option.{option_copied}
use Rattle.rma_judge.proofs.AccessLemmas.{access_named}
use Rattle.rma_judge.proofs.book.Book.access_reason.Goals as goal

pub returns-in-None : goal.returns-in-None
returns-in-None c = λ events h.
    let line = c.args.line.now in
    access_named c.args.self.now events line.window line.target (option_copied c.args.request) c.args.lacks_type c.has_window.result c.is_pending.result c.is_far.result c.first_access_reason.result
    h (sym c.later_reason.ensures ∙ c.in-None.is) c.first_access_reason.ensures c.has_window.ensures (c.is_pending.ensures events h) c.is_far.ensures
