use Rattle.rma_call.proofs.EntryLemmas.{joined_more}
use Rattle.rma_call.proofs.entries.Entries.push.Goals as goal

pub returns-in-Ok-clause-ok : goal.returns-in-Ok-clause-ok
returns-in-Ok-clause-ok c =
    let own = c.self.inside in
    let details = c.in-Ok.ensures.items in
    rw (← c.self.view_is, c.in_ok-push.ensures.items, c.in-Ok.ensures.items)
    (joined_more own.whats.items own.details.items c.args.entry.what (record { line = c.args.entry.line; site = c.args.entry.site; request = c.args.entry.request }) c.self.invariant)
