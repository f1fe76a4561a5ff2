use Rattle.rma_call.specs.inside.Groups.{whats_at}
use Rattle.rma_call.proofs.CallListLemmas.{calls_with_call}
use Rattle.rma_call.proofs.call_list.CallList.push.Goals as goal

pub returns-clause-ok : goal.returns-clause-ok
returns-clause-ok c = λ value at.
    let own = c.self.inside in
    let below = rw (← c.self.view_is) at c.requires.site in
    let is = rw (← c.self.view_is) at at in
    rw (
      ← c.self.view_is,
      c.in_ok-push.ensures.ok,
      calls_with_call (whats_at own.groups own.places.items) own.sites.items own.entries
          (record { line = c.args.line; what = c.args.what; site = c.kept.result; request = c.kept-2.result }) c.args.site value below c.kept.ensures is,
      c.kept-2.ensures,
    )
