use Rattle.rma_call.specs.inside.Groups.{whats_at}
use Rattle.rma_call.proofs.CallListLemmas.{calls_with_site}
use Rattle.rma_call.proofs.call_list.CallList.add_site.Goals as goal

pub returns-clause-ok : goal.returns-clause-ok
returns-clause-ok c =
    let own = c.self.inside in
    let same = calls_with_site (whats_at own.groups own.places.items) own.sites.items c.args.site own.entries c.self.invariant.0.below in
    rw (← c.self.view_is, c.in_ok-push.ensures.items, same)
