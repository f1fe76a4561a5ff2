use Rattle.std.proofs.Common.{sym, subst}
use Rattle.rma_window.specs.declared.window_id.WindowId.{WindowId}
use Rattle.rma_rules.specs.Access.{Access}
use Rattle.rma_rules.specs.Share.{IsSeparate}
use Rattle.rma_history.specs.History.{ArePublishing}
use Rattle.rma_history.specs.inside.Passed.{IsPublishedToAll}
use Rattle.rma_history.proofs.passed.is_published_for_all.Goals as goal

pub is_published_everywhere-requires : goal.is_published_everywhere-requires
is_published_everywhere-requires g c =
    let some = c.requires in
    (some.0, some.1, some.2, some.3, some.4, subst (λ (r : Access). ArePublishing some.0 c.args.lists.now r.memory) (sym c.a.view_is) some.5)

pub returns-else-not-is_store-clause-published : goal.returns-else-not-is_store-clause-published
returns-else-not-is_store-clause-published g c = λ points links are reached entered all behind test store.
    let spans = c.args.lists.now in
    let told = c.is_published_everywhere.ensures.published points links are reached entered (subst (λ (r : Access). ArePublishing points spans r.memory) (sym c.a.view_is) all) behind test in
    subst (λ (r : Access). (window : WindowId) → IsSeparate c.args.windows.now window → IsPublishedToAll links spans c.args.next.now r.memory window c.args.done) c.a.view_is told

pub returns-else-not-is_store-clause-behind : goal.returns-else-not-is_store-clause-behind
returns-else-not-is_store-clause-behind g c = λ points links are reached entered all behind.
    c.is_published_everywhere.ensures.behind points links are reached entered (subst (λ (r : Access). ArePublishing points c.args.lists.now r.memory) (sym c.a.view_is) all) behind
