use Rattle.std.proofs.Common.{◌≡◌, Some}
use Rattle.rma_history.proofs.PassedLemmas.{passed}
use Rattle.rma_history.proofs.passed.is_passed.Goals as goal

pub returns-clause-passed : goal.returns-clause-passed
returns-clause-passed g c = λ points links are known behind test.
    let done : c.args.a.now.done ≡ Some c.in-Some.done = rw (← c.a.view_is) c.in-Some.is in
    let reached = known.done c.in-Some.done done in
    let first = c.passes.ensures.answer points links are reached known.entered behind c.if-not-passes.false in
    let visible = c.is_visible_to_next.ensures points links are reached known.entered c.if-not-is_visible_to_next.false in
    let published = c.is_published_for_all.ensures.published points links are reached known.entered known.publishing (c.passes.ensures.behind points links are reached known.entered behind) test in
    passed links c.args.windows.now c.args.lists.now c.args.next.now c.args.a.now c.in-Some.done done first visible published

pub returns-clause-behind : goal.returns-clause-behind
returns-clause-behind g c = λ points links are known behind.
    let done : c.args.a.now.done ≡ Some c.in-Some.done = rw (← c.a.view_is) c.in-Some.is in
    let reached = known.done c.in-Some.done done in
    c.is_published_for_all.ensures.behind points links are reached known.entered known.publishing (c.passes.ensures.behind points links are reached known.entered behind)
