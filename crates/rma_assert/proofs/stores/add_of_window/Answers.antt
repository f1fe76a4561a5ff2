use Rattle.std.proofs.Common.{ℕ, refl, ap, subst, ◌∙◌}
use Rattle.rma_base.specs.declared.rank.Rank.{Rank}
use Rattle.rma_call.specs.Call.{RankCalls}
use Rattle.rma_rules.specs.Spans.{publishing_of}
use Rattle.rma_concurrent.specs.inside.Places.{HasMore}
use Rattle.rma_assert.specs.declared.assertion.BrokenAssertion.{BrokenAssertion}
use Rattle.rma_assert.specs.declared.publishing.Publishing.{Publishing}
use Rattle.rma_assert.specs.inside.Stored.{IsStoredAt}
use Rattle.rma_assert.proofs.GatherLemmas.{on_ok}
use Rattle.rma_assert.proofs.StoreLemmas.{more_of_window, none_says}
use Rattle.rma_assert.proofs.stores.add_of_window.Goals as goal

pub returns-then-any_says : goal.returns-then-any_says
returns-then-any_says c =
    let windows = c.args.windows.now in
    let ranks = c.args.ranks.now in
    let own = c.args.own.now in
    let old = c.args.found.now.items in
    let new = c.add_of_calls.new.found.items in
    let given : Publishing = record { rank = c.rank.result; calls = c.calls.result; window = c.args.window; published = c.publishing.result } in
    let published = c.publishing.ensures.calls ∙ ap (λ (r : Rank). publishing_of c.args.lists.now r c.args.window) c.rank-2.ensures in
    on_ok c.add_of_calls.result
    (λ more.
    more_of_window windows ranks own given c.args.lists.now c.args.window.0 old new refl c.rank.ensures c.calls.ensures published
    (subst (λ (r : RankCalls). HasMore (λ (x : BrokenAssertion). (index : ℕ) × IsStoredAt windows ranks r given index x) old new) c.requires.own more))
    c.add_of_calls.ensures

pub returns-else-any_says : goal.returns-else-any_says
returns-else-any_says c =
    let windows = c.args.windows.now in
    let ranks = c.args.ranks.now in
    let own = c.args.own.now in
    let old = c.args.found.now.items in
    let given : Publishing = record { rank = c.rank.result; calls = c.calls.result; window = c.args.window; published = c.publishing.result } in
    let published = c.publishing.ensures.calls ∙ ap (λ (r : Rank). publishing_of c.args.lists.now r c.args.window) c.rank-2.ensures in
    more_of_window windows ranks own given c.args.lists.now c.args.window.0 old old refl c.rank.ensures c.calls.ensures published
    (none_says windows ranks own given old (c.any_says.ensures c.if-any_says.false))
