use Rattle.std.proofs.Common.{◌≡◌, ◌<◌, ◌++◌, ◌∷◌, [], All, sym, ap, subst, ◌∙◌}
use Rattle.rma_rules.specs.Spans.{Spans, calls_under}
use Rattle.rma_rules.proofs.ListLemmas.{OnOk_map}
use Rattle.rma_visibility.specs.Visibility.{AreListed, AreOthersSame, makes_visible, number_at, publishes, publishing_calls, visible_calls, where_so}
use Rattle.rma_visibility.specs.inside.Listed.{with_both}
use Rattle.rma_visibility.proofs.ListedLemmas.{ended, listed_more, others_same, publishing_below, visible_below}
use Rattle.rma_visibility.proofs.lists.list_call.Goals as goal

pub add_publishing-requires-clause-after : goal.add_publishing-requires-clause-after
add_publishing-requires-clause-after c =
    let (windows, calls, e, own) = c.requires.listed in
    λ window. subst (λ l. All (λ k. k < c.args.number) l) (sym (own.publishing window))
    (subst (λ n. All (λ k. k < n) (publishing_calls windows calls window)) (sym e) (publishing_below windows calls window))

pub add_visible-requires-clause-after : goal.add_visible-requires-clause-after
add_visible-requires-clause-after c =
    let (windows, calls, e, own) = c.requires.listed in
    let same = ap (λ (s : Spans). s.visible) c.in_ok-add_publishing.ensures in
    λ window. subst (λ l. All (λ k. k < c.args.number) l) (sym (ap (λ l. calls_under l c.args.rank window) same ∙ own.visible window))
    (subst (λ n. All (λ k. k < n) (visible_calls windows calls window)) (sym e) (visible_below windows calls window))

pub returns-clause-own : goal.returns-clause-own
returns-clause-own c =
    OnOk_map c.add_visible.result
    (λ is windows calls call what window number own.
    let published : c.where_so.result ≡ where_so (publishes call.what) (number_at windows call.what) =
    c.where_so.ensures ∙ ap (λ b. where_so b c.args.window) (c.publishes.ensures ∙ ap publishes (sym what)) ∙ ap (where_so (publishes call.what)) window in
    let shown : c.where_so-2.result ≡ where_so (makes_visible call.what) (number_at windows call.what) =
    c.where_so-2.ensures ∙ ap (λ b. where_so b c.args.window) (c.makes_visible.ensures ∙ ap makes_visible (sym what)) ∙ ap (where_so (makes_visible call.what)) window in
    subst (λ s. AreListed windows c.args.rank (calls ++ call ∷ []) s)
    (sym (ended c.args.rank c.args.spans.now c.add_publishing.new.spans c.add_visible.new.spans c.where_so.result c.where_so-2.result c.args.number c.in_ok-add_publishing.ensures is ∙ (λ t. with_both c.args.spans.now c.args.rank (published t) (shown t) c.args.number)))
    (listed_more windows c.args.rank calls call c.args.number c.args.spans.now number own))
    c.add_visible.ensures

pub returns-clause-others : goal.returns-clause-others
returns-clause-others c =
    OnOk_map c.add_visible.result
    (λ is. subst (AreOthersSame c.args.rank c.args.spans.now) (sym (ended c.args.rank c.args.spans.now c.add_publishing.new.spans c.add_visible.new.spans c.where_so.result c.where_so-2.result c.args.number c.in_ok-add_publishing.ensures is)) (others_same c.args.rank c.where_so.result c.where_so-2.result c.args.number c.args.spans.now))
    c.add_visible.ensures
