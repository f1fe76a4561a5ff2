use Rattle.std.proofs.Common.{◌++◌, ◌∷◌, [], sym, ap, subst, ◌∙◌}
use Rattle.indexmap.specs.IndexMap.{insert_entry}
use Rattle.rma_rules.specs.Spans.{AreLists, is_owned}
use Rattle.rma_rules.proofs.ListLemmas.{call_new, call_there, either, lists_push, OnOk_map}
use Rattle.rma_rules.proofs.spans.add_call.Goals as goal

pub returns-in-Some-clause-ok : goal.returns-in-Some-clause-ok
returns-in-Some-clause-ok c =
    OnOk_map c.push_at.result (λ is. is ∙ call_there c.args.rank c.args.window c.args.call c.args.lists.now.entries c.in-Some.place (sym c.in-Some.ensures.index)) c.push_at.ensures.ok

pub returns-clause-ok : goal.returns-clause-ok
returns-clause-ok c =
    c.in_ok-insert.ensures.entries
    ∙ ap (λ calls. insert_entry (λ own. is_owned own.rank own.window) c.args.lists.now.entries (record { rank = c.args.rank; window = c.args.window }) calls) (c.in_ok-push.ensures.ok ∙ ap (λ l. l ++ c.args.call ∷ []) c.new-calls.ensures)
    ∙ call_new c.args.rank c.args.window c.args.call c.args.lists.now.entries (sym c.in_default.ensures.found)

pub returns-in-Some-clause-lists : goal.returns-in-Some-clause-lists
returns-in-Some-clause-lists c =
    let lists = c.args.lists.now.entries in
    let made = call_there c.args.rank c.args.window c.args.call lists c.in-Some.place (sym c.in-Some.ensures.index) in
    either c.push_at.result c.push_at.ensures.ok c.push_at.ensures.err
    (λ is. subst AreLists (sym (is ∙ made)) (lists_push lists c.args.rank c.args.window c.args.call c.requires.lists c.requires.after c.requires.small))
    (λ is. subst AreLists (sym is) c.requires.lists)

pub returns-in_err-insert-clause-lists : goal.returns-in_err-insert-clause-lists
returns-in_err-insert-clause-lists c = subst AreLists (sym c.in_err-insert.ensures.err) c.requires.lists

pub returns-clause-lists : goal.returns-clause-lists
returns-clause-lists c =
    let lists = c.args.lists.now.entries in
    subst AreLists (sym (returns-clause-ok c)) (lists_push lists c.args.rank c.args.window c.args.call c.requires.lists c.requires.after c.requires.small)
