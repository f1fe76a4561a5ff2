use Rattle.std.proofs.Common.{ap, sym, ◌∙◌}
use Rattle.indexmap.specs.IndexMap.{set_value_at}
use Rattle.rma_rules.proofs.ListLemmas.{call_put, no_call_put, OnErr_map, OnOk_map, value_kept}
use Rattle.rma_rules.proofs.spans.push_at.Goals as goal

pub returns-in-Some-clause-ok : goal.returns-in-Some-clause-ok
returns-in-Some-clause-ok c =
    OnOk_map c.push.result
    (λ is. ap (set_value_at c.args.lists.now.entries c.args.place) is ∙ call_put c.args.lists.now.entries c.args.place c.args.call c.in-Some.calls.now (sym c.in-Some.ensures.value))
    c.push.ensures.ok

pub returns-in-Some-clause-err : goal.returns-in-Some-clause-err
returns-in-Some-clause-err c =
    OnErr_map c.push.result
    (λ is. ap (set_value_at c.args.lists.now.entries c.args.place) is ∙ value_kept c.args.lists.now.entries c.args.place c.in-Some.calls.now (sym c.in-Some.ensures.value))
    c.push.ensures.err

pub returns-in-None-clause-ok : goal.returns-in-None-clause-ok
returns-in-None-clause-ok c = no_call_put c.args.lists.now.entries c.args.place c.args.call (sym c.in-None.ensures.value)
