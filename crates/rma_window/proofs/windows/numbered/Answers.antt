use Rattle.std.proofs.Common.{nat_eq, sym, ap, ◌∙◌}
use Rattle.std.specs.Cmp.Lexicographic.{pointwise}
use Rattle.indexmap.specs.IndexMap.{insert_entry}
use Rattle.rma_window.proofs.WindowsLemmas.{with_name_there, with_name_new}
use Rattle.rma_window.proofs.windows.numbered.Goals as goal

pub returns-in-Some-clause-ok : goal.returns-in-Some-clause-ok
returns-in-Some-clause-ok c = sym (with_name_there c.args.name.now c.args.attributes c.args.names.now.entries (sym c.in-Some.ensures.found))

pub returns-clause-ok : goal.returns-clause-ok
returns-clause-ok c =
    c.in_ok-index.ensures.entries
    ∙ ap (λ name. insert_entry (pointwise nat_eq) c.args.names.now.entries name c.args.attributes) c.in_ok-name.ensures
    ∙ with_name_new c.args.name.now c.args.attributes c.args.names.now.entries (sym c.in_default.ensures.found)
