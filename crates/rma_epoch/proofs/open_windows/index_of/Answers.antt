use Rattle.std.proofs.Common.{slice_get, sym, ap, ◌∙◌}
use Rattle.std.proofs.lemmas.List.{length-map}
use Rattle.indexmap.specs.IndexMap.{keys}
use Rattle.rma_epoch.proofs.PlaceLemmas.{found_at, name_added, at_push, before_push}
use Rattle.rma_epoch.proofs.open_windows.index_of.Goals as goal

pub returns-in-Some-clause-index : goal.returns-in-Some-clause-index
returns-in-Some-clause-index c = found_at _ c.args.name.now c.in-Some.index c.in-Some.ensures.index

pub returns-clause-index : goal.returns-clause-index
returns-clause-index c =
    let table = c.args.table.now in
    let name = c.args.name.now in
    let names = name_added table name c.in_ok-copy.field-0 c.new.result c.insert.new.self.entries (sym c.in_default.ensures.found) c.in_ok-copy.ensures c.in_ok-insert.ensures.entries in
    ap (λ l. slice_get l c.len-index.result) names ∙ at_push (keys table) name c.len-index.result (c.len-index.ensures.len ∙ sym (length-map table.entries (λ e. e.0)))

pub returns-clause-names : goal.returns-clause-names
returns-clause-names c = λ place other at.
    let table = c.args.table.now in
    let name = c.args.name.now in
    let names = name_added table name c.in_ok-copy.field-0 c.new.result c.insert.new.self.entries (sym c.in_default.ensures.found) c.in_ok-copy.ensures c.in_ok-insert.ensures.entries in
    ap (λ l. slice_get l place) names ∙ before_push (keys table) name other place at
