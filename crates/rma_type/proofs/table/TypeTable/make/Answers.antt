use Rattle.std.proofs.Common.{◌≡◌, List, sym, ◌∙◌, ap, arith}
use Rattle.rma_type.proofs.Words.{Make, Summary, entry_count, Origin, TypeId, IsMeasured, typemap_of_new}
use Rattle.rma_typemap.proofs.BoundLemmas.{entry_count_is}
use Rattle.rma_type.proofs.MakeLemmas.{refusal_checked}
use Rattle.rma_type.proofs.table.TypeTable.make.Goals as goal

pub returns-in-Err-clause-fault : goal.returns-in-Err-clause-fault
returns-in-Err-clause-fault c =
    let t = c.args.self.now in
    let constructor = c.args.constructor in
    rw (refusal_checked t c.args.name.now constructor c.in_ok-old_types.old_types c.in_ok-old_types.ensures.ok, ← c.as_slice.ensures) c.in-Err.ensures.fault

pub returns-in-Ok-add-clause-taken : goal.returns-in-Ok-add-clause-taken
returns-in-Ok-add-clause-taken c =
    let t = c.args.self.now in
    let constructor = c.args.constructor in
    rw (refusal_checked t c.args.name.now constructor c.in_ok-old_types.old_types c.in_ok-old_types.ensures.ok, ← c.as_slice.ensures) c.in-Ok.ensures.ok.taken

entries_are : (origins : List Origin) (constructor : Make) (old_types : List TypeId) (made : Summary) → IsMeasured (typemap_of_new origins constructor old_types) constructor made → made.entries ≡ entry_count (typemap_of_new origins constructor old_types)
entries_are origins constructor old_types made h = ap (λ (o : Summary). o.entries) h.summary_is ∙ sym (entry_count_is (typemap_of_new origins constructor old_types))

pub find_source-requires-clause-count : goal.find_source-requires-clause-count
find_source-requires-clause-count c =
    let origins = c.args.self.now.origins in
    let constructor = c.args.constructor in
    entries_are origins constructor c.as_slice.result.now c.in-Ok.summary c.in-Ok.ensures.ok
    ∙ ap (λ (ids : List TypeId). entry_count (typemap_of_new origins constructor ids)) (c.as_slice.ensures ∙ sym c.as_slice-2.ensures)

pub find_source-requires-clause-few : goal.find_source-requires-clause-few
find_source-requires-clause-few c =
    let same = entries_are c.args.self.now.origins c.args.constructor c.as_slice.result.now c.in-Ok.summary c.in-Ok.ensures.ok in
    omega (arith, same, c.in-Ok.ensures.ok.few)
