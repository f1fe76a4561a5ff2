use Rattle.std.proofs.Common.{sym, rules, subst, w64}
use Rattle.std.proofs.lemmas.Int.{to_z-of_z}
use Rattle.rma_cells.specs.inside.Table.{Table, table, IsSound, IsNormal, Merges}
use Rattle.rma_cells.proofs.RunLemmas.{same_table, alike_trans, ends_fail, ends_cut}
use Rattle.rma_cells.proofs.edits.cut_ends.Goals as goal

pub returns-in_err-cut-clause-err : goal.returns-in_err-cut-clause-err
returns-in_err-cut-clause-err c =
    let normal : IsNormal (table c.cut.new.map) = subst (λ (f : Table). IsNormal f) (same_table (table c.args.map.now) (table c.cut.new.map) c.in_err-cut.ensures.err) c.requires.normal in
    search rules

pub merge-requires-clause-sound : goal.merge-requires-clause-sound
merge-requires-clause-sound c = subst (λ (f : Table). IsSound f) (same_table (table c.cut.new.map) (table c.cut-2.new.map) c.in-Err.ensures.err) c.in_ok-cut.ensures.cuts.sound

pub returns-in-Ok-clause-same : goal.returns-in-Ok-clause-same
returns-in-Ok-clause-same c = alike_trans _ _ _ c.in_ok-cut.ensures.cuts.same c.in-Ok.ensures.cuts.same

pub returns-in-Ok-clause-cuts : goal.returns-in-Ok-clause-cuts
returns-in-Ok-clause-cuts c =
    let start = to_z-of_z w64 c.args.start c.ranges.start in
    let end = to_z-of_z w64 c.args.end c.ranges.end in
    ends_cut (table c.args.map.now) (table c.cut.new.map) (table c.cut-2.new.map) c.args.start c.args.end (rw start at c.in_ok-cut.ensures.cuts) (rw start at c.in_ok-cut.ensures.cut) (rw end at c.in-Ok.ensures.cuts) (rw end at c.in-Ok.ensures.cut)

pub returns-in-Err-clause-same : goal.returns-in-Err-clause-same
returns-in-Err-clause-same c =
    let start = to_z-of_z w64 c.args.start c.ranges.start in
    let merges : Merges (table c.cut.new.map) c.args.start (table c.merge.new.map) = subst (λ (f : Table). Merges f c.args.start (table c.merge.new.map)) (sym (same_table (table c.cut.new.map) (table c.cut-2.new.map) c.in-Err.ensures.err)) (rw start at c.merge.ensures.merges) in
    (ends_fail (table c.args.map.now) (table c.cut.new.map) (table c.merge.new.map) c.args.start c.requires.normal (rw start at c.in_ok-cut.ensures.cuts) merges).0

pub returns-in-Err-clause-err : goal.returns-in-Err-clause-err
returns-in-Err-clause-err c =
    let start = to_z-of_z w64 c.args.start c.ranges.start in
    let merges : Merges (table c.cut.new.map) c.args.start (table c.merge.new.map) = subst (λ (f : Table). Merges f c.args.start (table c.merge.new.map)) (sym (same_table (table c.cut.new.map) (table c.cut-2.new.map) c.in-Err.ensures.err)) (rw start at c.merge.ensures.merges) in
    (ends_fail (table c.args.map.now) (table c.cut.new.map) (table c.merge.new.map) c.args.start c.requires.normal (rw start at c.in_ok-cut.ensures.cuts) merges).1
