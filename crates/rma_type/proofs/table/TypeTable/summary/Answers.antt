use Rattle.std.proofs.Common.{◌<◌, length, slice_index_or, [], arith, ap, ◌∙◌}
use Rattle.rma_type.proofs.Words.{length-map, Kept, summary, Table, typemaps, IsKept, origins_of}
use Rattle.rma_type.proofs.TableLemmas.{read_at, kept_near, kept_sound, kept_few}
use Rattle.rma_type.proofs.table.TypeTable.summary.Goals as goal

kept_at : (c : goal.After-index) → IsKept (slice_index_or (typemaps (origins_of c.self.inside.types.items)) c.args.id.0 []) c.args.id.0 c.index.result.now.origin c.index.result.now.summary
kept_at c =
    let items = c.self.inside.types.items in
    let origins = ap (λ (t : Table). length t.origins) c.self.view_is in
    let long = length-map items (λ (k : Kept). k.origin) in
    let within : c.args.id.0 < length items = omega (arith, origins, long, c.requires) in
    c.self.invariant.each c.args.id.0 c.index.result.now (read_at items c.args.id.0 c.index.result.now within c.index.ensures)

pub returns-clause-value : goal.returns-clause-value
returns-clause-value c =
    (kept_at c).summary_is ∙ ap (λ (t : Table). summary (slice_index_or (typemaps t.origins) c.args.id.0 [])) c.self.view_is

pub returns-clause-near : goal.returns-clause-near
returns-clause-near c = kept_near _ _ c.index.result.now (kept_at c)

pub returns-clause-sound : goal.returns-clause-sound
returns-clause-sound c = kept_sound _ _ c.index.result.now (kept_at c)

pub returns-clause-few : goal.returns-clause-few
returns-clause-few c = kept_few _ _ c.index.result.now (kept_at c)
