use Rattle.std.proofs.Common.{◌≡◌, slice_get, slice_set, Some, true, refl, sym, ap, ◌∙◌}
use Rattle.rma_type.proofs.Words.{map-set, Kept, Table, id_of}
use Rattle.rma_type.proofs.TableLemmas.{read_at, as_committed, IsTable_committed, origins_of_set}
use Rattle.rma_type.proofs.table.TypeTable.commit.Goals as goal

there : (c : goal.After-self-1) → slice_get c.self.inside.types.items c.in-Some.id.0 ≡ Some c.index_mut.result.now
there c =
    let live = ap (λ (t : Table). id_of t.live c.args.name.now) c.self.view_is in
    let named : id_of c.self.inside.live.entries c.args.name.now ≡ Some c.in-Some.id = live ∙ sym c.find.ensures.value ∙ c.in-Some.is in
    read_at c.self.inside.types.items c.in-Some.id.0 c.index_mut.result.now (c.self.invariant.ids c.args.name.now c.in-Some.id named) c.index_mut.ensures.value

pub invariant_of-self : goal.invariant_of-self
invariant_of-self c = IsTable_committed c.self.inside c.in-Some.id.0 c.index_mut.result.now c.self.invariant (there c)

pub returns-clause-ok : goal.returns-clause-ok
returns-clause-ok c =
    let items = c.self.inside.types.items in
    let i = c.in-Some.id.0 in
    let old = c.index_mut.result.now in
    record {
      origins = origins_of_set items i (as_committed old) old (there c) refl ∙ ap (λ (t : Table). t.origins) c.self.view_is;
      live = ap (λ (t : Table). t.live) c.self.view_is;
      committed = rw (← c.find.ensures.value, c.in-Some.is) (map-set (λ (k : Kept). k.committed) items i (as_committed old) ∙ ap (λ (t : Table). slice_set t.committed i true) c.self.view_is);
    }
