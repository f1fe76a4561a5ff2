use Rattle.std.proofs.Common.{◌≡◌, ℕ, ◌<◌, List, length, Some, true, sym, ap, ◌∙◌, rules}
use Rattle.rma_type.proofs.Words.{length-map, TypeId, Kept, Table, id_of, old_names, old_types_of, all_live}
use Rattle.rma_type.proofs.OldLemmas.{ComesAfter_found}
use Rattle.rma_type.proofs.table.TypeTable.find_old_types.Goals as goal

pub returns-in-Ok-clause-after : goal.returns-in-Ok-clause-after
returns-in-Ok-clause-after c =
    let t = c.args.self.now in
    let constructor = c.args.constructor.now in
    let items = c.self.inside.types.items in
    let is : c.match-constructor.old_types ≡ old_types_of t.live (old_names constructor) = search rules in
    let all : all_live t.live (old_names constructor) ≡ true = search rules in
    let long : length items ≡ length t.origins = sym (length-map items (λ (k : Kept). k.origin)) ∙ ap (λ (x : Table). length x.origins) c.self.view_is in
    let stand : (name : List ℕ) (id : TypeId) → id_of t.live name ≡ Some id → id.0 < length t.origins = rw (← long, ← ap (λ (x : Table). x.live) c.self.view_is) c.self.invariant.ids in
    rw is (ComesAfter_found (length t.origins) t.live constructor stand all)
