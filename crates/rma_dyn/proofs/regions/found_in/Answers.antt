use Rattle.std.proofs.Common.{◌≡◌, [], length, Some, refl, slice_get, sym, ap, ◌∙◌, arith}
use Rattle.std.proofs.lemmas.Option.{slice_get_read, slice_get_within}
use Rattle.rma_accesses.specs.inside.Kept.{rank_of}
use Rattle.rma_concurrent.proofs.ListLemmas.{from_all, from_more}
use Rattle.rma_dyn.specs.inside.Run.{IsOfRank}
use Rattle.rma_dyn.proofs.GatherLemmas.{map_at, map_length}
use Rattle.rma_dyn.proofs.regions.found_in.Goals as goal

pub loop-own-preserved : goal.loop-own-preserved
loop-own-preserved g c = λ links are.
    let ranks = c.args.ranks.now in
    let items = c.args.run.now.ranks.items in
    let i = c.loop-own.own-index in
    let own = c.own-item.result in
    let value = c.as_slice-own-items.ensures.value in
    let test = c.loop-own-test.true in
    let lengths = ap length value in
    let at : slice_get items i ≡ Some own = slice_get_read items (length items) i own refl (omega arith) (rw value at c.own-item.is) in
    let there : slice_get ranks i ≡ Some (rank_of own) = ap (λ rs. slice_get rs i) (sym c.requires.accesses.owns) ∙ map_at rank_of items i own at in
    from_more (IsOfRank links c.args.windows.now c.args.known.now.list.items ranks) ranks 0 i (rank_of own) [] c.loop-own.found.items c.add_rank.new.found.items (omega arith) there (c.loop-own.invariant links are)
    (c.in_ok-add_rank.ensures links are)

pub returns : goal.returns
returns g c = λ links are.
    let ranks = c.args.ranks.now in
    let items = c.args.run.now.ranks.items in
    let end = c.loop-own-test.false in
    let lengths = ap length c.as_slice-own-items.ensures.value in
    let as_many = ap length (sym c.requires.accesses.owns) ∙ map_length rank_of items in
    from_all (IsOfRank links c.args.windows.now c.args.known.now.list.items ranks) ranks 0 c.loop-own.own-index [] c.loop-own.found.items
    (λ x k own at is. let within = slice_get_within ranks k own at in (omega arith, omega arith)) (c.loop-own.invariant links are)
