use Rattle.std.proofs.Common.{◌≡◌, ◌+◌, ◌≤◌, Some, length, slice_get, refl, sym, ◌∙◌, arith}
use Rattle.std.proofs.lemmas.Option.{slice_get_read, slice_get_within}
use Rattle.rma_dyn.proofs.SortLemmas.{above_behind, below_own}
use Rattle.rma_dyn.specs.inside.Sorted.{owner_of}
use Rattle.rma_dyn.proofs.sorted.behind_attach.Goals as goal

pub returns-else-is_below-clause-before : goal.returns-else-is_below-clause-before
returns-else-is_below-clause-before c = λ k own lt at. below_own own c.args.attach.now (c.requires.rise k c.args.index own c.args.attach.now (omega arith) at c.requires.place)

pub returns-else-is_below-clause-after : goal.returns-else-is_below-clause-after
returns-else-is_below-clause-after c = λ k own le at.
    let list = c.args.list.now in
    let g = c.args.attach.now in
    let next = c.in-Some.own.now in
    let place = c.args.index + 1 in
    let there : slice_get list place ≡ Some next = slice_get_read list (length list) place next refl c.in-Some.ensures.lookup.3.0 c.in-Some.ensures.lookup.1 in
    above_behind (owner_of g) g.address (g.call + 1) next own (c.requires.rise place k next own le there at) (sym c.is_below.ensures ∙ c.if-is_below.false)

pub returns-in-None-clause-before : goal.returns-in-None-clause-before
returns-in-None-clause-before c = λ k own lt at. below_own own c.args.attach.now (c.requires.rise k c.args.index own c.args.attach.now (omega arith) at c.requires.place)

pub returns-in-None-clause-after : goal.returns-in-None-clause-after
returns-in-None-clause-after c = λ k own le at.
    let past : length c.args.list.now ≤ c.args.index + 1 = c.in-None.ensures.lookup.3 in
    let within = slice_get_within c.args.list.now k own at in
    absurd (let never : ⊥ = omega arith in never)
