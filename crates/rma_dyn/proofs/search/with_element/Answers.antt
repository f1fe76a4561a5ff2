use Rattle.std.proofs.lemmas.Option.{slice_get-get_or}
use Rattle.rma_dyn.proofs.CoverLemmas.{not_held}
use Rattle.rma_dyn.proofs.search.with_element.Goals as goal

pub with_attach-requires-clause-place : goal.with_attach-requires-clause-place
with_attach-requires-clause-place c = slice_get-get_or c.args.list.now c.args.index _ c.requires.index

pub returns-then-holds : goal.returns-then-holds
returns-then-holds c = λ known.
    let list = c.args.list.now in
    let index = c.args.index in
    c.with_attach.ensures c.args.access.now c.args.bound (c.holds.ensures.0 c.if-holds.true) known

pub returns-else-holds : goal.returns-else-holds
returns-else-holds c = λ known.
    let list = c.args.list.now in
    let index = c.args.index in
    not_held list c.args.access.now c.args.bound c.args.freed index _ (slice_get-get_or list index _ c.requires.index) (λ held. let told = c.holds.ensures.1 held in let no = c.if-holds.false in absurd (let never : ⊥ = cc in never)) c.args.cover known
