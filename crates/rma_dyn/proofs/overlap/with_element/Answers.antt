use Rattle.std.proofs.Common.{sym, subst, Some}
use Rattle.std.proofs.lemmas.Option.{slice_get-get_or}
use Rattle.rma_dyn.specs.declared.change.Change.{Change}
use Rattle.rma_dyn.specs.inside.Overlap.{IsFirst}
use Rattle.rma_dyn.proofs.OverlapLemmas.{met, not_met}
use Rattle.rma_dyn.proofs.overlap.with_element.Goals as goal

pub overlaps-requires-clause-place : goal.overlaps-requires-clause-place
overlaps-requires-clause-place c = slice_get-get_or c.args.list.now c.args.index _ c.requires.index

pub returns-then-overlaps : goal.returns-then-overlaps
returns-then-overlaps c = λ known.
    let list = c.args.list.now in
    let index = c.args.index in
    subst (λ (x : Change). IsFirst list c.args.attach.now index (Some x)) (sym c.earlier_of.ensures) (met list c.args.attach.now index _ (slice_get-get_or list index _ c.requires.index) (c.overlaps.ensures.0 c.if-overlaps.true) c.args.first known)

pub returns-else-overlaps : goal.returns-else-overlaps
returns-else-overlaps c = λ known.
    let list = c.args.list.now in
    let index = c.args.index in
    not_met list c.args.attach.now index _ (slice_get-get_or list index _ c.requires.index) (λ meets. let told = c.overlaps.ensures.1 meets in let no = c.if-overlaps.false in absurd (let never : ⊥ = cc in never)) c.args.first known
