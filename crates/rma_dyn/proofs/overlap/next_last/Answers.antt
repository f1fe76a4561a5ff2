use Rattle.std.proofs.Common.{◌≡◌, ◌-◌, get_or, sym, subst, ◌∙◌, arith}
use Rattle.std.proofs.lemmas.Option.{get_or_from_slice_get, same_Some, slice_get-get_or}
use Rattle.rma_dyn.specs.declared.change.Change.{Change}
use Rattle.rma_dyn.specs.inside.Overlap.{IsGoneBy}
use Rattle.rma_dyn.proofs.OverlapLemmas.{both_at}
use Rattle.rma_dyn.proofs.overlap.next_last.Goals as goal

pub last_of-last-requires-clause-place : goal.last_of-last-requires-clause-place
last_of-last-requires-clause-place c = slice_get-get_or c.args.list.now c.args.i _ c.requires.index

pub returns-then-is_at_same-clause-own : goal.returns-then-is_at_same-clause-own
returns-then-is_at_same-clause-own c = λ a at number more small.
    let list = c.args.list.now in
    let same = same_Some _ a (sym (slice_get-get_or list c.args.i _ c.requires.index) ∙ at) in
    let max = c.max.ensures in
    subst (λ (x : Change). IsGoneBy list x c.last_of-last.result) same c.last_of-last.ensures number (grind arith) small

pub returns-then-is_at_same-clause-before : goal.returns-then-is_at_same-clause-before
returns-then-is_at_same-clause-before c = λ a b last at there held same more.
    let is : get_or c.args.lasts.now (c.args.i - 1) 0 ≡ last = get_or_from_slice_get c.args.lasts.now (c.args.i - 1) last 0 held in
    let max = c.max.ensures in
    grind arith

pub returns-else-is_at_same-clause-own : goal.returns-else-is_at_same-clause-own
returns-else-is_at_same-clause-own c = λ a at.
    let list = c.args.list.now in
    let same = same_Some _ a (sym (slice_get-get_or list c.args.i _ c.requires.index) ∙ at) in
    subst (λ (x : Change). IsGoneBy list x c.last_of-last.result) same c.last_of-last.ensures

pub returns-else-is_at_same-clause-before : goal.returns-else-is_at_same-clause-before
returns-else-is_at_same-clause-before c = λ a b last at there held same more.
    let told = c.is_at_same.ensures.1 (both_at c.args.list.now c.args.i (c.args.i - 1) a b _ _ at there same) in
    let no = c.if-is_at_same.false in
    absurd (let never : ⊥ = cc in never)
