use Rattle.std.proofs.Common.{◌++◌, ◌∷◌, [], cond, nat_eq, refl, get_or, sym, ap, subst, ◌∙◌, append-nil}
use Rattle.std.proofs.lemmas.List.{take_all}
use Rattle.std.specs.List.Sorted.{IsStrictlyIncreasing}
use Rattle.rma_base.specs.RankSet.{has_number}
use Rattle.rma_exposure.specs.inside.Epochs.{listed}
use Rattle.rma_exposure.proofs.GroupLemmas.{member_more}
use Rattle.rma_exposure.proofs.openings.Openings.add.Goals as goal

pub loop-other-init : goal.loop-other-init
loop-other-init c = λ rank. sym (append-nil (listed c.args.self.now.numbers.entries rank))

pub loop-other-preserved : goal.loop-other-preserved
loop-other-preserved c = λ rank.
    let members = c.numbers-other-items.result.now in
    let before = listed c.args.self.now.numbers.entries rank in
    let up : IsStrictlyIncreasing members = subst IsStrictlyIncreasing (sym c.numbers-other-items.ensures.numbers) c.numbers-other-items.ensures.ascending in
    c.in_ok-list.ensures rank
    ∙ ap (λ ns. ns ++ cond (nat_eq (get_or members c.loop-other.other-index 0) rank) (c.args.number ∷ []) []) (c.loop-other.invariant rank)
    ∙ member_more members c.loop-other.other-index rank c.args.number before up c.loop-other-test.true

pub returns : goal.returns
returns c =
    let whole = take_all c.loop-other.other-index c.numbers-other-items.result.now c.loop-other-test.false ∙ c.numbers-other-items.ensures.numbers in
    record {
      numbers = λ other. c.loop-other.invariant other ∙ ap (λ group. listed c.args.self.now.numbers.entries other ++ cond (has_number other group) (c.args.number ∷ []) []) whole;
      pending = refl;
    }
