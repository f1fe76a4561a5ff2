use Rattle.std.proofs.Common.{◌≡◌, ◌<◌, length, refl, sym, ap, subst, ◌∙◌, arith}
use Rattle.rma_history.specs.inside.Overlaps.{StandOnBytes}
use Rattle.rma_history.proofs.OverlapLemmas.{none_past, settles}
use Rattle.rma_history.proofs.overlaps.Overlaps.settle.Goals as goal

pub chains-init : goal.chains-init
chains-init c = record { same = refl; settled = refl; stands = c.self.invariant }

pub invariant_of-self : goal.invariant_of-self
invariant_of-self c = c.chains.invariant.stands

pub stand-requires-clause-index : goal.stand-requires-clause-index
stand-requires-clause-index c =
    let size : length c.as_slice.result.now ≡ length c.self.inside.chains.items = ap length c.as_slice.ensures.value ∙ ap (λ v. length v.items) c.chains.invariant.same in
    let count : c.in-Ok.count ≡ length c.self.inside.chains.items = c.in-Ok.ensures.1 ∙ c.len.ensures ∙ c.self.inside.chains.ok.0 in
    omega (arith, size, count)

pub stand-requires-clause-nowhere : goal.stand-requires-clause-nowhere
stand-requires-clause-nowhere c =
    let now = c.chains.self-inside in
    let stands : StandOnBytes now.chains.items now.hulls.items now.cells c.chains.index = subst (StandOnBytes now.chains.items now.hulls.items now.cells) c.chains.invariant.settled c.chains.invariant.stands in
    none_past now.chains.items now.hulls.items now.cells c.chains.index stands

pub invariant_of-self-in_err-stand : goal.invariant_of-self-in_err-stand
invariant_of-self-in_err-stand c =
    let now = c.chains.self-inside in
    subst (λ cells. StandOnBytes now.chains.items now.hulls.items cells now.settled) (sym c.in_err-stand.ensures.err) c.chains.invariant.stands

pub returns-in_err-stand : goal.returns-in_err-stand
returns-in_err-stand c = ap (λ v. v.items) c.chains.invariant.same ∙ c.self.view_is

pub chains-preserved : goal.chains-preserved
chains-preserved c =
    let now = c.chains.self-inside in
    let size : length now.chains.items ≡ length c.self.inside.chains.items = ap (λ v. length v.items) c.chains.invariant.same in
    let count : c.in-Ok.count ≡ length c.self.inside.chains.items = c.in-Ok.ensures.1 ∙ c.len.ensures ∙ c.self.inside.chains.ok.0 in
    let less : c.chains.index < length now.chains.items = omega (arith, size, count) in
    let stands : StandOnBytes now.chains.items now.hulls.items now.cells c.chains.index = subst (StandOnBytes now.chains.items now.hulls.items now.cells) c.chains.invariant.settled c.chains.invariant.stands in
    record {
      same = c.chains.invariant.same;
      settled = refl;
      stands = settles now.chains.items now.hulls.items now.cells c.chains.index stands c.stand.new.cells less (rw c.as_slice.ensures.value at c.in_ok-stand.ensures.all) c.in_ok-stand.ensures.still c.in_ok-stand.ensures.only;
    }

pub returns : goal.returns
returns c = ap (λ v. v.items) c.chains.invariant.same ∙ c.self.view_is
