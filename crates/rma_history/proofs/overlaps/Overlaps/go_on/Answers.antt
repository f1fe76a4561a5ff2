use Rattle.std.proofs.Common.{◌≡◌, ◌++◌, ◌∷◌, List, [], Some, slice_get, set, sym, ap, subst, ◌∙◌}
use Rattle.std.proofs.lemmas.Option.{get_or_from_slice_get}
use Rattle.std.proofs.lemmas.Result.{on_ok_weaker}
use Rattle.rma_rules.specs.Access.{Access}
use Rattle.rma_chain.specs.Chain.{AreFollowedBy}
use Rattle.rma_history.specs.inside.Overlaps.{IsHome}
use Rattle.rma_history.proofs.OverlapLemmas.{goes_on}
use Rattle.rma_history.proofs.overlaps.Overlaps.go_on.Goals as goal

pub push-requires : goal.push-requires
push-requires c =
    let chains = c.self.inside.chains.items in
    let old = c.index_mut.result.now in
    let home : IsHome chains c.args.index c.args.access = (rw (← c.self.view_is) at c.requires) in
    let same : old ≡ home.0 = c.index_mut.ensures.value ∙ get_or_from_slice_get chains c.args.index home.0 old home.1 in
    subst (λ (l : List Access). AreFollowedBy l c.args.access) (sym same) home.2.follows

pub invariant_of-self : goal.invariant_of-self
invariant_of-self c =
    let chains = c.self.inside.chains.items in
    let home : IsHome chains c.args.index c.args.access = (rw (← c.self.view_is) at c.requires) in
    goes_on chains c.self.inside.hulls.items c.self.inside.cells c.self.inside.settled c.self.invariant c.push.result c.args.index c.index_mut.result.now c.push.new.self c.args.access c.index_mut.ensures.value home c.push.ensures.ok c.push.ensures.err

pub returns-clause-ok : goal.returns-clause-ok
returns-clause-ok c = on_ok_weaker c.push.result
    (λ (pushed : c.push.new.self ≡ c.index_mut.result.now ++ c.args.access ∷ []) chain at.
    let chains = c.self.inside.chains.items in
    let old = c.index_mut.result.now in
    let there : slice_get chains c.args.index ≡ Some chain = (rw c.self.view_is at) in
    let same : old ≡ chain = c.index_mut.ensures.value ∙ get_or_from_slice_get chains c.args.index chain old there in
    rw (← c.self.view_is) (ap (λ (l : List Access). set chains c.args.index l) (pushed ∙ ap (λ l. l ++ c.args.access ∷ []) same)))
    c.push.ensures.ok
