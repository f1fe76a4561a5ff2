use Rattle.std.proofs.Common.{◌≡◌, ◌++◌, ◌∷◌, [], sym, ap, subst, ◌∙◌}
use Rattle.rma_history.specs.inside.Overlaps.{StandOnBytes}
use Rattle.rma_history.proofs.OverlapLemmas.{begins}
use Rattle.rma_history.proofs.overlaps.Overlaps.begin.Goals as goal

pub invariant_of-self-2 : goal.invariant_of-self-2
invariant_of-self-2 c =
    let own = c.self.inside in
    let hull = c.hull_of-hull.result in
    let chains : c.push_reserved.new.self.items ≡ own.chains.items ++ c.args.chain ∷ [] = c.push_reserved.ensures.items ∙ ap (λ l. l ++ c.args.chain ∷ []) c.in_ok-reserve.ensures.items in
    let hulls : c.push_reserved-2.new.self.items ≡ own.hulls.items ++ hull ∷ [] = c.push_reserved-2.ensures.items ∙ ap (λ l. l ++ hull ∷ []) c.in_ok-reserve-2.ensures.items in
    subst (λ l. StandOnBytes l c.push_reserved-2.new.self.items own.cells own.settled) (sym chains)
    (subst (λ l. StandOnBytes (own.chains.items ++ c.args.chain ∷ []) l own.cells own.settled) (sym hulls)
    (begins own.chains.items own.hulls.items own.cells own.settled c.self.invariant c.args.chain hull c.hull_of-hull.ensures))
