use Rattle.std.proofs.Common.{ℕ, List, Option, sym, subst}
use Rattle.rma_history.specs.inside.Passed.{AreBehind}
use Rattle.rma_history.proofs.HorizonLemmas.{known_passes, noted}
use Rattle.rma_history.proofs.horizon.Horizon.passes.Goals as goal

pub returns-then-is_known-clause-answer : goal.returns-then-is_known-clause-answer
returns-then-is_known-clause-answer g c = λ points links are reached entered behind test.
    let known = c.is_known.ensures.0 c.if-is_known.true in
    known_passes links c.args.next.now c.args.self.now c.args.p behind known.0 known.1 known.2

pub returns-clause-behind : goal.returns-clause-behind
returns-clause-behind g c = λ points links are reached entered behind.
    let all = c.is_before_all.ensures points links are reached entered c.if-not-is_before_all.false in
    subst (λ (l : List (Option ℕ)). AreBehind links c.args.next.now l) (sym c.note.ensures) (noted links c.args.next.now c.args.self.now c.args.p behind all)
