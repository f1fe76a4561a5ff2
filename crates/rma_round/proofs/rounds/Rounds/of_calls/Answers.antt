use Rattle.std.proofs.Common.{◌≡◌, [], Some, slice_get, take, length, refl, sym, subst}
use Rattle.std.proofs.lemmas.Option.{slice_get_read}
use Rattle.rma_base.specs.declared.rank.Rank.{Rank}
use Rattle.rma_run.specs.Run.{calls_of, with_calls}
use Rattle.rma_run.proofs.CallLemmas.{next_has_none}
use Rattle.rma_round.specs.inside.Rounds.{Represents}
use Rattle.rma_round.proofs.KeptLemmas.{Represents_next}
use Rattle.rma_round.proofs.rounds.Rounds.of_calls.Goals as goal

pub loop-rank-preserved : goal.loop-rank-preserved
loop-rank-preserved c =
    let ranks = c.args.ranks.now in
    let i = c.loop-rank.rank-index in
    let own = c.rank-item.result in
    let there : slice_get ranks i ≡ Some own = slice_get_read ranks (length ranks) i own refl c.loop-rank-test.true c.rank-item.is in
    let is = c.requires.in_order i own there in
    let before = calls_of (take i ranks) in
    let new = c.take_all.new.self in
    let none : before c.rank.result.0 ≡ [] = subst (λ (r : Rank). before r.0 ≡ []) (sym c.rank.ensures) (next_has_none ranks i own there is) in
    Represents_next ranks i own new there is
    (subst (λ l. Represents (with_calls before own.rank.0 l) new) c.calls.ensures
    (subst (λ (r : Rank). Represents (with_calls before r.0 c.calls.result.now.calls) new) c.rank.ensures
    (c.in_ok-take_all.ensures before none c.loop-rank.invariant)))
