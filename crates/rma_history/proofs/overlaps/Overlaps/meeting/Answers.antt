use Rattle.std.proofs.Common.{◌≡◌, ◌<◌, ◌≤◌, length, get_or, Some, slice_get, sym, ap, subst, arith, ⊎_elim}
use Rattle.std.proofs.lemmas.Bool.{cases_lt}
use Rattle.std.proofs.lemmas.Option.{slice_get-get_or, slice_get_within}
use Rattle.std.proofs.lemmas.Result.{on_ok_weaker}
use Rattle.rma_history.specs.inside.Overlaps.{StandOnBytes}
use Rattle.rma_history.proofs.OverlapLemmas.{both_ok}
use Rattle.rma_history.proofs.overlaps.Overlaps.meeting.Goals as goal

pub meet_cells-requires : goal.meet_cells-requires
meet_cells-requires c = λ id b stands. c.self.invariant.only id b stands

pub returns-clause-found : goal.returns-clause-found
returns-clause-found c =
    let own = c.self.inside in
    let is : StandOnBytes c.args.self.now own.hulls.items own.cells own.settled = (rw c.self.view_is at c.self.invariant) in
    on_ok_weaker c.meet_hulls.result
    (λ both i chain a b at there has asked. ⊎_elim
    (λ (first : i < own.settled). both.1 i (c.in_ok-meet_cells.ensures.found i b (is.all i chain a b first at there has) asked))
    (λ (past : own.settled ≤ i).
    let less : i < length own.hulls.items = (let size = is.size in let inside = slice_get_within c.args.self.now i chain at in omega (arith, size, inside)) in
    let other = get_or own.hulls.items i c.of.result in
    let place = slice_get-get_or own.hulls.items i c.of.result less in
    both.0 i other b past (subst (λ l. slice_get l i ≡ Some other) (sym c.as_slice.ensures.value) place) (is.within i chain other a b at place there has) (c.of.ensures b asked))
    (cases_lt i own.settled))
    (both_ok _ _ c.meet_hulls.result c.meet_hulls.ensures.found c.meet_hulls.ensures.still)

pub returns-clause-bound : goal.returns-clause-bound
returns-clause-bound c =
    let own = c.self.inside in
    let is : StandOnBytes c.args.self.now own.hulls.items own.cells own.settled = (rw c.self.view_is at c.self.invariant) in
    on_ok_weaker c.meet_hulls.result
    (λ bound i there. ⊎_elim
    (λ old. let lt = c.in_ok-meet_cells.ensures.bound i old in let le : own.settled ≤ length c.args.self.now = is.first in omega (arith, lt, le))
    (λ new. let size = is.size in let same : length c.as_slice.result.now ≡ length own.hulls.items = ap length c.as_slice.ensures.value in omega (arith, new, size, same))
    (bound i there))
    c.meet_hulls.ensures.bound
