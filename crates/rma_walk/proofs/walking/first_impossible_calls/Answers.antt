use Rattle.std.proofs.Common.{List, ℕ, subst}
use Rattle.std.specs.Prelude.{IfOk, MatchOption}
use Rattle.std.proofs.lemmas.Result.{IfOk-weaker}
use Rattle.rma_link.specs.Order.{IsPossible}
use Rattle.rma_walk.specs.Outcome.{IsStuck}
use Rattle.rma_walk.specs.inside.Stop.{AreStops, IsWhole}
use Rattle.rma_walk.proofs.OutcomeLemmas.{told_of}
use Rattle.rma_walk.proofs.walking.first_impossible_calls.Goals as goal

pub returns : goal.returns
returns c =
    let lens = c.args.lens.now in
    let links = c.args.links.now in
    let P : List ℕ → Type 0 = λ next. IfOk c.stops.result (λ stops. MatchOption stops (IsWhole lens next) (AreStops lens next)) in
    IfOk-weaker c.stops.result (λ stops. MatchOption stops (IsWhole lens c.settle_all.new.self.front.next.items) (AreStops lens c.settle_all.new.self.front.next.items))
    (λ stops. MatchOption stops (IsPossible links) (IsStuck lens links))
    (told_of lens links c.settle_all.new.self c.in_ok-settle_all.ensures.idle) (subst P c.deref.ensures.value c.stops.ensures)
