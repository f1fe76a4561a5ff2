use Rattle.std.proofs.Common.{List, ℕ, Option, subst}
use Rattle.std.specs.Prelude.{MatchOption}
use Rattle.rma_link.specs.Order.{IsPossible}
use Rattle.rma_walk.specs.Outcome.{IsStuck}
use Rattle.rma_walk.specs.inside.Stop.{AreStops, IsWhole}
use Rattle.rma_walk.proofs.OutcomeLemmas.{possible_of, order_of, told_of}
use Rattle.rma_walk.proofs.walking.walk.Goals as goal

pub returns-in-Some : goal.returns-in-Some
returns-in-Some c =
    let lens = c.args.lens.now in
    let links = c.args.links.now in
    let P : List ℕ → Type 0 = λ next. MatchOption c.in_ok-firsts.field-0 (IsWhole lens next) (AreStops lens next) in
    let Q : Option (List (Option ℕ)) → Type 0 = λ found. MatchOption found (IsPossible links) (IsStuck lens links) in
    subst Q c.in-Some.is (told_of lens links c.settle_all.new.self c.in_ok-settle_all.ensures.idle c.in_ok-firsts.field-0 (subst P c.deref.ensures.value c.in_ok-firsts.ensures))

pub returns : goal.returns
returns c =
    let lens = c.args.lens.now in
    let links = c.args.links.now in
    let search = c.settle_all.new.self in
    let idle = c.in_ok-settle_all.ensures.idle in
    let P : List ℕ → Type 0 = λ next. MatchOption c.in_ok-firsts.field-0 (IsWhole lens next) (AreStops lens next) in
    let Q : Option (List (Option ℕ)) → Type 0 = λ found. MatchOption found (IsWhole lens search.front.next.items) (AreStops lens search.front.next.items) in
    let whole = subst Q c.in-None.is (subst P c.deref.ensures.value c.in_ok-firsts.ensures) in
    (possible_of lens links search idle whole, order_of lens links search idle whole c.unwrap.result c.unwrap.ensures)
