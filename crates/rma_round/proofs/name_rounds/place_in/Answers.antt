use Rattle.std.proofs.Common.{Ok, Err, position, sym, ap, subst, ◌∙◌, eqb}
use Rattle.std.proofs.lemmas.List.Sorted.{searched}
use Rattle.rma_run.proofs.PositionLemmas.{Rises, never_falls, position_at, position_none, apart}
use Rattle.rma_round.proofs.NumberLemmas.{rises}
use Rattle.rma_round.proofs.name_rounds.place_in.Goals as goal

pub returns-in-Ok : goal.returns-in-Ok
returns-in-Ok c = λ kind name calls is.
    let own = c.args.own.now in
    let up : Rises own = subst Rises (sym is) (rises kind name calls) in
    let found = searched own c.args.number (Ok c.in-Ok.place) c.in-Ok.ensures.position (never_falls own up) in
    sym (ap (position (λ m. eqb m c.args.number)) (sym is) ∙ position_at c.args.number own c.in-Ok.place up found.0 found.1)

pub returns-in-Err : goal.returns-in-Err
returns-in-Err c = λ kind name calls is.
    let own = c.args.own.now in
    let up : Rises own = subst Rises (sym is) (rises kind name calls) in
    let found = searched own c.args.number (Err c.in-Err.field-0) c.in-Err.ensures.position (never_falls own up) in
    sym (ap (position (λ m. eqb m c.args.number)) (sym is) ∙ position_none c.args.number own (apart own c.args.number c.in-Err.field-0 found.1 found.2))
