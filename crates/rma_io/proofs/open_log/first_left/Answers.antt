use Rattle.std.proofs.Common.{◌≡◌, ℕ, List, take, All, get_or, ap, sym, subst, ◌∙◌, arith}
use Rattle.std.proofs.lemmas.List.{get_or-map, length-map, take_all}
use Rattle.std.proofs.lemmas.List.Elements.{All-more}
use Rattle.rma_io.specs.Schedule.{IsZero}
use Rattle.rma_io.specs.inside.OpenLogs.{Progress, lefts}
use Rattle.rma_io.proofs.open_log.first_left.Goals as goal

pub loop-rank-preserved : goal.loop-rank-preserved
loop-rank-preserved c =
    let opened = c.args.opened.now in
    let n = length-map opened (λ (p : Progress). p.left) in
    let e = get_or-map (λ (p : Progress). p.left) opened c.loop-rank.rank c.index-opened-rank.result 0 (omega arith) in
    let zero : get_or (lefts opened) c.loop-rank.rank 0 ≡ 0 = e ∙ ap (λ (p : Progress). p.left) (sym c.index-opened-rank.is) ∙ omega arith in
    All-more IsZero (lefts opened) c.loop-rank.rank 0 (omega arith) c.loop-rank.invariant zero

pub returns-clause-first : goal.returns-clause-first
returns-clause-first c =
    let opened = c.args.opened.now in
    let n = length-map opened (λ (p : Progress). p.left) in
    let same : take c.loop-rank.rank (lefts opened) ≡ lefts opened = take_all c.loop-rank.rank (lefts opened) (omega arith) in
    subst (λ (xs : List ℕ). All IsZero xs) same c.loop-rank.invariant
