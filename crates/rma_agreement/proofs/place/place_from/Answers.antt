use Rattle.std.proofs.Common.{◌+◌, ◌-◌, ◌≤◌, length, drop, nat_lt, ap, ◌∙◌, arith, length-drop}
use Rattle.std.specs.List.{take_while}
use Rattle.std.proofs.lemmas.List.{take_all}
use Rattle.std.proofs.lemmas.List.Folds.{length-prefix_len}
use Rattle.rma_agreement.proofs.PlaceLemmas.{more_pass}
use Rattle.rma_agreement.proofs.place.place_from.Goals as goal

pub returns-clause-place : goal.returns-clause-place
returns-clause-place c = λ le.
    let others = c.args.others.now in
    let place = c.args.place in
    let rest = drop place others in
    let short : length rest ≤ length others - place = simp length-drop (omega arith) in
    ap (λ n. place + n)
    (c.count_below.ensures
    ∙ ap (λ l. length (take_while (λ other. nat_lt other c.args.number) l)) (take_all (length others - place) rest short)
    ∙ length-prefix_len (λ other. nat_lt other c.args.number) rest)
    ∙ more_pass (λ other. nat_lt other c.args.number) others place le
