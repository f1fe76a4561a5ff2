use Rattle.std.proofs.Common.{◌≤◌, ◌<◌, length, take, subst, sym, arith}
use Rattle.std.proofs.lemmas.List.{length-take-le}
use Rattle.rma_known.specs.Elsewhere.{number_alone}
use Rattle.rma_known.specs.declared.call_form.Part.TheVariants.{Number}
use Rattle.rma_known.specs.inside.Templates.{IsPartWord}
use Rattle.rma_known.proofs.AlikeLemmas.{number_word, room_said}
use Rattle.rma_known.proofs.call_template.number_len.Goals as goal

pub returns-then-front-limit-clause-taken : goal.returns-then-front-limit-clause-taken
returns-then-front-limit-clause-taken c =
    let text = c.args.text.now in
    let front = c.front_digits-front.result in
    let is = c.front_digits-front.ensures in
    let some : 0 < length (take front.len text) = omega (arith, c.if-front-gt0.true, length-take-le front.len text is.within) in
    let word = number_word c.args.limit (take front.len text) some is.digits (subst (λ n. n ≤ c.args.limit) is.number c.if-front-limit.true) in
    room_said (Number c.args.limit) (number_alone front.number) text front.len c.take_number.result c.room.result c.args.found.now c.take_number.new.self
    (subst (λ n. IsPartWord (Number c.args.limit) (take front.len text) (number_alone n)) (sym is.number) word) c.room.ensures c.take_number.ensures
