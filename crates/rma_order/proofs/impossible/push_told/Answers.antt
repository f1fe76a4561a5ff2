use Rattle.std.proofs.Common.{◌≡◌, None, length, slice_get, sym, ap, append-nil, arith}
use Rattle.std.proofs.lemmas.Option.{slice_get_past}
use Rattle.rma_order.proofs.impossible.push_told.Goals as goal

pub returns-then-number-len : goal.returns-then-number-len
returns-then-number-len c =
    let calls = c.args.own.now.calls in
    let past : slice_get calls c.in-Some.number ≡ None = slice_get_past calls c.in-Some.number (omega (arith, c.len.ensures, ap (λ cs. length cs) c.calls-calls.ensures, c.if-number-len.true)) in
    rw (c.in-Some.is, past) (sym (append-nil c.args.found.now))
