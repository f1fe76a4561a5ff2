use Rattle.std.proofs.Common.{◌≡◌, ◌+◌, ◌-◌, ◌*◌, ◌<◌, length, ap, ◌∙◌, arith}
use Rattle.std.specs.List.{list_any}
use Rattle.std.proofs.lemmas.Option.{slice_get_within}
use Rattle.rma_open.specs.Range.{is_outside}
use Rattle.rma_open.proofs.RangeLemmas.{ends_tell}
use Rattle.rma_open.proofs.range.touches_outside.Goals as goal

pub returns : goal.returns
returns c =
    let runs = c.args.touched.now.runs in
    let some : 0 < length runs = slice_get_within runs 0 c.get-first.result c.get-first.ensures in
    let long : c.len.result - 1 + 1 ≡ length runs = omega (arith, some, c.len.ensures) in
    let placed : c.from.result * c.from-2.result ≡ c.args.displacement * c.args.part.unit = cc (c.from.ensures, c.from-2.ensures) in
    c.either_outside.ensures
    ∙ ends_tell c.args.part.size (c.from.result * c.from-2.result) runs c.get-first.result c.get-last.result (c.len.result - 1) c.is_empty.ensures.in_order long c.get-first.ensures c.get-last.ensures
    ∙ ap (λ from. list_any (is_outside c.args.part.size from) runs) placed
