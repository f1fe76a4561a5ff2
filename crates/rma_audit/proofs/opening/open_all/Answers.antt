use Rattle.std.proofs.Common.{map, string_bytes, ap, sym, ◌∙◌, arith}
use Rattle.std.proofs.lemmas.List.{take-map, get_or-map, length-map}
use Rattle.rma_audit.proofs.OpeningLemmas.{on_err, opens_some}
use Rattle.rma_audit.proofs.opening.open_all.Goals as goal

pub returns-in_err-open-clause-some : goal.returns-in_err-open-clause-some
returns-in_err-open-clause-some g c =
    let names = c.args.names.now in
    let i = c.loop-name.name-index in
    on_err c.from_residual.result _
    (opens_some (map string_bytes names) i c.as_str.result.now (g.L.Logs.opened c.loop-name.logs) (g.L.Logs.opened c.open.new.self) c.in_err-open.field-0.0
    (omega (arith, length-map names string_bytes))
    (c.as_str.ensures.value ∙ ap string_bytes c.name-item.is ∙ sym (get_or-map string_bytes names i c.name-item.result c.as_str.result.now c.loop-name-test.true))
    (c.loop-name.invariant.names ∙ sym (take-map string_bytes i names))
    c.loop-name.invariant.refused c.in_err-open.ensures.names c.in_err-open.ensures.refused)
