use Rattle.std.proofs.Common.{◌≡◌, ◌+◌, ℕ, Option, map, take, sym, ap, ◌∙◌}
use Rattle.std.proofs.lemmas.List.{take_all}
use Rattle.rma_base.specs.declared.point.Point.{Point}
use Rattle.rma_match.specs.Source.{complete_entry}
use Rattle.rma_match.specs.inside.Awaited.{with_more}
use Rattle.rma_match.proofs.AwaitedLemmas.{one_more, lacking_all}
use Rattle.rma_match.proofs.live_match.LiveMatch.add_origins.Goals as goal

pub loop-origin-preserved : goal.loop-origin-preserved
loop-origin-preserved c = λ ranks calls are.
    let f : ℕ → Option Point = complete_entry calls c.args.rank.0 c.args.post c.args.window.now in
    one_more f c.args.awaited.now c.numbers-origin-items.result.now c.loop-origin.origin-index c.loop-origin-test.true c.loop-origin.awaited c.add.new.self c.complete_entry.result
    c.in_ok-add.ensures (c.complete_entry.ensures ranks calls are) (c.loop-origin.invariant ranks calls are)

pub returns-then-is_lacking : goal.returns-then-is_lacking
returns-then-is_lacking c = λ ranks calls are.
    let origins = c.numbers-origin-items.result.now in
    let i = c.loop-origin.origin-index in
    let start = c.args.awaited.now in
    let f : ℕ → Option Point = complete_entry calls c.args.rank.0 c.args.post c.args.window.now in
    let taken : c.add.new.self ≡ with_more start (map f (take (i + 1) origins)) =
    one_more f start origins i c.loop-origin-test.true c.loop-origin.awaited c.add.new.self c.complete_entry.result
    c.in_ok-add.ensures (c.complete_entry.ensures ranks calls are) (c.loop-origin.invariant ranks calls are) in
    lacking_all f start origins (i + 1) c.add.new.self (sym c.is_lacking.ensures ∙ c.if-is_lacking.true) taken
    ∙ ap (λ l. with_more start (map f l)) c.numbers-origin-items.ensures.numbers

pub returns : goal.returns
returns c = λ ranks calls are.
    let f : ℕ → Option Point = complete_entry calls c.args.rank.0 c.args.post c.args.window.now in
    let whole = take_all c.loop-origin.origin-index c.numbers-origin-items.result.now c.loop-origin-test.false ∙ c.numbers-origin-items.ensures.numbers in
    c.loop-origin.invariant ranks calls are
    ∙ ap (λ l. with_more c.args.awaited.now (map f l)) whole
