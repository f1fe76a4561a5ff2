use Rattle.std.proofs.Common.{◌≡◌, ◌++◌, [], ◌∷◌, length, sym, ap, subst, ◌∙◌}
use Rattle.rma_layout.proofs.Words.{Output, sealed, Appends, nil_from_length}
use Rattle.rma_layout.specs.inside.Frames.{IsExpanding}
use Rattle.rma_layout.proofs.NestLemmas.{turn_on, turn_into, turn_done, all_done, all_refused}
use Rattle.rma_layout.proofs.expand.turn.Goals as goal

pub returns-in-Ok-On-clause-ok : goal.returns-in-Ok-On-clause-ok
returns-in-Ok-On-clause-ok c = λ start target h some.
    let on = rw c.in-Ok-On.field-0-is at c.in-Ok-On.ensures.ok in
    turn_on c.args.types.now.origins start c.args.output.now target c.args.top c.args.outer.now.items h c.go_on.new.output c.in-Ok-On.frame some on

pub returns-in-Ok-clause-ok : goal.returns-in-Ok-clause-ok
returns-in-Ok-clause-ok c = λ start target h some.
    let origins = c.args.types.now.origins in
    let now = c.args.output.now in
    let outer = c.args.outer.now.items in
    let g = c.in-Ok-Into.frame in
    let inner = c.in-Ok-Into.inner in
    let into = rw c.in-Ok-Into.field-0-is at c.in-Ok-Into.ensures.ok in
    let after : c.seal.new.self ≡ sealed now = c.seal.ensures ∙ ap sealed into.0 in
    subst (λ fs. IsExpanding origins start c.seal.new.self target inner fs) (sym c.in-Ok.ensures.items)
    (subst (λ o. IsExpanding origins start o target inner (outer ++ g ∷ [])) (sym after)
    (turn_into origins start now target c.args.top outer h g inner some into.1))

pub returns-in-Some-clause-ok : goal.returns-in-Some-clause-ok
returns-in-Some-clause-ok c = λ start target h some.
    let origins = c.args.types.now.origins in
    let now = c.args.output.now in
    let done = rw c.in-Ok-Done.field-0-is at c.in-Ok-Done.ensures.ok in
    let after : c.seal-in-Ok-Done.new.self ≡ sealed now = c.seal-in-Ok-Done.ensures ∙ ap sealed done.0 in
    let k = c.with_known.ensures in
    let to = c.len.ensures.value ∙ ap (λ (o : Output). length o.blocks.items) after in
    subst (λ o. IsExpanding origins start o target c.with_known.result c.pop.new.self.items) (sym after)
    (turn_done origins start now target c.args.top c.in-Some.frame c.with_known.result c.pop.new.self.items c.len.result
    (subst (λ fs. IsExpanding origins start now target c.args.top fs) c.in-Some.ensures.items h) some done.1 to k.id k.by k.from k.next k.row k.known)

pub returns-in-None-clause-ok : goal.returns-in-None-clause-ok
returns-in-None-clause-ok c = λ start target h some.
    let origins = c.args.types.now.origins in
    let now = c.args.output.now in
    let outer = c.args.outer.now in
    let done = rw c.in-Ok-Done.field-0-is at c.in-Ok-Done.ensures.ok in
    let after : c.seal-in-Ok-Done.new.self ≡ sealed now = c.seal-in-Ok-Done.ensures ∙ ap sealed done.0 in
    let none = nil_from_length outer.items (sym outer.ok.0 ∙ c.in-None.ensures.cases.0) in
    subst (λ o. Appends start o target) (sym after) (all_done origins start now target c.args.top outer.items h some none done.1)

pub returns-in-Err-clause-fault : goal.returns-in-Err-clause-fault
returns-in-Err-clause-fault c = λ start target h some.
    all_refused c.args.types.now.origins start c.args.output.now target c.args.top c.args.outer.now.items h some c.in-Err.error c.in-Err.ensures.fault
