use Rattle.std.proofs.Common.{◌≡◌, [], sym, ap, subst, ◌∙◌}
use Rattle.std.specs.Map.{keys_of}
use Rattle.rma_round.specs.inside.Lists.{list_of, lists_in, names_of, ArePlaces}
use Rattle.rma_round.proofs.OwnLemmas.{no_numbers}
use Rattle.rma_round.proofs.own_calls.OwnCalls.of_calls.Goals as goal

pub returns-then-is_empty : goal.returns-then-is_empty
returns-then-is_empty c = λ kind name.
    let own = c.places.new.self in
    let places = c.in_ok-places.ensures in
    let nil : lists_in kind own ≡ [] = c.is_empty.ensures c.if-is_empty.true kind in
    ap (λ es. list_of es name) nil
    ∙ no_numbers kind (names_of kind own) c.args.calls.now.whats c.in_ok-places.places.items c.args.calls.now.calls (ap keys_of nil) places.len places.each (places.places kind) name

pub returns : goal.returns
returns c = λ kind.
    c.in_ok-fill.ensures kind (subst (ArePlaces kind (names_of kind c.places.new.self) c.args.calls.now.whats) (sym c.as_slice.ensures.value) (c.in_ok-places.ensures.places kind)) (λ name. c.in_ok-places.ensures.lists kind name ∙ ap (λ es. list_of es name) (c.new-own.ensures kind))
