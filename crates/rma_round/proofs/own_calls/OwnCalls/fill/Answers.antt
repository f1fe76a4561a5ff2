use Rattle.std.proofs.Common.{◌≡◌, ◌++◌, ◌∷◌, [], cond, Some, slice_get, get_or, sym, ap, subst, ◌∙◌, arith}
use Rattle.std.specs.Prelude.{option_map}
use Rattle.std.proofs.lemmas.Option.{slice_get-get_or}
use Rattle.rma_call.specs.Call.{Call}
use Rattle.rma_round.specs.declared.own_calls.Place.TheVariants.{Nowhere}
use Rattle.rma_round.specs.Kind.{is_on}
use Rattle.rma_round.specs.inside.Lists.{IsPlaceOf, index_in}
use Rattle.rma_round.proofs.OwnLemmas.{some_at, numbers_taken}
use Rattle.rma_round.proofs.own_calls.OwnCalls.fill.Goals as goal

pub loop-i-preserved : goal.loop-i-preserved
loop-i-preserved c =
    let calls = c.args.calls.now.calls in
    let places = c.args.places.now in
    let i = c.loop-i.i in
    let number = c.what_number.result in
    let one = some_at calls i (omega (arith, c.loop-i-test.true, c.len-i-end.ensures)) in
    let call = one.0 in
    let what_at = c.what_number.ensures.what ∙ ap (option_map (λ (x : Call). x.what)) one.1 in
    let place = get_or places number Nowhere in
    let place_at : slice_get places number ≡ Some place = slice_get-get_or places number Nowhere (omega (arith, c.what_number.ensures.within, c.requires.each)) in
    record {
      names = λ kind. (c.in_ok-push_at.ensures kind).names_stay ∙ c.loop-i.invariant.names kind;
      lists = λ kind are empty name.
          (c.in_ok-push_at.ensures kind).lists_are call (subst (λ ns. IsPlaceOf kind ns call.what (index_in kind place)) (sym (c.loop-i.invariant.names kind)) (are number call.what place what_at place_at)) name
          ∙ ap (λ l. l ++ cond (is_on kind name call) (i ∷ []) []) (c.loop-i.invariant.lists kind are empty name)
          ∙ numbers_taken kind name calls i call one.1;
    }
