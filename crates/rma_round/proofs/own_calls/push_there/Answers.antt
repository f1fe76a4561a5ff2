use Rattle.std.proofs.Common.{◌≡◌, ◌++◌, ◌∷◌, [], cond, nat_eq, refl, sym, ap, ◌∙◌}
use Rattle.std.specs.Cmp.Lexicographic.{pointwise}
use Rattle.indexmap.specs.IndexMap.{with_value_at}
use Rattle.indexmap.proofs.CallerLemmas.{keys-with_value_at}
use Rattle.rma_round.specs.Kind.{is_on}
use Rattle.rma_round.specs.inside.Lists.{list_of}
use Rattle.rma_round.proofs.KeptLemmas.{OnOk_map}
use Rattle.rma_round.proofs.OwnLemmas.{list_pushed, no_value}
use Rattle.rma_round.proofs.own_calls.push_there.Goals as goal

pub returns-in-Some : goal.returns-in-Some
returns-in-Some c =
    let lists = c.args.lists.now in
    let number = c.args.number in
    let before = c.in-Some.own.now in
    OnOk_map c.push.result
    (λ is kind. record {
      names_stay = keys-with_value_at lists c.args.place c.push.new.self;
      lists_are = λ call there name.
          let own = there.0 in
          let on : is_on kind name call ≡ pointwise nat_eq own name = rw there.2 refl in
          ap (λ l. list_of (with_value_at lists c.args.place l).entries name) is
          ∙ list_pushed lists c.args.place number own before c.in-Some.ensures.unique there.1 (sym c.in-Some.ensures.value) name
          ∙ ap (λ b. list_of lists.entries name ++ cond b (number ∷ []) []) (sym on);
    })
    c.push.ensures.ok

pub returns-in-None : goal.returns-in-None
returns-in-None c = λ kind. record {
  names_stay = refl;
  lists_are = λ call there name. no_value c.args.lists.now.entries c.args.place there.0 there.1 c.in-None.ensures.value;
}
