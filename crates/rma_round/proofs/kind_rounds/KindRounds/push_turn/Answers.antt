use Rattle.std.proofs.Common.{◌++◌, sym, ap, ◌∙◌, append_assoc}
use Rattle.std.specs.List.{flat_map}
use Rattle.std.specs.Map.Iter.{deref_pair}
use Rattle.std.proofs.lemmas.Cmp.{nat_list_eq_equiv}
use Rattle.std.proofs.lemmas.Map.Iter.{rest_more, hash_map_turn}
use Rattle.rma_round.specs.inside.Rounds.{numbers_in}
use Rattle.rma_round.specs.inside.Met.{name_meets}
use Rattle.rma_round.proofs.kind_rounds.KindRounds.push_turn.Goals as goal

pub loop-rounds-preserved : goal.loop-rounds-preserved
loop-rounds-preserved c = record {
  edges = c.in_ok-push_meets.ensures.edges ∙ c.loop-rounds.invariant.edges;
  meets = λ kind are.
      let ranks = c.args.ranks.now in
      let names = c.args.self.now.names in
      let left = c.loop-rounds.rounds-iterator in
      let rest = c.next.new.self in
      let name = c.in-Some.field-0-0 in
      let rounds = c.in-Some.rounds in
      let all = flat_map (name_meets ranks kind c.args.turn.of c.args.turn.number) in
      let start = c.into_iter-rounds-iterator.ensures.into_iter_gives ∙ c.iter-rounds-items.ensures.rest in
      let step = rest_more deref_pair left rest c.next.result (name, rounds) c.in-Some.is c.next.ensures.steps in
      let found = hash_map_turn deref_pair c.loop-rounds.yielded c.into_iter-rounds-iterator.result left rest c.next.result (name, rounds) c.loop-rounds.yielded_by c.in-Some.is c.next.ensures.steps nat_list_eq_equiv names start c.iter-rounds-items.ensures.unique in
      ap (λ l. l ++ all rest)
      (c.in_ok-push_meets.ensures.meets kind name.now (λ rank. ap (λ o. numbers_in o rank) (sym found.1) ∙ are.numbers_are name.now rank))
      ∙ append_assoc c.loop-rounds.links.meets (name_meets ranks kind c.args.turn.of c.args.turn.number (name.now, rounds.now)) (all rest)
      ∙ ap (λ l. c.loop-rounds.links.meets ++ all l) (sym step)
      ∙ c.loop-rounds.invariant.meets kind are;
}
