use Rattle.std.proofs.Common.{◌≡◌, rules}
use Rattle.std.specs.List.{dedup}
use Rattle.std.specs.List.Sorted.{IsSorted}
use Rattle.std.proofs.lemmas.Fn.{dedup_same}
use Rattle.std.proofs.lemmas.List.Sorted.{answers_always}
use Rattle.rma_finding.specs.declared.finding.FoundRace.{FoundRace}
use Rattle.rma_pairs.specs.Names.{role_place}
use Rattle.rma_pairs.proofs.OrderLemmas.{compare_races, once_ascend, once_same, same_races}
use Rattle.rma_pairs.proofs.order.in_order.Goals as goal

pub returns : goal.returns
returns c =
    let sorted = c.sort_unstable_by_key.new.self.items in
    let is : IsSorted compare_races sorted =
    c.sort_unstable_by_key.ensures.sorted (λ (race : FoundRace). ((race.first.rank.0, race.first.line.0, role_place race.first.role), (race.second.rank.0, race.second.line.0, role_place race.second.role)))
    (answers_always _ _ _ (λ f a r g h. search rules)) in
    let once : c.dedup_by_key.new.self.items ≡ dedup same_races sorted = dedup_same _ same_races _ (λ x y b f x' y' k. search rules) _ _ c.dedup_by_key.ensures.filtered in
    record {
      same = rw once (once_same c.args.races.items sorted c.requires c.sort_unstable_by_key.ensures.permutation);
      ascend = rw once (once_ascend sorted is);
    }
