use Rattle.std.proofs.Common.{◌≡◌, leb, rules, ◌∙◌}
use Rattle.std.proofs.lemmas.Fn.{always_returns_same}
use Rattle.std.proofs.lemmas.List.Sorted.{IsPartitionedBy-leb}
use Rattle.rma_run.proofs.PositionLemmas.{copied_at}
use Rattle.rma_completion.proofs.FirstLemmas.{found_at}
use Rattle.rma_completion.proofs.numbers.first_above.Goals as goal

pub returns : goal.returns
returns c = λ ascend.
    let ns = c.args.numbers.now in
    let answers = always_returns_same _ (λ a r. r ≡ leb a.0.now c.args.number) _ (λ a r f k. search rules) in
    let point = c.partition_point-place.ensures.partitioned (λ n. leb n c.args.number) answers (IsPartitionedBy-leb (λ n. n) ns c.args.number ascend) in
    c.copied.ensures ∙ copied_at ns c.partition_point-place.result c.get.result c.get.ensures.lookup.1 c.get.ensures.lookup.3 ∙ found_at c.args.number ns c.partition_point-place.result c.partition_point-place.ensures.bound point.0 point.1
