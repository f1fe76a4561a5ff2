use Rattle.std.proofs.Common.{◌≡◌, rules}
use Rattle.std.proofs.lemmas.Fn.{always_returns_same}
use Rattle.rma_bytes.proofs.IndexLemmas.{ends_by, ends_partitioned, point_splits}
use Rattle.rma_bytes.proofs.search.first_after.Goals as goal

pub returns : goal.returns
returns c =
    let answers = always_returns_same _ (λ a r. r ≡ ends_by c.args.at a.0.now) _ (λ a r f k. search rules) in
    let point = c.partition_point.ensures.partitioned (ends_by c.args.at) answers (ends_partitioned c.args.runs.now c.args.at c.requires) in
    let splits = point_splits c.args.runs.now c.args.at c.requires c.partition_point.result point c.partition_point.ensures.bound in
    record { bound = c.partition_point.ensures.bound; before = splits.0; after = splits.1 }
