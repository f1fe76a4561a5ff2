use Rattle.std.proofs.Common.{◌≡◌, rules}
use Rattle.std.proofs.lemmas.Fn.{always_returns_same}
use Rattle.rma_rules.proofs.BeforeLemmas.{calls_partitioned, calls_split, is_less}
use Rattle.rma_cut.proofs.make.count_before.Goals as goal

pub returns : goal.returns
returns c =
    let calls = c.args.calls.now in
    let call = c.args.call in
    let answers = always_returns_same _ (λ a r. r ≡ is_less call a.0.now) _ (λ a r f k. search rules) in
    let point = c.partition_point.ensures.partitioned (is_less call) answers (calls_partitioned calls call c.requires.ascend) in
    let splits = calls_split calls call c.requires.ascend c.partition_point.result point c.partition_point.ensures.bound in
    record { bound = c.partition_point.ensures.bound; before = splits.0; after = splits.1 }
