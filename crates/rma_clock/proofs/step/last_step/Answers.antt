use Rattle.std.proofs.Common.{◌≡◌, leb, rules, arith}
use Rattle.std.proofs.lemmas.Fn.{always_returns_same}
use Rattle.std.proofs.lemmas.List.Sorted.{IsPartitionedBy-leb}
use Rattle.rma_clock.specs.declared.step.Step.{Step}
use Rattle.rma_clock.proofs.StepLemmas.{no_step, one_step}
use Rattle.rma_clock.proofs.step.last_step.Goals as goal

pub returns-then-after-eq0 : goal.returns-then-after-eq0
returns-then-after-eq0 c =
    let steps = c.args.steps.now in
    let answers = always_returns_same _ (λ a r. r ≡ leb (a.0.now).pos c.args.pos) _ (λ a r f k. search rules) in
    let point = c.partition_point-after.ensures.partitioned (λ s. leb s.pos c.args.pos) answers (IsPartitionedBy-leb (λ (s : Step). s.pos) steps c.args.pos c.requires) in
    no_step steps c.args.pos c.partition_point-after.result c.if-after-eq0.true point.1

pub returns-else-after-eq0 : goal.returns-else-after-eq0
returns-else-after-eq0 c =
    let steps = c.args.steps.now in
    let answers = always_returns_same _ (λ a r. r ≡ leb (a.0.now).pos c.args.pos) _ (λ a r f k. search rules) in
    let point = c.partition_point-after.ensures.partitioned (λ s. leb s.pos c.args.pos) answers (IsPartitionedBy-leb (λ (s : Step). s.pos) steps c.args.pos c.requires) in
    one_step steps c.args.pos c.partition_point-after.result _ c.requires (omega arith) c.partition_point-after.ensures.bound point.0 point.1
