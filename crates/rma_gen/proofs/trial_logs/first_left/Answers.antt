use Rattle.std.proofs.Common.{◌≡◌, ◌<◌, length, map, ap, sym, ◌∙◌, inl, inr, arith, get_or}
use Rattle.std.proofs.lemmas.Bool.{cases_lt}
use Rattle.std.specs.List.{slice_index}
use Rattle.rma_gen.specs.TrialLogs.{lefts}
use Rattle.rma_gen.specs.inside.Parts.{tape_at}
use Rattle.rma_gen.proofs.PartLemmas.{some_left, none_left}
use Rattle.rma_gen.proofs.TrialLemmas.{left_of_rank}
use Rattle.rma_gen.proofs.trial_logs.first_left.Goals as goal

pub returns-then-not-is_read-clause-some : goal.returns-then-not-is_read-clause-some
returns-then-not-is_read-clause-some c =
    let logs = c.args.logs.now in
    let at = c.loop-rank.rank in
    let below : at < length logs = omega (arith, c.loop-rank-test.true, c.requires.within) in
    let some = some_left c.args.trial (get_or logs at (record { rank = 0; part = 0; offset = 0 })) (c.requires.places at _ below) (sym c.is_read.ensures ∙ c.if-not-is_read.true) in
    (omega (arith, left_of_rank c.args.trial logs at (record { rank = 0; part = 0; offset = 0 }) below, some), c.loop-rank.auto.rank, c.loop-rank-test.true, c.loop-rank.invariant)

pub loop-rank-preserved : goal.loop-rank-preserved
loop-rank-preserved c = λ rank from to.
    let logs = c.args.logs.now in
    let at = c.loop-rank.rank in
    let below : at < length logs = omega (arith, c.loop-rank-test.true, c.requires.within) in
    let none = none_left c.args.trial (get_or logs at (record { rank = 0; part = 0; offset = 0 })) (sym c.is_read.ensures ∙ c.if-not-is_read.false) in
    let zero = left_of_rank c.args.trial logs at (record { rank = 0; part = 0; offset = 0 }) below ∙ ap (λ t. length t) none in
    elim (cases_lt rank at) [
      | inl earlier ↦ c.loop-rank.invariant rank from earlier
      | inr last ↦ let same : rank ≡ at = omega (arith, last, to) in ap (λ r. slice_index (lefts (map (tape_at c.args.trial) logs)) r) same ∙ zero
    ]
