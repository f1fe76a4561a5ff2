use Rattle.std.proofs.Common.{List, length, get_or, ap, arith}
use Rattle.std.proofs.lemmas.List.{length-map}
use Rattle.rma_gen.specs.TrialLogs.{TrialSource}
use Rattle.rma_gen.specs.inside.Parts.{tape_at}
use Rattle.rma_gen.specs.declared.rank_log.RankLog.{RankLog}
use Rattle.rma_gen.proofs.TrialLemmas.{set_refilled, places_served, is_served}
use Rattle.rma_gen.proofs.trial_logs.TrialLogs.serve.Goals as goal

pub invariant_of-self : goal.invariant_of-self
invariant_of-self c =
    let logs = c.self.inside.logs.items in
    rw (set_refilled logs c.as_mut_slice-logs.result.now c.args.rank c.fill.new.self c.as_mut_slice-logs.ensures.value, c.len-ranks.ensures.value)
    (places_served c.self.inside.trial logs c.self.inside.turn c.args.rank c.fill.new.self c.self.invariant c.fill.ensures.place)

pub returns : goal.returns
returns c =
    let logs = c.self.inside.logs.items in
    let size = length-map logs (tape_at c.self.inside.trial) in
    let tapes = ap (λ (s : TrialSource). length s.tapes) c.self.view_is in
    rw (set_refilled logs c.as_mut_slice-logs.result.now c.args.rank c.fill.new.self c.as_mut_slice-logs.ensures.value, ← c.self.view_is)
    (is_served c.self.inside.trial logs c.self.inside.turn c.args.rank c.fill.result c.len-ranks.result c.args.room.now c.fill.new.room _ c.fill.new.self _
    (omega (arith, size, tapes, c.requires.there)) (ap (λ (them : List RankLog). get_or them c.args.rank (record { rank = 0; part = 0; offset = 0 })) c.as_mut_slice-logs.ensures.value) c.len-ranks.ensures.value
    (rw c.min-most.ensures at c.fill.ensures.len) c.fill.ensures.moved c.fill.ensures.filled)
