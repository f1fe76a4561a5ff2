use Rattle.std.proofs.Common.{◌≡◌, ◌≤◌, ◌-◌, ◌++◌, length, take, drop}
use Rattle.rma_gen.specs.TrialLogs.{after_taking}
use Rattle.rma_gen.specs.inside.Parts.{IsPlace, tape_at}
use Rattle.rma_gen.proofs.rank_log.RankLog.fill.Given as goal

-- so many bytes were given out
abbrev pub invariant-loop-len : goal.invariant-loop-len
invariant-loop-len l =
    IsPlace l.trial l.self
    × (l.len ≤ l.fn.most)
    × (l.len ≤ length (tape_at l.trial l.fn.self).left)
    × (l.room ≡ take l.len (tape_at l.trial l.fn.self).left ++ drop l.len l.fn.room)
    × (tape_at l.trial l.self ≡ after_taking l.len (tape_at l.trial l.fn.self))

abbrev pub decreases-loop-len : goal.decreases-loop-len
decreases-loop-len l = l.fn.most - l.len
