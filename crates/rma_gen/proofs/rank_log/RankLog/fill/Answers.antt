use Rattle.std.proofs.Common.{◌≡◌, ◌≤◌, ◌+◌, ◌++◌, [], length, take, drop, ap, sym, ◌∙◌, arith}
use Rattle.std.proofs.lemmas.List.{length-drop}
use Rattle.rma_gen.specs.TrialLogs.{after_taking}
use Rattle.rma_gen.specs.inside.Parts.{tape_at}
use Rattle.rma_gen.proofs.PartLemmas.{filled_more, taken_more, none_left}
use Rattle.rma_gen.proofs.rank_log.RankLog.fill.Goals as goal

pub loop-len-preserved : goal.loop-len-preserved
loop-len-preserved c =
    let tape = tape_at c.args.trial c.args.self.now in
    let len = c.loop-len.len in
    let n = c.fill_part-len.result in
    let moved = c.loop-len.invariant.4 in
    let left : (tape_at c.args.trial c.loop-len.self).left ≡ drop len tape.left = ap (λ t. t.left) moved in
    let there : len + n ≤ length tape.left = omega (arith, c.fill_part-len.ensures.there, ap (λ t. length t) left, length-drop len tape.left, c.loop-len.invariant.2) in (
      c.fill_part-len.ensures.place,
      omega (arith, c.fill_part-len.ensures.fits, c.loop-len-test.true, c.requires.fits),
      there,
      filled_more tape.left c.args.room.now c.loop-len.room c.fill_part-len.new.room len n c.loop-len.invariant.2 (omega (arith, c.loop-len.invariant.1, c.requires.fits)) c.loop-len.invariant.3
          (c.fill_part-len.ensures.filled ∙ ap (λ t. take len c.loop-len.room ++ (take n t ++ drop (len + n) c.loop-len.room)) left),
      c.fill_part-len.ensures.moved ∙ ap (after_taking n) moved ∙ taken_more tape len n,
    )

pub returns-else-not-is_read-clause-len : goal.returns-else-not-is_read-clause-len
returns-else-not-is_read-clause-len c =
    let tape = tape_at c.args.trial c.args.self.now in
    let len = c.loop-len.len in
    let read = none_left c.args.trial c.loop-len.self (sym c.is_read.ensures ∙ c.if-not-is_read.false) in
    let left : drop len tape.left ≡ [] = sym (ap (λ t. t.left) c.loop-len.invariant.4) ∙ read in
    omega (arith, ap (λ t. length t) left, length-drop len tape.left, c.loop-len.invariant.2, c.loop-len.invariant.1)
