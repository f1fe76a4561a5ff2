use Rattle.rma_rules.specs.declared.rule.Rule.TheVariants.{Buffer}
use Rattle.rma_rules.specs.Conflict.{ConflictAtCaller}
use Rattle.rma_rules.proofs.ConflictLemmas.{buffer_in_use, exactly, none_of, tell_caller}
use Rattle.rma_rules.proofs.own.conflict_at_caller.Goals as goal

pub returns-then-not-is_buffer_written : goal.returns-then-not-is_buffer_written
returns-then-not-is_buffer_written c =
    none_of (ConflictAtCaller c.args.a.now c.args.b.now)
    (λ other row. let told = tell_caller c.args.a.now c.args.b.now other row in let yes = c.is_buffer_written.ensures.1 (told.1.0, told.1.1) in let no = c.if-not-is_buffer_written.true in cc)

pub returns-then-share_byte : goal.returns-then-share_byte
returns-then-share_byte c =
    let written = c.is_buffer_written.ensures.0 c.if-not-is_buffer_written.false in
    exactly (ConflictAtCaller c.args.a.now c.args.b.now) Buffer (buffer_in_use c.args.a.now c.args.b.now (written.0, written.1, c.share_byte.ensures.0 c.if-share_byte.true))
    (λ other row. (tell_caller c.args.a.now c.args.b.now other row).0)

pub returns-else-share_byte : goal.returns-else-share_byte
returns-else-share_byte c =
    none_of (ConflictAtCaller c.args.a.now c.args.b.now)
    (λ other row. let told = tell_caller c.args.a.now c.args.b.now other row in let yes = c.share_byte.ensures.1 told.1.2 in let no = c.if-share_byte.false in cc)
