use Rattle.std.proofs.Common.{sym, subst, ◌∙◌}
use Rattle.rma_type.specs.Table.{typemaps}
use Rattle.rma_buffer.specs.inside.Layouts.{HaveEnough}
use Rattle.rma_buffer.proofs.CallLemmas.{none_from}
use Rattle.rma_buffer.proofs.EnoughLemmas.{have_enough}
use Rattle.rma_buffer.proofs.ReasonLemmas.{alike, early, late, no_bytes, targeted, uncommitted, untargeted}
use Rattle.rma_buffer.proofs.one_sided.judged_count.Goals as goal

pub returns-then-not-are_committed-clause-fault : goal.returns-then-not-are_committed-clause-fault
returns-then-not-are_committed-clause-fault c =
    let types = c.args.types.now in
    uncommitted types.origins types.committed c.args.kind c.args.target c.args.operands.now (sym c.are_committed.ensures ∙ c.if-not-are_committed.true)

pub returns-then-is_none-clause-rest : goal.returns-then-is_none-clause-rest
returns-then-is_none-clause-rest c =
    let types = c.args.types.now in
    untargeted types.origins types.committed c.args.kind c.args.target c.args.operands.now
    (sym c.are_committed.ensures ∙ c.if-not-are_committed.false) (none_from c.args.target c.is_none.result c.is_none.ensures ∙ c.if-is_none.true)
    ∙ sym (no_bytes (typemaps types.origins) c.args.kind c.args.operands.now)

pub returns-in-Some-clause-fault : goal.returns-in-Some-clause-fault
returns-in-Some-clause-fault c =
    let types = c.args.types.now in
    targeted types.origins types.committed c.args.kind c.args.target c.args.operands.now
    (sym c.are_committed.ensures ∙ c.if-not-are_committed.false) (none_from c.args.target c.is_none.result c.is_none.ensures ∙ c.if-is_none.false)
    ∙ early types.origins c.args.kind c.args.operands.now c.touched_count-touched.result c.touched_count-touched.ensures c.in-Some.reason (sym c.reason.ensures ∙ c.in-Some.is)

pub returns-in-None-clause-there : goal.returns-in-None-clause-there
returns-in-None-clause-there c =
    let origins = c.args.types.now.origins in
    let same = alike origins c.args.kind c.args.operands.now c.touched_count-touched.result c.touched_count-touched.ensures (sym c.reason.ensures ∙ c.in-None.is) in
    subst (λ m. HaveEnough (typemaps origins) c.args.kind m c.args.operands.now) (sym c.touched_count-touched.ensures)
    (have_enough (typemaps origins) c.args.kind c.args.operands.now c.requires.shaped same)

pub returns-in-None-clause-rest : goal.returns-in-None-clause-rest
returns-in-None-clause-rest c =
    let types = c.args.types.now in
    targeted types.origins types.committed c.args.kind c.args.target c.args.operands.now
    (sym c.are_committed.ensures ∙ c.if-not-are_committed.false) (none_from c.args.target c.is_none.result c.is_none.ensures ∙ c.if-is_none.false)
    ∙ late types.origins c.args.kind c.args.operands.now c.touched_count-touched.result c.touched_count-touched.ensures (sym c.reason.ensures ∙ c.in-None.is)
