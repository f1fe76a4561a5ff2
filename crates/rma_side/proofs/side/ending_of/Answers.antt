use Rattle.std.proofs.Common.{sym, ◌∙◌}
use Rattle.rma_run.specs.Run.{calls_of}
use Rattle.rma_side.proofs.side.ending_of.Goals as goal

pub returns-in_err-post-in-Start : goal.returns-in_err-post-in-Start
returns-in_err-post-in-Start c = λ windows.
    let none = sym (c.partner.ensures (calls_of c.args.ranks.now) c.requires.exposures) ∙ c.in_err-post-in-Start.was in
    rw (c.in-Start.is, c.in_ok-close.was, none) c.from_residual-in_err-post-in-Start.ensures

pub returns-in_ok-post-in-Start : goal.returns-in_ok-post-in-Start
returns-in_ok-post-in-Start c = λ windows.
    let calls = calls_of c.args.ranks.now in
    let post = sym (c.partner.ensures calls c.requires.exposures) ∙ c.in_ok-post-in-Start.was in
    rw (c.in-Start.is, c.in_ok-close.was, post) (c.expwait_of.ensures calls c.requires.exposures)
