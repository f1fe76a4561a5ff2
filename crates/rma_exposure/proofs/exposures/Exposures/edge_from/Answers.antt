use Rattle.std.proofs.Common.{◌≡◌, Some, None, refl, sym, ◌∙◌}
use Rattle.rma_run.specs.Run.{calls_of}
use Rattle.rma_exposure.specs.declared.side.Side.TheVariants.{Exposure, Access}
use Rattle.rma_exposure.specs.Closing.{closing_of}
use Rattle.rma_exposure.specs.Matching.{match_of}
use Rattle.rma_exposure.proofs.exposures.Exposures.edge_from.Goals as goal

pub returns-in_err-start : goal.returns-in_err-start
returns-in_err-start c =
    let calls = calls_of c.args.ranks.now in
    let none : match_of Exposure c.args.window.now calls c.args.rank.0 c.args.post c.args.origin.0 ≡ None = sym (c.match_of.ensures calls c.requires.represents) ∙ c.in_err-start.was in
    rw (c.from_residual.ensures, none) refl

pub returns-in_err-call : goal.returns-in_err-call
returns-in_err-call c =
    let calls = calls_of c.args.ranks.now in
    let start : match_of Exposure c.args.window.now calls c.args.rank.0 c.args.post c.args.origin.0 ≡ Some c.in_ok-start.start = sym (c.match_of.ensures calls c.requires.represents) ∙ c.in_ok-start.was in
    let none : closing_of Access (calls c.args.origin.0) c.in_ok-start.start ≡ None = sym c.closing_in.ensures.closing ∙ c.in_err-call.was in
    rw (c.from_residual-in_err-call.ensures, start, none) refl

pub returns : goal.returns
returns c =
    let calls = calls_of c.args.ranks.now in
    let start : match_of Exposure c.args.window.now calls c.args.rank.0 c.args.post c.args.origin.0 ≡ Some c.in_ok-start.start = sym (c.match_of.ensures calls c.requires.represents) ∙ c.in_ok-start.was in
    let complete : closing_of Access (calls c.args.origin.0) c.in_ok-start.start ≡ Some c.in_ok-call.call = sym c.closing_in.ensures.closing ∙ c.in_ok-call.was in
    rw (start, complete, c.entry.ensures, c.return_of.ensures) refl
