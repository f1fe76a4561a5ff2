use Rattle.std.proofs.Common.{◌≡◌, Some, slice_get, subst, arith}
use borrow.Author.Count.{below_more}
use Rattle.std.proofs.lemmas.Option.{slice_get_within}
use Rattle.rma_call.specs.Call.{what_of}
use Rattle.rma_call.specs.declared.what.What.{What}
use Rattle.rma_member.specs.inside.Nothing.{DeclaresNothing}
use Rattle.rma_member.proofs.member.may_declare.Goals as goal

pub loop-number-preserved : goal.loop-number-preserved
loop-number-preserved c =
    let whats = c.args.calls.now.whats in
    let own = c.what.ensures in
    below_more (λ number. (what : What) → slice_get whats number ≡ Some what → DeclaresNothing what) c.loop-number.number c.loop-number.invariant
    (λ what at. let same : what_of c.what.result ≡ what = cc in subst DeclaresNothing same (c.declares.ensures c.if-declares.false))

pub returns : goal.returns
returns c = λ is i call at.
    let (number, there) = c.whats-number-end.ensures.each i call at in
    let within = slice_get_within c.args.calls.now.whats number call.what there in
    c.loop-number.invariant number (omega arith) call.what there
