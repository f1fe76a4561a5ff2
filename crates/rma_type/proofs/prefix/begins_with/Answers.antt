use Rattle.std.proofs.Common.{rules, refl, sym, ◌∙◌}
use Rattle.rma_type.proofs.Words.{false≢true, the_type}
use denote.Enum.Bare.{differs_true, differs_false}
use Rattle.rma_type.proofs.CursorLemmas.{ends_early, goes_other, goes_on, is_through}
use Rattle.rma_type.proofs.prefix.begins_with.Goals as goal

pub returns-in_default-there : goal.returns-in_default-there
returns-in_default-there c =
    let kept = c.loop-sought.invariant in (
      λ h. absurd (false≢true h),
      λ h. absurd (ends_early c.args.whole.now c.args.prefix.now c.loop-sought.there c.loop-sought.sought c.in-Some.wanted c.in_default-there.is c.in-Some.is kept.sought (kept.same.0 h)),
    )

pub returns-then-ne : goal.returns-then-ne
returns-then-ne c =
    let kept = c.loop-sought.invariant in
    let found = c.in-Some-there.found in
    let wanted = c.in-Some.wanted in (
      λ h. absurd (false≢true h),
      λ h. absurd (goes_other c.args.whole.now c.args.prefix.now c.loop-sought.there c.loop-sought.sought found wanted c.in-Some-there.is c.in-Some.is kept.there kept.sought
          (differs_true the_type found.basic wanted.basic (sym c.ne.ensures ∙ c.if-ne.true)) (kept.same.0 h)),
    )

pub loop-sought-preserved : goal.loop-sought-preserved
loop-sought-preserved c =
    let kept = c.loop-sought.invariant in
    let found = c.in-Some-there.found in
    let wanted = c.in-Some.wanted in
    let step =
    goes_on c.args.whole.now c.args.prefix.now c.loop-sought.there c.loop-sought.sought c.passed-there.result c.passed-sought.result found wanted c.min-shared.result
    c.in-Some-there.is c.in-Some.is (differs_false the_type (search rules) found.basic wanted.basic (sym c.ne.ensures ∙ c.if-ne.false)) c.passed-there.ensures.rest c.passed-sought.ensures.rest in
    record {
      there = c.passed-there.ensures.cursor;
      sought = c.passed-sought.ensures.cursor;
      same = (λ h. step.0 (kept.same.0 h), λ h. kept.same.1 (step.1 h));
    }

pub returns : goal.returns
returns c =
    let kept = c.loop-sought.invariant in
    (λ h. kept.same.1 (is_through c.args.whole.now c.args.prefix.now c.loop-sought.there c.loop-sought.sought c.in_default.is), λ h. refl)
