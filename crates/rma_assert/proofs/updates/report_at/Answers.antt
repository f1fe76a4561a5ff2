use Rattle.std.proofs.Common.{Some, refl, sym, ap, subst, ◌∙◌}
use Rattle.std.proofs.lemmas.Option.{none-some, same_Some}
use Rattle.rma_run.specs.Run.{calls_of}
use Rattle.rma_rules.specs.Access.{Access}
use Rattle.rma_assert.specs.declared.assertion.AssertionReason.TheVariants.{Noput}
use Rattle.rma_assert.specs.declared.assertion.BrokenAssertion.{BrokenAssertion}
use Rattle.rma_assert.specs.Updates.{IsUpdatedIn}
use Rattle.rma_assert.proofs.UpdateLemmas.{opening_is}
use Rattle.rma_assert.proofs.updates.report_at.Goals as goal

pub returns-in-Some : goal.returns-in-Some
returns-in-Some c = λ found.
    let access = c.args.access.now in
    let calls = calls_of c.args.ranks.now in
    let opening = c.args.opening in
    let line = c.in-Some.line in
    let name = c.access.inside.name in
    let rank = ap (λ (a : Access). a.name.rank) c.access.view_is in
    let at = ap (λ (a : Access). a.name.line) c.access.view_is in
    let report : BrokenAssertion = record { reason = Noput; rank = opening.rank; line = line; other = (name.rank, name.line) } in
    let says = (c.noput_line.ensures line).0 c.in-Some.is in (
      λ is. (
        opening.call,
        subst (IsUpdatedIn calls access opening.call) (same_Some report found is)
            (record {
              reason = refl;
              updates = c.requires.updates;
              waits = (c.requires.waits opening).0 refl;
              opening = says.call;
              opening_is = says.there;
              says = says.says;
              line = says.line_is;
              other = rank;
              other_line = at;
            }),
      ),
      λ (number, up).
          let same = (c.requires.waits (record { rank = found.rank; call = number })).1 up.waits in
          let told = (c.noput_line.ensures found.line).1 (opening_is calls access number found up opening same) in
          let line_is = same_Some line found.line (sym c.in-Some.is ∙ told) in
          let reason = sym up.reason in
          let other = rank ∙ sym up.other in
          let other_line = at ∙ sym up.other_line in
          λ k. Some (record { reason = reason k; rank = (same k).rank; line = line_is k; other = (other k, other_line k) }),
    )

pub returns-in-None : goal.returns-in-None
returns-in-None c = λ found. (
  λ is. absurd (none-some found is),
  λ (number, up).
      let same = (c.requires.waits (record { rank = found.rank; call = number })).1 up.waits in
      absurd (none-some found.line (sym c.in-None.is ∙ (c.noput_line.ensures found.line).1 (opening_is (calls_of c.args.ranks.now) c.args.access.now number found up c.args.opening same))),
)
