use Rattle.std.proofs.Common.{List, refl, sym, ap, subst, ◌∙◌}
use Rattle.std.proofs.lemmas.Option.{same_Some}
use Rattle.rma_rules.specs.Access.{Access}
use Rattle.rma_concurrent.specs.inside.Places.{HasMore}
use Rattle.rma_concurrent.proofs.ListLemmas.{more_none}
use Rattle.rma_assert.specs.declared.assertion.AssertionReason.TheVariants.{Nostore}
use Rattle.rma_assert.specs.declared.assertion.BrokenAssertion.{BrokenAssertion}
use Rattle.rma_assert.specs.inside.Stored.{IsStored}
use Rattle.rma_assert.proofs.GatherLemmas.{pushed}
use Rattle.rma_assert.proofs.stores.add_call.Goals as goal

pub returns-in_ok-push : goal.returns-in_ok-push
returns-in_ok-push c = λ windows stores meets.
    let found = c.args.found.now.items in
    let given = c.args.given.now in
    let line = c.in-Some.line in
    let at = ap (λ (a : Access). a.name.line) c.access.view_is in
    let says = (c.nostore_line.ensures line).0 c.in-Some.is in
    let report : BrokenAssertion = record { reason = Nostore; rank = given.rank; line = line; other = (given.rank, c.access.inside.name.line) } in
    subst (HasMore (IsStored windows given c.args.access.now c.args.number) found) (sym {A = List BrokenAssertion} c.in_ok-push.ensures.items)
    (pushed found report
    (record {
      reason = refl;
      rank_is = refl;
      asserting = says.call;
      asserting_is = says.there;
      says = says.says;
      publishes = c.requires.publishes;
      own = c.requires.own;
      stores = stores;
      meets = meets;
      earlier = c.requires.earlier;
      since = c.requires.since;
      line = says.line_is;
      other = refl;
      other_line = at;
    })
    (λ x st.
    let told = (c.nostore_line.ensures x.line).1 (record { call = st.asserting; there = st.asserting_is; says = st.says; line_is = st.line }) in
    let line_is = same_Some line x.line (sym c.in-Some.is ∙ told) in
    let reason = sym st.reason in
    let rank = sym st.rank_is in
    let other = sym st.other in
    let other_line = at ∙ sym st.other_line in
    λ k. record { reason = reason k; rank = rank k; line = line_is k; other = (other k, other_line k) }))

pub returns-in_default : goal.returns-in_default
returns-in_default c = λ windows stores meets.
    more_none c.args.found.now.items
    (λ x st. c.in_default.not-Some x.line ((c.nostore_line.ensures x.line).1 (record { call = st.asserting; there = st.asserting_is; says = st.says; line_is = st.line })))
