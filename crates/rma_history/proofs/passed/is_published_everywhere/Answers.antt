use Rattle.std.proofs.Common.{◌≡◌, ◌<◌, ℕ, length, subst, arith, ⊎_elim}
use Rattle.std.proofs.lemmas.Bool.{cases_lt}
use Rattle.std.proofs.lemmas.Option.{slice_get_within}
use Rattle.rma_rules.specs.Share.{IsSeparate}
use Rattle.rma_history.specs.inside.Passed.{IsPublishedToAll}
use Rattle.rma_history.proofs.passed.is_published_everywhere.Goals as goal

pub windows-preserved : goal.windows-preserved
windows-preserved g c = record {
  published = λ points links are reached entered all behind window less separate.
      ⊎_elim
      (λ earlier. c.windows.invariant.published points links are reached entered all behind window earlier separate)
      (λ last.
      let same : c.windows.number ≡ window.0 = omega arith in
      let told = c.is_published_to.ensures.published points links are reached entered all (c.windows.invariant.behind points links are reached entered all behind) c.if-not-is_published_to.false in
      subst (λ (n : ℕ). IsSeparate c.args.windows.now (record { 0 = n }) → IsPublishedToAll links c.args.lists.now c.args.next.now c.args.rank (record { 0 = n }) c.args.done) same told separate)
      (cases_lt window.0 c.windows.number);
  behind = λ points links are reached entered all behind. c.is_published_to.ensures.behind points links are reached entered all (c.windows.invariant.behind points links are reached entered all behind);
}

pub returns-clause-published : goal.returns-clause-published
returns-clause-published g c = λ points links are reached entered all behind test window separate.
    let within : window.0 < length c.args.windows.now = slice_get_within c.args.windows.now window.0 separate.0 separate.1 in
    c.windows.invariant.published points links are reached entered all behind window (omega (arith, within, c.len.ensures, c.in-Ok.ensures, c.windows-test.false)) separate
