use Rattle.std.proofs.Common.{◌≡◌, List, refl, sym, subst}
use Rattle.std.proofs.lemmas.Option.{none-some, same_Some}
use Rattle.std.proofs.lemmas.Result.{IfOk-weaker}
use Rattle.rma_link.specs.declared.links.Links.{Links}
use Rattle.rma_run.specs.Run.{lens_of}
use Rattle.rma_window.specs.Creation.{creations}
use Rattle.rma_window.specs.Windows.{Window, windows_by}
use Rattle.rma_rules.specs.Access.{Access}
use Rattle.rma_rules.specs.Spans.{Spans}
use Rattle.rma_span.specs.Span.{accesses}
use Rattle.rma_finding.specs.declared.finding.FoundRace.{FoundRace}
use Rattle.rma_order.specs.RunLinks.{links_of}
use Rattle.rma_pairs.specs.Races.{IsFoundOf}
use Rattle.rma_cut.specs.Show.{AreLeast, ShowRace}
use Rattle.rma_explain.specs.Explanation.{AreCutsOf}
use Rattle.rma_explain.proofs.explain.cuts_of_race.Goals as goal

pub unreachable-requires : goal.unreachable-requires
unreachable-requires c = let found = c.requires.found in none-some found.a ((c.in_default.ensures found.a).1 (found.has_a, sym found.is.first_is))

pub unreachable-requires-in_default-access_named : goal.unreachable-requires-in_default-access_named
unreachable-requires-in_default-access_named c = let found = c.requires.found in none-some found.b ((c.in_default-access_named.ensures found.b).1 (found.has_b, sym found.is.second_is))

-- what is found of two accesses is found of those that have their names, with the windows that the code has
found_of : (links : Links) (windows others : List Window) (spans : Spans) (a b first second : Access) (race : FoundRace) → windows ≡ others → a ≡ first → b ≡ second → IsFoundOf links others spans a b race
    → IsFoundOf links windows spans first second race
found_of links windows others spans a b first second race ws same_a same_b is =
    subst (λ (w : List Window). IsFoundOf links w spans first second race) (sym ws) (subst (λ (x : Access). IsFoundOf links others spans x second race) same_a (subst (λ (y : Access). IsFoundOf links others spans a y race) same_b is))

pub cuts_between-requires-clause-a : goal.cuts_between-requires-clause-a
cuts_between-requires-clause-a c = ((c.in-Some.ensures c.in-Some.a).0 refl).0

pub cuts_between-requires-clause-b : goal.cuts_between-requires-clause-b
cuts_between-requires-clause-b c = ((c.in-Some-access_named.ensures c.in-Some-access_named.b).0 refl).0

pub cuts_between-requires-clause-not_before : goal.cuts_between-requires-clause-not_before
cuts_between-requires-clause-not_before c =
    let found = c.requires.found in
    let a = c.in-Some.a in
    let b = c.in-Some-access_named.b in
    (found_of (links_of c.args.ranks.now) c.args.windows.now (windows_by (creations c.args.ranks.now)) c.args.run.now.lists found.a found.b a b c.args.race.now c.requires.windows
    (sym (same_Some a found.a ((c.in-Some.ensures found.a).1 (found.has_a, sym found.is.first_is))))
    (sym (same_Some b found.b ((c.in-Some-access_named.ensures found.b).1 (found.has_b, sym found.is.second_is)))) found.is).race.not_before

pub cuts_between-requires-clause-not_after : goal.cuts_between-requires-clause-not_after
cuts_between-requires-clause-not_after c =
    let found = c.requires.found in
    let a = c.in-Some.a in
    let b = c.in-Some-access_named.b in
    (found_of (links_of c.args.ranks.now) c.args.windows.now (windows_by (creations c.args.ranks.now)) c.args.run.now.lists found.a found.b a b c.args.race.now c.requires.windows
    (sym (same_Some a found.a ((c.in-Some.ensures found.a).1 (found.has_a, sym found.is.first_is))))
    (sym (same_Some b found.b ((c.in-Some-access_named.ensures found.b).1 (found.has_b, sym found.is.second_is)))) found.is).race.not_after

pub returns : goal.returns
returns c =
    let found = c.requires.found in
    let a = c.in-Some.a in
    let b = c.in-Some-access_named.b in
    let ranks = c.args.ranks.now in
    let links = links_of ranks in
    let lens = lens_of ranks in
    let windows = windows_by (creations ranks) in
    let spans = c.args.run.now.lists in
    IfOk-weaker c.cuts_between.result _ (AreCutsOf links lens windows spans (accesses ranks) c.args.race.now)
    (λ cuts both. record {
      a = a;
      b = b;
      has_a = ((c.in-Some.ensures a).0 refl).0;
      has_b = ((c.in-Some-access_named.ensures b).0 refl).0;
      found = found_of links windows windows spans found.a found.b a b c.args.race.now refl
          (sym (same_Some a found.a ((c.in-Some.ensures found.a).1 (found.has_a, sym found.is.first_is))))
          (sym (same_Some b found.b ((c.in-Some-access_named.ensures found.b).1 (found.has_b, sym found.is.second_is)))) found.is;
      shown = subst (λ (ws : List Window). ShowRace links lens ws spans a b cuts) c.requires.windows both.0;
      least = subst (λ (ws : List Window). AreLeast links lens ws spans a b cuts) c.requires.windows both.1;
    })
    c.cuts_between.ensures
