use Rattle.std.proofs.Common.{subst, sym}
use Rattle.rma_pairs.specs.Race.{Race}
use Rattle.rma_pairs.specs.Races.{IsFoundOf}
use Rattle.rma_pairs.proofs.RaceLemmas.{found_some}
use Rattle.rma_pairs.proofs.found.race_of.Goals as goal

pub returns-in_ok-found-in-Some : goal.returns-in_ok-found-in-Some
returns-in_ok-found-in-Some g c = λ points links race clocks there back.
    let made = c.in_ok-found-in-Some.field-0 in
    let a = c.args.a.now in
    let b = c.args.b.now in
    let windows = c.args.windows.now in
    let spans = c.args.lists.now in
    let names = c.in_ok-found-in-Some.ensures.names in
    let sites = c.in_ok-found-in-Some.ensures.sites in
    let races = (c.race_by.ensures points links c.in-Some.rule clocks there back).0 c.in-Some.is in
    let is : IsFoundOf links windows spans a b made = record {
      in_order = c.requires.in_order;
      race = subst (Race links windows spans a b) (sym names.3) races;
      common = c.in_ok-found-in-Some.ensures.bytes;
      first_is = names.0;
      first_site_is = sites.0;
      second_is = names.1;
      second_site_is = sites.1;
      memory_is = names.2;
    } in
    found_some links windows spans a b made race is
