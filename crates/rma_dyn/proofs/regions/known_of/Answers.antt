use Rattle.std.proofs.Common.{◌<◌, ◌^◌, List, sym, subst}
use Rattle.std.specs.List.Sorted.{IsPermutation}
use Rattle.rma_dyn.specs.Change.{changes}
use Rattle.rma_dyn.specs.declared.change.Change.{Change}
use Rattle.rma_dyn.specs.inside.Sorted.{AreInSpace, AreReaches, IsInSpace}
use Rattle.rma_dyn.proofs.KnownLemmas.{all_back, back, in_space_of_run, once_back, once_in_run, small_in_run, within_run}
use Rattle.rma_dyn.proofs.regions.known_of.Goals as goal

pub reaches_of-requires-clause-in_space : goal.reaches_of-requires-clause-in_space
reaches_of-requires-clause-in_space c =
    let ranks = c.args.ranks.now in
    let windows = c.args.windows.now in
    let all = changes windows ranks in
    let list = c.sort.new.list.items in
    let same = subst (λ (xs : List Change). IsPermutation xs list) c.in_ok-list.ensures c.sort.ensures.permutation in
    subst AreInSpace (sym c.as_slice.ensures.value) (all_back all list same IsInSpace (in_space_of_run windows ranks c.requires.good.run c.requires.good))

pub returns : goal.returns
returns c =
    let ranks = c.args.ranks.now in
    let windows = c.args.windows.now in
    let all = changes windows ranks in
    let list = c.sort.new.list.items in
    let run = c.requires.good.run in
    let same = subst (λ (xs : List Change). IsPermutation xs list) c.in_ok-list.ensures c.sort.ensures.permutation in
    record {
      run = run;
      of_run = c.requires.windows;
      all = same;
      rise = c.sort.ensures.rise;
      once = once_back all list same (once_in_run windows ranks run);
      in_space = all_back all list same IsInSpace (in_space_of_run windows ranks run c.requires.good);
      within = λ x has. within_run windows ranks run x (back all list same x has);
      small = all_back all list same (λ x. x.call < 2 ^ 31) (small_in_run windows ranks run);
      reach = subst (λ xs. AreReaches xs c.in_ok-reaches.reaches.items) c.as_slice.ensures.value c.in_ok-reaches.ensures;
    }
