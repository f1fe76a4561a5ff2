use Rattle.std.proofs.lemmas.Cmp.{nat_list_eq_equiv}
use Rattle.std.proofs.lemmas.Map.Entries.{hash_map_get_place}
use Rattle.rma_epoch.proofs.open_windows.any_unclosed.Goals as goal

pub returns-clause-found : goal.returns-clause-found
returns-clause-found c = λ i e there. hash_map_get_place nat_list_eq_equiv c.args.table.now i e.0 e.1 c.iter.ensures.unique there
