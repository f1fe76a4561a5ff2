use Rattle.rma_match.proofs.RootLemmas.{root_is_edge}
use Rattle.rma_match.proofs.laws.roots_are_edges.Goals as goal

pub returns : goal.returns
returns c = λ ranks in_order own number call at point of_run there moves from_root count. root_is_edge ranks in_order own number call at point of_run there moves from_root count
