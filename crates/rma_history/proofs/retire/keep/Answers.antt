use Rattle.std.proofs.Common.{◌↔◌, ◌⊎◌, Contains, sym, subst}
use Rattle.std.proofs.lemmas.Result.{on_ok_weaker}
use Rattle.rma_history.specs.inside.Overlaps.{accesses_of}
use Rattle.rma_history.proofs.KeptLemmas.{begun}
use Rattle.rma_history.proofs.retire.keep.Goals as goal

pub returns : goal.returns
returns c =
    on_ok_weaker
    c.begin.result
    (λ is a. subst (λ l. Contains (accesses_of l) a ↔ (Contains (accesses_of c.args.kept.now) a ⊎ Contains c.args.chain a)) (sym is) (begun c.args.kept.now c.args.chain a))
    c.begin.ensures
