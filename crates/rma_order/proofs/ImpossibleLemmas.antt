-- The impossible calls of a run: there is one list of them.
use Rattle.std.proofs.Common.{◌≡◌, List, refl, sym, ap, ◌∙◌}
use Rattle.rma_call.specs.Call.{RankCalls}
use Rattle.rma_run.specs.Run.{AreInOrder, lens_of}
use Rattle.rma_walk.proofs.ExistenceLemmas.{firsts_exist}
use Rattle.rma_walk.proofs.OutcomeLemmas.{firsts_once}
use Rattle.rma_order.specs.declared.impossible.ImpossibleCall.{ImpossibleCall}
use Rattle.rma_order.specs.RunLinks.{links_of}
use Rattle.rma_order.specs.Impossible.{AreImpossibleCalls, told_all}
use Rattle.rma_order.proofs.LinkLemmas.{links_are_within}

pub one_impossible : (ranks : List RankCalls) (found others : List ImpossibleCall) → AreImpossibleCalls ranks found → AreImpossibleCalls ranks others → found ≡ others
one_impossible ranks found others h k = h.2 ∙ ap (told_all ranks) (firsts_once (lens_of ranks) (links_of ranks) h.0 k.0 h.1 k.1) ∙ sym k.2

pub some_impossible : (ranks : List RankCalls) → AreInOrder ranks → (found : List ImpossibleCall) × AreImpossibleCalls ranks found
some_impossible ranks in_order =
    let firsts = firsts_exist (lens_of ranks) (links_of ranks) (links_are_within ranks in_order) in
    (told_all ranks firsts.0, (firsts.0, firsts.1, refl))
