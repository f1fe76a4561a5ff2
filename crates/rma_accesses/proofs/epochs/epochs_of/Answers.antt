use Rattle.std.proofs.Common.{◌++◌, [], ◌∷◌, length, map, take, refl, sym, ap, subst, ◌∙◌}
use Rattle.std.specs.Prelude.{All}
use Rattle.std.proofs.lemmas.List.Elements.{All-push}
use Rattle.std.proofs.lemmas.List.{map-append}
use Rattle.std.proofs.lemmas.Option.{slice_get_read}
use Rattle.rma_run.proofs.WalkLemmas.{taken_there}
use Rattle.rma_accesses.specs.Run.{IsEpochsOf, own_of}
use Rattle.rma_accesses.proofs.epochs.epochs_of.Goals as goal

pub loop-own-preserved : goal.loop-own-preserved
loop-own-preserved c =
    let ranks = c.args.ranks.now in
    let i = c.loop-own.own-index in
    let own = c.own-item.result in
    let list = c.loop-own.list.items in
    let one = c.in_ok-rank_epochs.field-0 in
    let there = slice_get_read ranks (length ranks) i own refl c.loop-own-test.true c.own-item.is in
    let P = IsEpochsOf c.args.windows.now in
    record {
      ranks = ap (map own_of) c.in_ok-push.ensures.items ∙ map-append own_of list (one ∷ []) ∙ ap (λ l. l ++ own_of one ∷ []) c.loop-own.invariant.ranks
          ∙ ap (λ r. take i ranks ++ r ∷ []) c.in_ok-rank_epochs.ensures.rank ∙ sym (taken_there ranks i own there);
      each = subst (All P) (sym c.in_ok-push.ensures.items) (All-push P list one c.loop-own.invariant.each c.in_ok-rank_epochs.ensures.epochs);
    }
