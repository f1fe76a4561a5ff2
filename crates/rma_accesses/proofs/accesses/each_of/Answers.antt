use Rattle.std.proofs.Common.{◌++◌, [], ◌∷◌, map, take, sym, ap, subst, ◌∙◌}
use Rattle.std.specs.Prelude.{All, Contains}
use Rattle.std.proofs.lemmas.List.{map-append}
use Rattle.std.proofs.lemmas.List.Elements.{All-push}
use Rattle.rma_run.proofs.WalkLemmas.{taken_there}
use Rattle.rma_accesses.specs.Run.{IsEpochsOf, own_of}
use Rattle.rma_accesses.specs.inside.Kept.{IsAccessesOf, rank_of}
use Rattle.rma_accesses.proofs.RankLemmas.{all_at, contained, item_is, mapped}
use Rattle.rma_accesses.proofs.accesses.each_of.Goals as goal

pub of-requires-clause-there : goal.of-requires-clause-there
of-requires-clause-there c =
    let items = c.args.epochs.now.ranks.items in
    let there = item_is items c.as_slice-own-items.result.now c.loop-own.own-index c.own-item.result c.as_slice-own-items.ensures.value c.loop-own-test.true c.own-item.is in
    subst (λ ranks. Contains ranks (own_of c.own-item.result)) c.requires.epochs.owns (contained (map own_of items) c.loop-own.own-index (own_of c.own-item.result) (mapped own_of items c.loop-own.own-index c.own-item.result there))

pub of-requires-clause-epochs : goal.of-requires-clause-epochs
of-requires-clause-epochs c =
    let items = c.args.epochs.now.ranks.items in
    let there = item_is items c.as_slice-own-items.result.now c.loop-own.own-index c.own-item.result c.as_slice-own-items.ensures.value c.loop-own-test.true c.own-item.is in
    all_at (IsEpochsOf c.args.epochs.now.windows) items c.loop-own.own-index c.own-item.result c.requires.epochs.each there

pub loop-own-preserved : goal.loop-own-preserved
loop-own-preserved c =
    let items = c.args.epochs.now.ranks.items in
    let i = c.loop-own.own-index in
    let own = c.own-item.result in
    let list = c.loop-own.list.items in
    let one = c.in_ok-of.field-0 in
    let there = item_is items c.as_slice-own-items.result.now i own c.as_slice-own-items.ensures.value c.loop-own-test.true c.own-item.is in
    let owns = map own_of items in
    let P = IsAccessesOf c.args.ranks.now in
    record {
      ranks = ap (map rank_of) c.in_ok-push.ensures.items ∙ map-append rank_of list (one ∷ []) ∙ ap (λ l. l ++ rank_of one ∷ []) c.loop-own.invariant.ranks
          ∙ ap (λ r. take i owns ++ r ∷ []) c.in_ok-of.ensures.rank ∙ sym (taken_there owns i (own_of own) (mapped own_of items i own there));
      each = subst (All P) (sym c.in_ok-push.ensures.items) (All-push P list one c.loop-own.invariant.each c.in_ok-of.ensures.accesses);
    }
