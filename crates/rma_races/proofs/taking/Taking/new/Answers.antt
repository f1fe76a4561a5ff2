use Rattle.std.proofs.Common.{List, [], ◌∷◌, ◌++◌, length, slice_get, refl, sym, ap, ◌∙◌, arith}
use Rattle.std.proofs.lemmas.List.{length-map}
use Rattle.rma_accesses.specs.inside.Kept.{IsAccessesOf, rank_of}
use Rattle.rma_rules.specs.Access.{Access}
use Rattle.rma_accesses.proofs.RankLemmas.{all_at, item_is, mapped}
use Rattle.rma_races.proofs.NewLemmas.{begun, one_first, one_more}
use Rattle.rma_races.proofs.taking.Taking.new.Goals as goal

pub loop-own-preserved : goal.loop-own-preserved
loop-own-preserved c =
    let count = c.loop-own.own-index in
    let new = c.loop-own.invariant.0 in
    let first = c.next_call.result in (
      one_more count c.loop-own.taking _ first (c.in_ok-push.ensures.items ∙ ap (λ (history : List Access). c.loop-own.taking.memories.items ++ history ∷ []) c.new-in-loop-own.ensures) c.in_ok-push-2.ensures.items c.in_ok-push-3.ensures.items refl new,
      λ run are all.
          let at = item_is c.args.ranks.now c.args.ranks.now count c.own-item.result refl c.loop-own-test.true c.own-item.is in
          let own = rank_of c.own-item.result in
          let there = ap (λ them. slice_get them count) (sym are) ∙ mapped rank_of c.args.ranks.now count c.own-item.result at in
          let of_own = all_at (IsAccessesOf run) c.args.ranks.now count c.own-item.result all at in
          one_first run count c.loop-own.taking.next.items c.push-in-loop-own-2.new.self.items own first new.next there (c.next_call.ensures run of_own) c.in_ok-push-3.ensures.items (c.loop-own.invariant.1 run are all),
    )

pub returns-clause-begun : goal.returns-clause-begun
returns-clause-begun c = λ run are all.
    let count = c.loop-own.own-index in
    let new = c.loop-own.invariant.0 in
    begun run count c.loop-own.taking (let up = c.loop-own-test.false in let fits = c.loop-own.auto.own-index-end in let long = length-map c.args.ranks.now rank_of in let same = ap length are in omega (arith, up, fits, long, same)) new (c.loop-own.invariant.1 run are all)
