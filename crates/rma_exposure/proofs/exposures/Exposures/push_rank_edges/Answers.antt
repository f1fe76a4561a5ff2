use Rattle.std.proofs.Common.{◌≡◌, ℕ, List, ◌++◌, [], None, append-nil, append_assoc, refl, sym, ap, ◌∙◌}
use Rattle.std.specs.Prelude.{option_map}
use Rattle.std.specs.List.{flat_map}
use Rattle.std.specs.Map.Iter.{deref_pair}
use Rattle.std.proofs.lemmas.Cmp.{nat_eq_equiv}
use Rattle.std.proofs.lemmas.Map.Iter.{rest_more, rest_all, hash_map_turn}
use Rattle.rma_base.specs.declared.rank.Rank.{Rank}
use Rattle.rma_call.specs.Call.{Call}
use Rattle.rma_link.specs.declared.edge.Edge.{Edge}
use Rattle.rma_run.specs.Run.{calls_of}
use Rattle.rma_run.proofs.CallLemmas.{calls_are_few}
use Rattle.rma_exposure.specs.declared.opened.Opened.{Opened}
use Rattle.rma_exposure.specs.declared.side.Side.TheVariants.{Exposure}
use Rattle.rma_exposure.specs.Opening.{opened}
use Rattle.rma_exposure.specs.Closing.{closing_of}
use Rattle.rma_exposure.specs.Edge.{edges_at, edges_to}
use Rattle.rma_exposure.specs.inside.Epochs.{close_in, stated, kept_of}
use Rattle.rma_exposure.proofs.EpochLemmas.{none_kept, some_kept, own_are}
use Rattle.rma_exposure.proofs.RunLemmas.{closing_below}
use Rattle.rma_exposure.proofs.WalkLemmas.{edges_had, had_at, openers_walked}
use Rattle.rma_exposure.proofs.exposures.Exposures.push_rank_edges.Goals as goal

edges_none : (calls : ℕ → List Call) (rank : Rank) (number : ℕ) (call : Call) → opened Exposure call.what ≡ None → edges_at calls rank number call ≡ []
edges_none calls rank number call none = rw none refl

pub returns-in_default-clause-edges : goal.returns-in_default-clause-edges
returns-in_default-clause-edges c =
    let calls = calls_of c.args.ranks.now in
    let rank = c.args.rank.now in
    let found = kept_of c.args.self.now.ranks.entries c.rank.result.0 in
    let have = none_kept rank.calls found c.in_default.ensures.value (own_are c.args.self.now.ranks.entries rank.calls c.rank.result rank.rank c.rank.ensures c.requires.own) Exposure in
    sym (append-nil c.args.links.now.edges)
    ∙ ap (λ l. c.args.links.now.edges ++ l) (openers_walked Exposure (edges_at calls rank.rank) rank.calls (edges_none calls rank.rank) {V = Opened} [] (sym have.none_opens))

pub loop-number-init : goal.loop-number-init
loop-number-init c =
    let calls = calls_of c.args.ranks.now in
    let rank = c.args.rank.now in
    let start = c.into_iter-number-iterator.ensures.into_iter_gives ∙ c.iter-number-items.ensures.rest in
    let are = c.of.ensures rank.calls (some_kept rank.calls c.in-Some.epochs.now (kept_of c.args.self.now.ranks.entries c.rank.result.0) c.in-Some.ensures.value (own_are c.args.self.now.ranks.entries rank.calls c.rank.result rank.rank c.rank.ensures c.requires.own)) in
    let f = edges_at calls rank.rank in
    record {
      edges = ap (λ l. c.args.links.now.edges ++ flat_map (λ e. had_at f rank.calls e.0) l) start
          ∙ ap (λ l. c.args.links.now.edges ++ l) (openers_walked Exposure f rank.calls (edges_none calls rank.rank) c.of.result.now.openers.entries are.openers_come);
      meets = refl;
    }

-- the call that closes the epoch of a post which is kept
closed_by : (c : goal.After-push_edges_to-arg-1) → c.in-Some-2.epoch.now.close ≡ closing_of Exposure (calls_of c.args.ranks.now c.rank-in-loop-number.result.0) c.in-Some-2.number.now
closed_by c =
    let ranks = c.args.ranks.now in
    let calls = calls_of ranks in
    let kept = kept_of c.args.self.now.ranks.entries c.rank.result.0 in
    let number = c.in-Some-2.number in
    let epoch = c.in-Some-2.epoch in
    let start = c.into_iter-number-iterator.ensures.into_iter_gives ∙ c.iter-number-items.ensures.rest in
    let found = hash_map_turn deref_pair c.loop-number.yielded c.into_iter-number-iterator.result c.loop-number.number-iterator c.next.new.self c.next.result (number, epoch) c.loop-number.yielded_by c.in-Some-2.is c.next.ensures.steps nat_eq_equiv c.of.result.now.openers start c.iter-number-items.ensures.unique in
    let own = calls c.rank-in-loop-number.result.0 in
    let are = c.of.ensures own (some_kept own c.in-Some.epochs.now kept c.in-Some.ensures.value (own_are c.args.self.now.ranks.entries own c.rank.result c.rank-in-loop-number.result (c.rank.ensures ∙ sym c.rank-in-loop-number.ensures) (c.requires.represents c.rank-in-loop-number.result.0))) in
    sym (ap close_in found.1) ∙ are.closings_are number.now

pub push_edges_to-requires-clause-closing : goal.push_edges_to-requires-clause-closing
push_edges_to-requires-clause-closing c = closed_by c

pub push_edges_to-requires-clause-below : goal.push_edges_to-requires-clause-below
push_edges_to-requires-clause-below c =
    let ranks = c.args.ranks.now in
    let rank = c.rank-in-loop-number.result.0 in
    closing_below Exposure (calls_of ranks rank) c.in-Some-2.number.now c.in-Some-2.epoch.now.close (closed_by c) (calls_are_few ranks rank c.requires.run)

pub loop-number-preserved : goal.loop-number-preserved
loop-number-preserved c =
    let ranks = c.args.ranks.now in
    let calls = calls_of ranks in
    let kept = kept_of c.args.self.now.ranks.entries c.rank.result.0 in
    let number = c.in-Some-2.number in
    let epoch = c.in-Some-2.epoch in
    let start = c.into_iter-number-iterator.ensures.into_iter_gives ∙ c.iter-number-items.ensures.rest in
    let found = hash_map_turn deref_pair c.loop-number.yielded c.into_iter-number-iterator.result c.loop-number.number-iterator c.next.new.self c.next.result (number, epoch) c.loop-number.yielded_by c.in-Some-2.is c.next.ensures.steps nat_eq_equiv c.of.result.now.openers start c.iter-number-items.ensures.unique in
    let own = c.args.rank.now.calls in
    let left = c.loop-number.number-iterator in
    let rest = c.next.new.self in
    let before = c.loop-number.links.edges in
    let f = edges_at calls c.args.rank.now.rank in
    let g : List (ℕ × Opened) → List Edge = flat_map (λ e. had_at f own e.0) in
    let are = c.of.ensures own (some_kept own c.in-Some.epochs.now kept c.in-Some.ensures.value (own_are c.args.self.now.ranks.entries own c.rank.result c.args.rank.now.rank c.rank.ensures c.requires.own)) in
    let there = sym (are.openers_are number.now) ∙ ap (option_map stated) found.1 in
    let step = rest_more deref_pair left rest c.next.result (number, epoch) c.in-Some-2.is c.next.ensures.steps in
    record {
      edges = ap (λ l. l ++ g rest)
          (c.in_ok-push_edges_to.ensures.edges
          ∙ ap (λ (r : Rank). before ++ edges_to calls r number.now (stated epoch.now)) c.rank-in-loop-number.ensures
          ∙ ap (λ l. before ++ l) (sym (edges_had calls c.args.rank.now.rank own number.now (stated epoch.now) there)))
          ∙ append_assoc before (had_at f own number.now) (g rest)
          ∙ ap (λ l. before ++ g l) (sym step)
          ∙ c.loop-number.invariant.edges;
      meets = c.in_ok-push_edges_to.ensures.meets ∙ c.loop-number.invariant.meets;
    }

pub returns-clause-edges : goal.returns-clause-edges
returns-clause-edges c =
    let calls = calls_of c.args.ranks.now in
    let own = c.args.rank.now.calls in
    let f = edges_at calls c.args.rank.now.rank in
    let end = rest_all deref_pair c.loop-number.number-iterator c.next.new.self c.next.result c.in-None.is c.next.ensures.steps in
    sym (append-nil c.loop-number.links.edges)
    ∙ ap (λ l. c.loop-number.links.edges ++ flat_map (λ e. had_at f own e.0) l) (sym end)
    ∙ c.loop-number.invariant.edges

pub returns-clause-meets : goal.returns-clause-meets
returns-clause-meets c = c.loop-number.invariant.meets
