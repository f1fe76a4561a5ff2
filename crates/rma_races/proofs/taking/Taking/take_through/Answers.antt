use Rattle.std.proofs.Common.{◌≡◌, ◌++◌, ◌+◌, Some, length, slice_get, slice_set, slice_index, refl, sym, ap, subst, ◌∙◌, arith}
use Rattle.std.specs.Vec.{with_item}
use Rattle.std.proofs.lemmas.List.Elements.{Contains-append_left, Contains-append_right}
use Rattle.std.proofs.lemmas.Option.{slice_get_within}
use Rattle.rma_accesses.proofs.RankLemmas.{contained}
use Rattle.rma_accesses.specs.inside.Kept.{rank_of}
use Rattle.rma_span.specs.Span.{accesses_at, origin_of}
use Rattle.rma_races.specs.declared.taking.Taking.{Taking}
use Rattle.rma_races.specs.inside.Taking.{HasTaken}
use Rattle.rma_races.proofs.AdvanceLemmas.{advanced, further, has_taken, index_is, through_all, through_at}
use Rattle.rma_races.proofs.StepLemmas.{set_own}
use Rattle.rma_races.proofs.taking.Taking.take_through.Goals as goal

pub returns-then-call-clause-through : goal.returns-then-call-clause-through
returns-then-call-clause-through g c = λ ranks of_rank there.
    let taken = c.loop-index.self.taken.items in
    let index = c.loop-index.index in
    through_at ranks (rank_of c.args.own.now) taken c.args.rank c.args.call index c.call.result there (index_is taken c.args.rank index c.loop-index.invariant.0) (c.call.ensures ranks of_rank) c.if-call.true

pub take_call-requires : goal.take_call-requires
take_call-requires g c =
    let (ranks, links, known, of_rank, there, clocks, taking) = c.requires in
    let own = rank_of c.args.own.now in
    let now = c.loop-index.invariant.2 ranks links known of_rank there clocks taking in
    let same = known.run.in_order c.args.rank own there in
    let less = c.loop-index-test.true in
    let len = c.len-index-end.ensures ranks of_rank in
    (ranks, links, now.0, known, of_rank, clocks, now.1, contained ranks c.args.rank own there, ap (slice_get c.loop-index.self.taken.items) same ∙ c.loop-index.invariant.0, omega (arith, less, len))

pub index_mut-requires : goal.index_mut-requires
index_mut-requires g c =
    let within = slice_get_within c.loop-index.self.taken.items c.args.rank c.loop-index.index c.loop-index.invariant.0 in
    let same = ap (λ them. length them.items) c.take_call.ensures.same.0 in
    let len = c.take_call.new.self.taken.ok.0 in
    omega (arith, within, same, len)

pub index_mut-requires-in-loop-index : goal.index_mut-requires-in-loop-index
index_mut-requires-in-loop-index g c =
    let (ranks, links, known, of_rank, there, clocks, taking) = c.requires in
    let now = c.loop-index.invariant.2 ranks links known of_rank there clocks taking in
    let within = slice_get_within ranks c.args.rank (rank_of c.args.own.now) there in
    let long = now.1.begun.next in
    let same = ap (λ them. length them.items) c.take_call.ensures.same.1 in
    let len = c.take_call.new.self.next.ok.0 in
    omega (arith, within, long, same, len)

pub loop-index-preserved : goal.loop-index-preserved
loop-index-preserved g c =
    let rank = c.args.rank in
    let index = c.loop-index.index in
    let before = c.loop-index.self.taken.items in
    let taken = c.take_call.new.self.taken.items in
    let same = ap (λ them. them.items) c.take_call.ensures.same.0 in
    let at : slice_get taken rank ≡ Some index = ap (λ them. slice_get them rank) same ∙ c.loop-index.invariant.0 in (
      set_own taken rank (index + 1) index at,
      λ i.
          let first = c.loop-index.invariant.1 i in
          let second = further taken rank index at i in
          let stays = ap (λ them. slice_index them i) same in
          omega (arith, first, second, stays),
      λ ranks links known of_rank there clocks taking.
          let own = rank_of c.args.own.now in
          let windows = c.args.windows.now in
          let spans = c.args.lists.now in
          let number = c.call.result in
          let is = c.call.ensures ranks of_rank in
          let now = c.loop-index.invariant.2 ranks links known of_rank there clocks taking in
          let own_rank = known.run.in_order rank own there in
          let these = accesses_at (origin_of ranks own) number in
          let seen = now.0 ++ these in
          let next = c.in_ok-take_call.ensures.taken ranks links now.0 number known of_rank clocks now.1 (contained ranks rank own there) (ap (slice_get before) own_rank ∙ c.loop-index.invariant.0) is in
          let has : HasTaken ranks seen taken = subst (HasTaken ranks seen) (sym same) (λ i other k n a here less at_k of. Contains-append_left now.0 these a (now.2 i other k n a here less at_k of)) in
          let new : Taking = record c.take_call.new.self { taken = with_item c.take_call.new.self.taken rank (index + 1); next = with_item c.take_call.new.self.next rank c.next_call.result } in
          let goes = ap (slice_set c.take_call.new.self.next.items rank) (c.next_call.ensures ranks of_rank) in (
            seen,
            advanced links windows spans ranks seen c.take_call.new.self new own rank index number there at is next refl refl refl goes,
            has_taken links windows spans ranks seen c.take_call.new.self new own rank index number there at is next refl refl refl goes (λ a of. Contains-append_right now.0 these a of) has,
          ),
    )

pub returns-clause-through : goal.returns-clause-through
returns-clause-through g c = λ ranks of_rank there.
    let taken = c.loop-index.self.taken.items in
    let is = index_is taken c.args.rank c.loop-index.index c.loop-index.invariant.0 in
    let past = c.loop-index-test.false in
    let len = c.len-index-end.ensures ranks of_rank in
    through_all ranks (rank_of c.args.own.now) taken c.args.rank c.args.call there (omega (arith, is, past, len))
