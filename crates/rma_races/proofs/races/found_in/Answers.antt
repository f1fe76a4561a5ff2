use Rattle.std.proofs.Common.{◌≡◌, ◌<◌, ◌/◌, ◌+◌, ℕ, List, [], map, Bool, true, false, nat_lt, Some, length, slice_get, slice_index_or, refl, sym, ap, subst, ◌∙◌, arith}
use Rattle.std.specs.Prelude.{◌↔◌, All, Contains}
use Rattle.std.proofs.lemmas.Bool.Decides.{nat_tests}
use Rattle.std.proofs.lemmas.List.{length-map}
use Rattle.std.proofs.lemmas.Option.{same_Some, slice_get-get_or, slice_get_within}
use Rattle.rma_base.specs.declared.point.Point.{Point}
use Rattle.rma_call.specs.Call.{RankCalls}
use Rattle.rma_window.specs.Windows.{Window}
use Rattle.rma_accesses.specs.declared.accesses.RunAccesses.{RunAccesses}
use Rattle.rma_accesses.specs.declared.rank.RankAccesses.{RankAccesses}
use Rattle.rma_accesses.specs.inside.Kept.{IsAccessesOf, rank_of}
use Rattle.rma_accesses.proofs.RankLemmas.{all_at, contained, item_is, mapped}
use Rattle.rma_pairs.specs.Races.{IsFound}
use Rattle.rma_span.specs.Span.{accesses}
use Rattle.rma_races.specs.Run.{AreOfRun}
use Rattle.rma_races.specs.inside.Taking.{IsKnown, IsThrough}
use Rattle.rma_races.proofs.AllLemmas.{all_taken, found_all, none_taken, still_through}
use Rattle.rma_races.proofs.races.found_in.Goals as goal

earlier_or_last : {P : Type 0} (j i : ℕ) → j < i + 1 → (j < i → P) → (j ≡ i → P) → P
earlier_or_last {P} j i less earlier last = by (nat_lt j i) refl
  where
    by : (b : Bool) → nat_lt j i ≡ b → P
    by true is = earlier (grind (arith, nat_tests))
    by false is = last (grind (arith, nat_tests))

known : (ranks : List RankCalls) (given : RunAccesses) (windows : List Window) (points : List Point) → AreOfRun ranks given windows points → IsKnown ranks windows given.lists
known ranks given windows points of = record { run = of.good.run; calls = of.accesses_are.lists.calls; windows_are = of.windows_are }

pub loop-point-init : goal.loop-point-init
loop-point-init g c = λ ranks links of clocks.
    let given = c.args.run.now in
    let begun = c.in_ok-taking.ensures.begun ranks (ap (λ (l : List RankAccesses). map rank_of l) c.deref.ensures.value ∙ of.accesses_are.owns) (subst (All (IsAccessesOf ranks)) (sym c.deref.ensures.value) of.accesses_are.each) in
    let none = c.in_ok-taking.ensures.none in (
      ([], none_taken links c.of-windows.result given.lists ranks c.in_ok-taking.taking begun none.0 c.in_ok-taking.ensures.empty, λ i own k number a there less at has. absurd (let zero = none.1 i in omega (arith, less, zero))),
      λ j p less at. absurd (omega arith),
    )

-- a point that a loop over the points has in hand
abbrev point_of : List Point → ℕ → Point
point_of points i = slice_index_or points i (record { rank = record { 0 = 0 }; pos = 0 })

point_at : (points : List Point) (i : ℕ) → i < length points → slice_get points i ≡ Some (point_of points i)
point_at points i less = slice_get-get_or points i (record { rank = record { 0 = 0 }; pos = 0 }) less

-- the accesses of its rank
module _ (ranks : List RankCalls) (given : RunAccesses) (windows : List Window) (points : List Point) (of : AreOfRun ranks given windows points) (i : ℕ) (within : i < length points) where
  rank_within : (point_of points i).rank.0 < length given.ranks.items
  rank_within =
      let less = of.of_ranks (point_of points i) (contained points i (point_of points i) (point_at points i within)) in
      let long = ap length of.accesses_are.owns in
      let same = length-map given.ranks.items rank_of in
      omega (arith, less, long, same)

  module _ (own : RankAccesses) (is : own ≡ slice_index_or given.ranks.items (point_of points i).rank.0 own) where
    own_at : slice_get given.ranks.items (point_of points i).rank.0 ≡ Some own
    own_at = item_is given.ranks.items given.ranks.items (point_of points i).rank.0 own refl rank_within is

    of_rank : IsAccessesOf ranks own
    of_rank = all_at (IsAccessesOf ranks) given.ranks.items (point_of points i).rank.0 own of.accesses_are.each own_at

    there : slice_get ranks (point_of points i).rank.0 ≡ Some (rank_of own)
    there = ap (λ (l : List RankCalls). slice_get l (point_of points i).rank.0) (sym of.accesses_are.owns) ∙ mapped rank_of given.ranks.items (point_of points i).rank.0 own own_at

pub index-requires : goal.index-requires
index-requires g c =
    let (ranks, links, of, clocks) = c.requires in
    let within = rank_within ranks c.args.run.now c.args.windows.now c.args.points.now of c.loop-point.point-index c.loop-point-test.true in
    let len = c.args.run.now.ranks.ok.0 in
    omega (arith, within, len)

pub take_through-requires : goal.take_through-requires
take_through-requires g c =
    let (ranks, links, given_of, clocks) = c.requires in
    let given = c.args.run.now in
    let windows = c.of-windows.result in
    let points = c.args.points.now in
    let of = subst (λ (ws : List Window). AreOfRun ranks given ws points) (sym c.of-windows.ensures) given_of in
    let i = c.loop-point.point-index in (
      ranks,
      links,
      known ranks given windows points of,
      of_rank ranks given windows points of i c.loop-point-test.true c.index.result.now c.index.ensures,
      there ranks given windows points of i c.loop-point-test.true c.index.result.now c.index.ensures,
      clocks,
      (c.loop-point.invariant ranks links of clocks).0,
    )

pub loop-point-preserved : goal.loop-point-preserved
loop-point-preserved g c = λ ranks links of clocks.
    let given = c.args.run.now in
    let windows = c.of-windows.result in
    let points = c.args.points.now in
    let i = c.loop-point.point-index in
    let now = c.loop-point.invariant ranks links of clocks in
    let own = of_rank ranks given windows points of i c.loop-point-test.true c.index.result.now c.index.ensures in
    let at_rank = there ranks given windows points of i c.loop-point-test.true c.index.result.now c.index.ensures in
    let after = c.take_through.new.self.taken.items in
    let through = c.in_ok-take_through.ensures.through ranks own at_rank in (
      c.in_ok-take_through.ensures.taking ranks links (known ranks given windows points of) own at_rank clocks now.0,
      λ j p less at.
          earlier_or_last j i less
          (λ earlier. still_through ranks c.loop-point.taking.taken.items after p.rank.0 (p.pos / 2) c.in_ok-take_through.ensures.further (now.1 j p earlier at))
          (λ last.
          let same : point_of points i ≡ p = same_Some (point_of points i) p (sym (point_at points i c.loop-point-test.true) ∙ ap (slice_get points) (sym last) ∙ at) in
          subst (λ (q : Point). IsThrough ranks after q.rank.0 (q.pos / 2)) same through),
    )

pub returns : goal.returns
returns g c = λ ranks links given_of clocks race.
    let given = c.args.run.now in
    let windows = c.of-windows.result in
    let points = c.args.points.now in
    let of = subst (λ (ws : List Window). AreOfRun ranks given ws points) (sym c.of-windows.ensures) given_of in
    let now = c.loop-point.invariant ranks links of clocks in
    let seen = now.0.0 in
    let taken = now.0.1 in
    let past = c.loop-point-test.false in
    let all = all_taken ranks of.good.run points seen c.loop-point.taking.taken.items of.all_points
    (λ j p at. let within = slice_get_within points j p at in now.1 j p (omega (arith, within, past)) at)
    now.0.2 in
    let same = found_all links windows given.lists ranks seen race taken.of_run all in
    subst (λ (ws : List Window). Contains c.loop-point.taking.found.items race ↔ IsFound links ws given.lists (accesses ranks) race) c.of-windows.ensures
    (λ has. same.0 ((taken.found race).0 has), λ found. (taken.found race).1 (same.1 found))
