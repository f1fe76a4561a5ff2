use Rattle.std.proofs.Common.{◌≡◌, ◌<◌, ◌≤◌, ◌↔◌, ℕ, length, sym, subst, ap, ◌∙◌}
use Rattle.rma_base.specs.declared.rank.Rank.{Rank}
use Rattle.rma_clock.specs.Reached.{points_of}
use Rattle.rma_link.specs.Point.{entry, return_of}
use Rattle.rma_link.specs.Order.{IsAtOrBefore}
use Rattle.rma_rules.specs.Access.{Access}
use Rattle.rma_run.specs.Run.{calls_of, lens_of}
use Rattle.rma_dyn.specs.inside.Reached.{IsDoneAt}
use Rattle.rma_dyn.specs.inside.Run.{fault_by}
use Rattle.rma_dyn.proofs.AnswerLemmas.{answer}
use Rattle.rma_dyn.proofs.AskedLemmas.{asked, memory_there}
use Rattle.rma_dyn.proofs.access.fault_through.Goals as goal

pub count_of-count-requires-clause-there : goal.count_of-count-requires-clause-there
count_of-count-requires-clause-there g c =
    subst (λ (r : Rank). r.0 < length c.args.ranks.now) c.requires.memory (memory_there c.args.ranks.now c.requires.known.1.run c.args.access.now c.requires.access)

pub left_before-bound-requires : goal.left_before-bound-requires
left_before-bound-requires g c = record {
  clocks = (
    points_of (lens_of c.args.ranks.now),
    c.requires.clocks.0,
    c.requires.clocks.1,
    asked c.args.ranks.now c.requires.known.1.run c.args.access.now c.requires.access c.args.owner.rank c.count_of-count.result c.requires.memory c.count_of-count.ensures,
  );
}

pub entered_before_done-freed-requires : goal.entered_before_done-freed-requires
entered_before_done-freed-requires g c = record {
  clocks = (
    points_of (lens_of c.args.ranks.now),
    c.requires.clocks.0,
    c.requires.clocks.1,
    asked c.args.ranks.now c.requires.known.1.run c.args.access.now c.requires.access c.args.owner.rank c.count_of-count.result c.requires.memory c.count_of-count.ensures,
  );
}

pub returns : goal.returns
returns g c = λ links windows are through fault.
    let ranks = c.args.ranks.now in
    let known = c.requires.known.1 in
    let a = c.args.access.now in
    let owner = c.args.owner in
    let count = c.count_of-count.result in
    let points = points_of (lens_of ranks) in
    let ask = asked ranks known.run a c.requires.access owner.rank count c.requires.memory c.count_of-count.ensures in
    let left = c.left_before-bound.ensures.parted points links are ask in
    let late = c.entered_before_done-freed.ensures.parted points links are ask in
    let bound = c.left_before-bound.result in
    let freed = c.entered_before_done-freed.result in
    let told =
    answer links windows c.args.list.now known.once a count bound freed
    (λ x has rank. subst (λ n. x.call < n) (ap (λ (r : Rank). length (calls_of ranks r.0)) (rank ∙ c.requires.memory) ∙ sym c.count_of-count.ensures) (known.within x has))
    (subst (λ (r : Rank). (call : ℕ) → call < count → (call < bound) ↔ IsAtOrBefore links (return_of r call) (entry a.name.rank a.call)) (sym c.requires.memory) left)
    (subst (λ (r : Rank). (call : ℕ) → call < count → (freed ≤ call) ↔ IsDoneAt links a (entry r call)) (sym c.requires.memory) late) c.cover_of-cover.result c.cover_of-cover.ensures through fault in
    let is : c.fault_by.result ≡ fault_by a.name c.cover_of-cover.result = c.fault_by.ensures ∙ ap (λ (x : Access). fault_by x.name c.cover_of-cover.result) c.access.view_is in
    (λ some. told.0 (sym is ∙ some), λ at. is ∙ told.1 at)
