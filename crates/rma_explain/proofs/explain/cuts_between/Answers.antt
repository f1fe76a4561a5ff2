use Rattle.std.proofs.Common.{◌≡◌, ℕ, List, rules, sym, subst, ◌∙◌}
use Rattle.std.specs.Prelude.{Contains}
use Rattle.rma_call.specs.Call.{RankCalls}
use Rattle.rma_clock.specs.declared.shared.SharedClocks.{SharedClocks}
use Rattle.rma_clock.specs.inside.Table.{AreClocks}
use Rattle.rma_clock.specs.Reached.{points_of}
use Rattle.rma_run.specs.Run.{lens_of}
use Rattle.rma_window.specs.Windows.{Window}
use Rattle.rma_rules.specs.Access.{Access, IsOnWindowOf}
use Rattle.rma_rules.specs.Before.{AreReached}
use Rattle.rma_rules.specs.Spans.{Spans}
use Rattle.rma_span.specs.Span.{accesses}
use Rattle.rma_points.specs.Points.{AreRunCalls}
use Rattle.rma_accesses.specs.Run.{AreGood}
use Rattle.rma_order.specs.RunLinks.{links_of}
use Rattle.rma_order.proofs.SameLinks.{link_back}
use Rattle.rma_points.proofs.AskedLemmas.{may_be_asked}
use Rattle.rma_cut.specs.Cut.{IsClosed}
use Rattle.rma_cut.specs.Show.{AreLeast, ShowRace}
use Rattle.rma_cut.specs.declared.cuts.Cuts.{Cuts}
use Rattle.rma_cut.proofs.LeastLemmas.{least_show_race}
use Rattle.rma_explain.proofs.CutLemmas.{run_is_closed, shown_same, stored_there}
use Rattle.rma_explain.proofs.explain.cuts_between.Goals as goal

-- what cuts for two accesses of a run are, once the clocks are those of the run
least_of : (ranks : List RankCalls) → AreGood ranks → (spans : Spans) → AreRunCalls ranks spans → (a b : Access) → Contains (accesses ranks) a → Contains (accesses ranks) b → (lens : List ℕ) → lens ≡ lens_of ranks
    → (clocks : SharedClocks) → AreClocks (points_of (lens_of ranks)) (links_of ranks) clocks → (P : Cuts → Type 0) (cuts : Cuts)
    → (AreClocks (points_of lens) (links_of ranks) clocks → IsClosed (links_of ranks) (points_of lens) → AreReached (points_of lens) spans a b → AreReached (points_of lens) spans b a → P cuts) → P cuts
least_of ranks good spans are a b has_a has_b lens is clocks of P cuts ensures =
    let links = links_of ranks in
    let back : lens_of ranks ≡ lens = sym is in
    ensures
    (subst (λ (ls : List ℕ). AreClocks (points_of ls) links clocks) back of)
    (subst (λ (ls : List ℕ). IsClosed links (points_of ls)) back (run_is_closed ranks good.run.in_order))
    (subst (λ (ls : List ℕ). AreReached (points_of ls) spans a b) back (may_be_asked ranks good.run spans are a b has_a has_b).0)
    (subst (λ (ls : List ℕ). AreReached (points_of ls) spans b a) back (may_be_asked ranks good.run spans are b a has_b has_a).0)

pub cuts_for-requires-clause-a : goal.cuts_for-requires-clause-a
cuts_for-requires-clause-a c =
    subst (λ (ws : List Window). IsOnWindowOf ws c.args.a.now) (sym c.requires.windows) (may_be_asked c.args.ranks.now c.requires.good.run c.args.run.now.lists c.requires.accesses.lists.calls c.args.a.now c.args.b.now c.requires.a c.requires.b).1

pub cuts_for-requires-clause-b : goal.cuts_for-requires-clause-b
cuts_for-requires-clause-b c =
    subst (λ (ws : List Window). IsOnWindowOf ws c.args.b.now) (sym c.requires.windows) (may_be_asked c.args.ranks.now c.requires.good.run c.args.run.now.lists c.requires.accesses.lists.calls c.args.a.now c.args.b.now c.requires.a c.requires.b).2

pub cuts_for-requires-clause-clocks : goal.cuts_for-requires-clause-clocks
cuts_for-requires-clause-clocks c =
    let ranks = c.args.ranks.now in
    let links = links_of ranks in
    let spans = c.args.run.now.lists in
    let a = c.args.a.now in
    let b = c.args.b.now in
    let back : lens_of ranks ≡ c.as_slice-lens.result.now = sym (c.as_slice-lens.ensures.value ∙ c.in_ok-counts.ensures.counts) in (
      links,
      subst (λ (lens : List ℕ). AreClocks (points_of lens) links c.args.order.now.clocks) back c.requires.order.clocks,
      subst (λ (lens : List ℕ). AreReached (points_of lens) spans a b) back (may_be_asked ranks c.requires.good.run spans c.requires.accesses.lists.calls a b c.requires.a c.requires.b).0,
      subst (λ (lens : List ℕ). AreReached (points_of lens) spans b a) back (may_be_asked ranks c.requires.good.run spans c.requires.accesses.lists.calls b a c.requires.b c.requires.a).0,
    )

pub check_cuts-requires-clause-a : goal.check_cuts-requires-clause-a
check_cuts-requires-clause-a c =
    subst (λ (ws : List Window). IsOnWindowOf ws c.args.a.now) (sym c.requires.windows) (may_be_asked c.args.ranks.now c.requires.good.run c.args.run.now.lists c.requires.accesses.lists.calls c.args.a.now c.args.b.now c.requires.a c.requires.b).1

pub check_cuts-requires-clause-b : goal.check_cuts-requires-clause-b
check_cuts-requires-clause-b c =
    subst (λ (ws : List Window). IsOnWindowOf ws c.args.b.now) (sym c.requires.windows) (may_be_asked c.args.ranks.now c.requires.good.run c.args.run.now.lists c.requires.accesses.lists.calls c.args.a.now c.args.b.now c.requires.a c.requires.b).2

pub unreachable-requires : goal.unreachable-requires
unreachable-requires c =
    let ranks = c.args.ranks.now in
    let links = links_of ranks in
    let spans = c.args.run.now.lists in
    let windows = c.args.windows.now in
    let a = c.args.a.now in
    let b = c.args.b.now in
    let lens = c.as_slice-lens.result.now in
    let cuts = c.in_ok-cuts.cuts in
    let is : lens ≡ lens_of ranks = c.as_slice-lens.ensures.value ∙ c.in_ok-counts.ensures.counts in
    let least = least_of ranks c.requires.good spans c.requires.accesses.lists.calls a b c.requires.a c.requires.b lens is c.args.order.now.clocks c.requires.order.clocks (λ cs. AreLeast links lens windows spans a b cs) cuts (c.in_ok-cuts.ensures links) in
    let shown = least_show_race links lens windows spans a b cuts least (stored_there ranks a c.requires.a) (stored_there ranks b c.requires.b) c.requires.not_before c.requires.not_after in
    let accepted = c.if-not-check_cuts.ensures.1 (shown_same links c.args.order.now.links (link_back c.args.order.now.links links c.requires.order.links) lens windows spans a b cuts shown) in
    cc

pub returns : goal.returns
returns c =
    let ranks = c.args.ranks.now in
    let links = links_of ranks in
    let spans = c.args.run.now.lists in
    let windows = c.args.windows.now in
    let a = c.args.a.now in
    let b = c.args.b.now in
    let lens = c.as_slice-lens.result.now in
    let cuts = c.in_ok-cuts.cuts in
    let is : lens ≡ lens_of ranks = c.as_slice-lens.ensures.value ∙ c.in_ok-counts.ensures.counts in (
      subst (λ (ls : List ℕ). ShowRace links ls windows spans a b cuts) is (shown_same c.args.order.now.links links c.requires.order.links lens windows spans a b cuts (c.if-not-check_cuts.ensures.0 (search rules))),
      subst (λ (ls : List ℕ). AreLeast links ls windows spans a b cuts) is
          (least_of ranks c.requires.good spans c.requires.accesses.lists.calls a b c.requires.a c.requires.b lens is c.args.order.now.clocks c.requires.order.clocks (λ cs. AreLeast links lens windows spans a b cs) cuts
          (c.in_ok-cuts.ensures links)),
    )
