use Rattle.std.proofs.Common.{List, map, refl, sym, subst}
use Rattle.rma_base.specs.declared.point.Point.{Point}
use Rattle.rma_clock.specs.Reached.{points_of}
use Rattle.rma_finding.specs.declared.finding.PairFinding.TheVariants.{Race, Exposed, Doubled}
use Rattle.rma_order.specs.RunLinks.{links_of}
use Rattle.rma_pairs.specs.Races.{AreRaces}
use Rattle.rma_concurrent.specs.Concurrent.{AreDoubled, AreExposed, AreOnWindows}
use Rattle.rma_races.specs.Run.{AreOfRun}
use Rattle.rma_report.specs.declared.finding.Finding.TheVariants.{Pair}
use Rattle.rma_rules.proofs.ListLemmas.{OnOk_map}
use Rattle.rma_run.specs.Run.{lens_of}
use Rattle.rma_span.specs.Span.{accesses}
use Rattle.rma_window.specs.Windows.{Window}
use Rattle.rma_stream.specs.Findings.{pair_findings}
use Rattle.rma_stream.proofs.FaultLemmas.{behind, of_run}
use Rattle.rma_stream.proofs.ListedLemmas.{may_be_asked}
use Rattle.rma_stream.proofs.faults.add_pairs.Goals as goal

pub races_of-requires : goal.races_of-requires
races_of-requires c =
    let (ranks, good, kept, windows, order) = c.requires in
    (ranks, links_of ranks, subst (λ (points : List Point). AreOfRun ranks c.args.accesses.now c.args.windows.now points) (sym c.as_slice.ensures) (of_run ranks c.args.accesses.now c.args.windows.now c.args.order.now.points good kept windows order.points), order.clocks)

pub concurrent_epochs-requires-clause-windows : goal.concurrent_epochs-requires-clause-windows
concurrent_epochs-requires-clause-windows c =
    let (ranks, good, kept, windows, order) = c.requires in
    subst (λ (ws : List Window). AreOnWindows ws c.args.accesses.now.lists) (sym windows) (may_be_asked ranks c.args.accesses.now.lists good.run kept.lists).0

pub concurrent_epochs-requires-clause-clocks : goal.concurrent_epochs-requires-clause-clocks
concurrent_epochs-requires-clause-clocks c =
    let (ranks, good, kept, windows, order) = c.requires in
    (points_of (lens_of ranks), links_of ranks, order.clocks, (may_be_asked ranks c.args.accesses.now.lists good.run kept.lists).1)

pub returns : goal.returns
returns c = OnOk_map c.push_doubled.result
    (λ last ranks good kept windows order.
    let lists = c.args.accesses.now.lists in
    let links = links_of ranks in
    let races = c.in_ok-races.races.items in
    let exposed = c.in_ok-concurrent.concurrent.exposed.items in
    let doubled = c.in_ok-concurrent.concurrent.doubled.items in
    let asked = subst (λ (points : List Point). AreOfRun ranks c.args.accesses.now c.args.windows.now points) (sym c.as_slice.ensures) (of_run ranks c.args.accesses.now c.args.windows.now c.args.order.now.points good kept windows order.points) in (
      pair_findings races exposed doubled,
      record {
        lists = lists;
        races = races;
        exposed = exposed;
        doubled = doubled;
        lists_are = kept.lists;
        races_are = subst (λ (ws : List Window). AreRaces links ws lists (accesses ranks) races) windows (c.in_ok-races.ensures ranks links asked order.clocks);
        exposed_are = subst (λ (ws : List Window). AreExposed links ws lists exposed) windows
            (c.in_ok-concurrent.ensures.exposed (points_of (lens_of ranks)) links order.clocks (may_be_asked ranks lists good.run kept.lists).1);
        doubled_are = subst (λ (ws : List Window). AreDoubled ws lists doubled) windows c.in_ok-concurrent.ensures.doubled;
        found_are = refl;
      },
      behind c.args.list.now c.push_races.new.list c.push_exposed.new.list c.push_doubled.new.list (map (λ race. Pair (Race race)) races) (map (λ lock. Pair (Exposed lock)) exposed) (map (λ post. Pair (Doubled post)) doubled)
          c.in_ok-push_races.ensures c.in_ok-push_exposed.ensures last,
    ))
    c.push_doubled.ensures
