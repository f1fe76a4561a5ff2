use Rattle.std.proofs.Common.{List, subst, sym}
use Rattle.rma_base.specs.declared.point.Point.{Point}
use Rattle.rma_order.specs.RunLinks.{links_of}
use Rattle.rma_pairs.specs.Races.{AreRaces}
use Rattle.rma_races.specs.Run.{AreOfRun}
use Rattle.rma_span.specs.Span.{accesses}
use Rattle.rma_window.specs.Windows.{Window}
use Rattle.rma_findings_probe.proofs.RaceLemmas.{with_points}
use Rattle.rma_findings_probe.proofs.scene.races_in.Goals as goal

pub races_of-requires : goal.races_of-requires
races_of-requires c =
    let scene = c.args.scene in
    let ranks = scene.calls.now in (
      ranks,
      links_of ranks,
      subst (λ (points : List Point). AreOfRun ranks scene.accesses.now scene.windows.now points) (sym c.as_slice-points.ensures)
          (with_points ranks scene.accesses.now scene.windows.now scene.order.now.points c.requires.good c.requires.accesses_are c.requires.windows_are c.requires.order_is.points),
      c.requires.order_is.clocks,
    )

pub returns : goal.returns
returns c =
    let scene = c.args.scene in
    let ranks = scene.calls.now in
    let links = links_of ranks in
    let asked = subst (λ (points : List Point). AreOfRun ranks scene.accesses.now scene.windows.now points) (sym c.as_slice-points.ensures)
    (with_points ranks scene.accesses.now scene.windows.now scene.order.now.points c.requires.good c.requires.accesses_are c.requires.windows_are c.requires.order_is.points) in
    subst (λ (ws : List Window). AreRaces links ws scene.accesses.now.lists (accesses ranks) c.in_ok-races_of.field-0.items) c.requires.windows_are (c.in_ok-races_of.ensures ranks links asked c.requires.order_is.clocks)
