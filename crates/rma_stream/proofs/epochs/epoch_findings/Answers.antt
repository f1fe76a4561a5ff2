use Rattle.std.proofs.Common.{◌++◌, [], List, length, map, ap, ◌∙◌, arith}
use Rattle.std.specs.List.{cons_option, filter_map}
use Rattle.std.proofs.lemmas.List.{length-map, take_all}
use Rattle.rma_window.specs.Creation.{creations}
use Rattle.rma_window.specs.Windows.{Window, windows_by}
use Rattle.rma_report.specs.declared.finding.Finding.{Finding}
use Rattle.rma_run.proofs.WalkLemmas.{filter_map_taken}
use Rattle.rma_accesses.specs.Run.{IsEpochsOf, own_of}
use Rattle.rma_accesses.proofs.RankLemmas.{all_at, item_is, mapped}
use Rattle.rma_stream.specs.Findings.{epoch_finding}
use Rattle.rma_stream.proofs.epochs.epoch_findings.Goals as goal

pub push_fault-requires : goal.push_fault-requires
push_fault-requires c =
    let items = c.args.epochs.now.ranks.items in
    let there = item_is items c.as_slice-own-items.result.now c.loop-own.own-index c.own-item.result c.as_slice-own-items.ensures.value c.loop-own-test.true c.own-item.is in
    (c.args.epochs.now.windows, all_at (IsEpochsOf c.args.epochs.now.windows) items c.loop-own.own-index c.own-item.result c.requires.1.each there)

pub loop-own-preserved : goal.loop-own-preserved
loop-own-preserved c =
    let items = c.args.epochs.now.ranks.items in
    let windows = c.args.epochs.now.windows in
    let i = c.loop-own.own-index in
    let own = c.own-item.result in
    let there = item_is items c.as_slice-own-items.result.now i own c.as_slice-own-items.ensures.value c.loop-own-test.true c.own-item.is in
    let is = all_at (IsEpochsOf windows) items i own c.requires.1.each there in
    c.in_ok-push_fault.ensures windows is
    ∙ ap (λ (list : List Finding). list ++ cons_option (epoch_finding windows (own_of own)) []) c.loop-own.invariant
    ∙ filter_map_taken (epoch_finding windows) (map own_of items) i (own_of own) [] (mapped own_of items i own there)

pub returns : goal.returns
returns c = λ ranks are.
    let items = c.args.epochs.now.ranks.items in
    let last = c.loop-own-test.false in
    let same = ap length c.as_slice-own-items.ensures.value in
    c.loop-own.invariant
    ∙ ap (filter_map (epoch_finding c.args.epochs.now.windows)) (take_all c.loop-own.own-index (map own_of items) (omega (arith, last, same, length-map items own_of)))
    ∙ ap (λ (windows : List Window). filter_map (epoch_finding windows) (map own_of items)) are.windows
    ∙ ap (filter_map (epoch_finding (windows_by (creations ranks)))) are.owns
