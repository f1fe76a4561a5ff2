use Rattle.std.proofs.Common.{◌++◌, ◌∷◌, [], sym, ap, subst, ◌∙◌, append_assoc, append-nil}
use Rattle.std.specs.List.Sorted.{IsSorted}
use Rattle.std.specs.Vec.Iter.{into_iter_items}
use Rattle.rma_concurrent.specs.inside.Places.{IsInOrder}
use Rattle.rma_concurrent.proofs.ListLemmas.{none_behind, none_in_order, none_left}
use Rattle.rma_concurrent.proofs.order.each_once.Goals as goal

pub loop-report-init : goal.loop-report-init
loop-report-init g c = record {
  split = sym c.into_iter-report-iterator.ensures.into_iter_gives.0;
  in_order = λ is sorted. subst (IsInOrder g.T.Reported.order []) (sym c.new-out.ensures.items) (none_in_order g.T.Reported.order is);
}

pub loop-report-preserved : goal.loop-report-preserved
loop-report-preserved g c =
    let yielded = c.loop-report.yielded in
    let report = c.in-Some.report in
    let left = into_iter_items c.next.new.self in
    let split = c.loop-report.invariant.split ∙ ap (λ rest. yielded ++ rest) c.in-Some.ensures.steps.0 in
    record {
      split = split ∙ sym (append_assoc yielded (report ∷ []) left);
      in_order = λ is sorted.
          c.in_ok-add_new.ensures yielded is (c.loop-report.invariant.in_order is sorted)
          (none_behind g.T.Reported.order is yielded left report (subst (IsSorted g.T.Reported.order) split sorted));
    }

pub returns : goal.returns
returns g c =
    let empty = none_left (into_iter_items c.loop-report.report-iterator) (sym c.loop-report.report-iterator.rest.ok.0 ∙ c.in-None.ensures.steps.0) in
    let all = c.loop-report.invariant.split ∙ ap (λ rest. c.loop-report.yielded ++ rest) empty ∙ append-nil c.loop-report.yielded in
    λ is sorted. subst (λ seen. IsInOrder g.T.Reported.order seen c.loop-report.out.items) (sym all) (c.loop-report.invariant.in_order is sorted)
