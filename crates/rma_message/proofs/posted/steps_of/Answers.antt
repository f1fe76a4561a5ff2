use Rattle.std.proofs.Common.{◌+◌, slice_get, length, sym, ap, subst, ◌∙◌}
use Rattle.std.specs.Map.{keys_of}
use Rattle.std.proofs.lemmas.List.{length_push}
use Rattle.rma_call.specs.Call.{what_of}
use Rattle.rma_message.specs.inside.Matched.{AreSteps}
use Rattle.rma_message.proofs.PostedLemmas.{AreSteps_more}
use Rattle.rma_message.proofs.posted.steps_of.Goals as goal

pub loop-number-preserved : goal.loop-number-preserved
loop-number-preserved c =
    let keys = keys_of c.args.queues.now.entries in
    let whats = c.args.calls.now.whats in
    let steps = c.loop-number.steps.items in
    let step = c.in_ok-step.step in
    let invariant = c.loop-number.invariant in
    record {
      len = ap length c.in_ok-push.ensures.items ∙ length_push steps step ∙ ap (λ n. n + 1) invariant.len;
      steps =
          subst (AreSteps c.args.rank keys whats) (sym c.in_ok-push.ensures.items)
          (AreSteps_more c.args.rank keys whats steps (what_of c.what.result) step (ap (slice_get whats) invariant.len ∙ c.what.ensures) c.in_ok-step.ensures invariant.steps);
    }
