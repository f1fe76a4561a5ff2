use Rattle.std.proofs.Common.{◌++◌, [], ◌∷◌, sym, ap, subst, ◌∙◌}
use Rattle.std.specs.Prelude.{All}
use Rattle.std.proofs.lemmas.List.Elements.{All-push}
use Rattle.rma_bytes.specs.Runs.{IsInBounds}
use Rattle.rma_rules.proofs.BytesLemmas.{in_bounds}
use Rattle.rma_history.proofs.ReachLemmas.{taken_there}
use Rattle.rma_history.proofs.reach.each_of.Goals as goal

pub loop-i-preserved : goal.loop-i-preserved
loop-i-preserved c =
    let bytes = c.args.bytes.now in
    let run = c.get.result in
    record {
      runs = c.in_ok-push.ensures.ok ∙ ap (λ l. l ++ run ∷ []) c.loop-i.invariant.runs ∙ sym (taken_there bytes c.loop-i.i run c.get.ensures);
      bounds = subst (All IsInBounds) (sym c.in_ok-push.ensures.ok)
          (All-push IsInBounds c.loop-i.blocks.items run c.loop-i.invariant.bounds (in_bounds bytes c.loop-i.i run c.len-i-end.ensures.canonical c.get.ensures));
    }
