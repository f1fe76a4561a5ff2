use Rattle.std.proofs.Common.{◌++◌, [], ◌∷◌, sym, ap, subst, ◌∙◌, arith}
use Rattle.std.specs.Prelude.{All, IfOk}
use Rattle.std.proofs.lemmas.List.{take_all}
use Rattle.std.proofs.lemmas.List.Elements.{All-push}
use Rattle.rma_bytes.specs.Runs.{IsInBounds, SameBytes}
use Rattle.rma_rules.proofs.BytesLemmas.{in_bounds}
use Rattle.rma_run.proofs.WalkLemmas.{taken_there}
use Rattle.rma_pairs.proofs.common.runs_of.Goals as goal

pub loop-i-preserved : goal.loop-i-preserved
loop-i-preserved c =
    let bytes = c.args.bytes.now in
    let run = c.get.result in
    record {
      runs = c.in_ok-push.ensures.items ∙ ap (λ l. l ++ run ∷ []) c.loop-i.invariant.runs ∙ sym (taken_there bytes c.loop-i.i run c.get.ensures);
      bounds = subst (All IsInBounds) (sym c.in_ok-push.ensures.items)
          (All-push IsInBounds c.loop-i.blocks.items run c.loop-i.invariant.bounds (in_bounds bytes c.loop-i.i run c.len-i-end.ensures.canonical c.get.ensures));
    }

pub returns : goal.returns
returns c =
    let bytes = c.args.bytes.now in
    let all = take_all c.loop-i.i bytes (let last = c.loop-i-test.false in let long = c.len-i-end.ensures.value in omega (arith, last, long)) in
    subst (λ l. IfOk c.from_blocks.result (λ runs. SameBytes runs l)) (c.as_slice.ensures.value ∙ c.loop-i.invariant.runs ∙ all) c.from_blocks.ensures.bytes
