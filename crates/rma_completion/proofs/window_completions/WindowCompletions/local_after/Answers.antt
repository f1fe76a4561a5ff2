use Rattle.std.proofs.Common.{Some, None, ◌∙◌}
use Rattle.rma_completion.specs.declared.completing.Completion.TheVariants.{Local}
use Rattle.rma_completion.proofs.window_completions.WindowCompletions.local_after.Goals as goal

pub returns : goal.returns
returns c = λ ascend.
    let own = (rw c.get-own.ensures.value at c.after_in.ensures) (ascend (Some c.args.target) Local) in
    let all = c.after.ensures (ascend None Local) in
    c.earlier.ensures ∙ (cc)
