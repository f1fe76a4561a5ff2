use Rattle.std.proofs.Common.{Some, None, ◌∙◌}
use Rattle.rma_completion.specs.declared.completing.Completion.TheVariants.{Remote}
use Rattle.rma_completion.proofs.window_completions.WindowCompletions.remote_after.Goals as goal

pub returns : goal.returns
returns c = λ ascend.
    let own = (rw c.get-own.ensures.value at c.after_in.ensures) (ascend (Some c.args.target) Remote) in
    let all = c.after.ensures (ascend None Remote) in
    c.earlier.ensures ∙ (cc)
