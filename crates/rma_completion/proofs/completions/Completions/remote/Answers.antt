use Rattle.std.proofs.Common.{sym, ◌∙◌}
use Rattle.rma_completion.specs.declared.completing.Completion.TheVariants.{Remote}
use Rattle.rma_completion.proofs.KeptLemmas.{ascends, kept_after, none_after}
use Rattle.rma_completion.proofs.completions.Completions.remote.Goals as goal

pub returns-in-Some : goal.returns-in-Some
returns-in-Some c = λ windows calls represents.
    let own = c.args.self.now in
    let is = sym c.in-Some.ensures.value in
    c.remote_after.ensures (ascends windows calls own represents c.args.window c.in-Some.own.now is)
    ∙ kept_after windows calls own represents c.args.window c.in-Some.own.now is c.args.target Remote c.args.number

pub returns-in-None : goal.returns-in-None
returns-in-None c = λ windows calls represents.
    sym (none_after windows calls c.args.self.now represents c.args.window (sym c.in-None.ensures.value) c.args.target Remote c.args.number)
