use Rattle.std.proofs.Common.{sym, ◌∙◌}
use Rattle.rma_completion.specs.declared.completing.Completion.TheVariants.{Local, Remote}
use Rattle.rma_completion.proofs.KeptLemmas.{ascends, kept_after, local_is, none_after}
use Rattle.rma_completion.proofs.completions.Completions.local_on.Goals as goal

pub returns-in-Some : goal.returns-in-Some
returns-in-Some c = λ windows calls represents.
    let own = c.args.self.now in
    let is = sym c.in-Some.ensures.value in
    let up = ascends windows calls own represents c.args.window c.in-Some.own.now is in
    let remote = c.remote_after.ensures up ∙ kept_after windows calls own represents c.args.window c.in-Some.own.now is c.args.target Remote c.args.number in
    let local = c.local_after.ensures up ∙ kept_after windows calls own represents c.args.window c.in-Some.own.now is c.args.target Local c.args.number in
    c.earlier.ensures ∙ rw (remote, local) (sym (local_is windows calls own represents c.args.window c.args.target c.args.number))

pub returns-in-None : goal.returns-in-None
returns-in-None c = λ windows calls represents.
    let own = c.args.self.now in
    let none = sym c.in-None.ensures.value in
    sym
    (local_is windows calls own represents c.args.window c.args.target c.args.number
    ∙ rw (none_after windows calls own represents c.args.window none c.args.target Remote c.args.number) (none_after windows calls own represents c.args.window none c.args.target Local c.args.number))
