use Rattle.std.proofs.Common.{◌+◌, ◌≤◌, IfSome, sym, subst, ◌∙◌}
use Rattle.rma_base.specs.Limits.{address_limit}
use Rattle.rma_window.specs.declared.part.Part.{Part}
use Rattle.rma_window.proofs.WindowsLemmas.{is_key, key, looked_up, part_of_is}
use Rattle.rma_window.proofs.windows.Windows.part.Goals as goal

pub returns-clause-part : goal.returns-clause-part
returns-clause-part c =
    let own = c.self.inside in
    rw (← c.self.view_is)
    (c.copied.ensures ∙ c.get.ensures.value ∙ sym (part_of_is c.args.rank own.parts.entries c.args.window.0 own.names.entries c.self.invariant.of_windows))

pub returns-clause-in_space : goal.returns-clause-in_space
returns-clause-in_space c =
    let fits = λ (p : Part). p.base + p.size ≤ address_limit in
    subst (λ found. IfSome found fits) (sym (c.copied.ensures ∙ c.get.ensures.value))
    (looked_up fits (is_key (key c.args.window.0 c.args.rank)) c.self.inside.parts.entries c.self.invariant.in_space)
