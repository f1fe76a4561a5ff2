use Rattle.std.proofs.Common.{◌≡◌, ◌++◌, ap, sym, subst, ◌∙◌}
use Rattle.std.specs.Prelude.{string_bytes}
use Rattle.rma_form.specs.Canonical.{canonical, site_suffix}
use Rattle.rma_form.specs.Lines.{states}
use Rattle.rma_form.proofs.CanonicalLemmas.{canonical_states}
use Rattle.rma_form.proofs.canonical.line_of.Goals as goal

pub returns-clause-states : goal.returns-clause-states
returns-clause-states c version text stated =
    let is : string_bytes c.push_site.new.line ≡ canonical c.args.stated.now =
    c.in_ok-push_site.ensures ∙ ap (λ words. words ++ site_suffix c.args.stated.now.site) c.in_ok-line.ensures in
    subst (λ line. states version line c.args.stated.now) (sym is) (canonical_states version text c.args.stated.now stated)
