use Rattle.std.proofs.Common.{◌≡◌, ◌∷◌, ◌∙◌, ap, refl, subst, sym}
use Rattle.rma_known.specs.Elsewhere.{IsElsewhere, places_of}
use Rattle.rma_known.specs.declared.call_form.Place.TheVariants.{Same}
use Rattle.rma_known.specs.inside.Templates.{Placed}
use Rattle.rma_known.proofs.AlikeLemmas.{elsewhere_of, fit_of}
use Rattle.rma_known.proofs.call_template.StatedCall.elsewhere.Goals as goal

pub are_alike-requires-clause-fit : goal.are_alike-requires-clause-fit
are_alike-requires-clause-fit c =
    let own = c.self.inside in
    rw (c.as_slice.ensures.value, c.as_slice-2.ensures.value) (fit_of own.version own.parts.items own.words.items (Same ∷ places_of own.form) c.self.invariant.says)

pub returns : goal.returns
returns c =
    let own = c.self.inside in
    let version : own.version ≡ c.args.version = ap (λ (placed : Placed). placed.known.version) c.self.view_is ∙ c.if-not-is_of.ensures refl in
    let here = elsewhere_of own.version own.words.items own.parts.items own.form own.from own.words.items own.from c.self.invariant c.self.invariant.alike in
    let there = elsewhere_of own.version own.words.items own.parts.items own.form own.from c.args.words.now c.are_alike.new.found c.self.invariant
    (rw (c.as_slice.ensures.value, c.as_slice-2.ensures.value) at (c.in_ok-are_alike.ensures c.if-not-branch.false)) in
    rw (← c.self.view_is)
    (record {
      version = version;
      does = refl;
      request = sym c.requests.ensures;
      here = rw c.numbers.ensures (subst (λ v. IsElsewhere v own.form own.words.items own.words.items own.from) version here);
      there = subst (λ v. IsElsewhere v own.form own.words.items c.args.words.now c.are_alike.new.found) version there;
    })
