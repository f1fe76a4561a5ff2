use Rattle.std.proofs.Common.{◌∷◌}
use Rattle.rma_known.specs.declared.call_form.Place.TheVariants.{Same}
use Rattle.rma_known.proofs.AlikeLemmas.{fit_of}
use Rattle.rma_known.proofs.call_template.StatedCall.new.Goals as goal

pub are_alike-requires : goal.are_alike-requires
are_alike-requires c = record {
  fit = rw c.as_slice.ensures.value (fit_of c.args.version c.in-Some.parts.items c.args.words.now (Same ∷ c.places.result.now) c.in-Some.ensures);
  none = c.new-from.ensures;
}
