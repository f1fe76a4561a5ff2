use Rattle.std.proofs.Common.{◌≡◌, ◌+◌, None, length, refl, sym, ap, subst, ◌∙◌}
use Rattle.std.specs.Prelude.{All}
use Rattle.std.proofs.lemmas.List.{length_push}
use Rattle.std.proofs.lemmas.List.Elements.{All-push}
use Rattle.rma_exposure.proofs.rank_epochs.no_places.Goals as goal

pub loop-preserved : goal.loop-preserved
loop-preserved c =
    let places = c.loop.places.items in
    record {
      len = ap length c.in_ok-push.ensures.items ∙ length_push places None ∙ ap (λ n. n + 1) c.loop.invariant.len;
      none = subst (All (λ place. place ≡ None)) (sym c.in_ok-push.ensures.items) (All-push (λ place. place ≡ None) places None c.loop.invariant.none refl);
    }
