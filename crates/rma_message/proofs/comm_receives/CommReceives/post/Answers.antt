use Rattle.std.proofs.Common.{◌++◌, ◌∷◌, [], sym, ap, subst, ◌∙◌}
use Rattle.rma_message.specs.inside.Live.{AreNumbered, ArePlaced}
use Rattle.rma_message.proofs.KeyListLemmas.{numbered_posted}
use Rattle.rma_message.proofs.comm_receives.CommReceives.post.Goals as goal

pub returns-clause-posted : goal.returns-clause-posted
returns-clause-posted c = λ keys are.
    let own = c.args.self.now in
    let key = c.args.key in
    let is = c.deref.ensures.value ∙ c.in_ok-push.ensures.items in
    let was = numbered_posted own.keys.items own.numbers own.counts.entries are.placed.are_numbered key in
    record {
      keys_are = c.in_ok-push.ensures.items ∙ ap (λ l. l ++ key ∷ []) are.keys_are;
      placed = subst (λ l. ArePlaced l c.place.new.numbers c.place.new.counts.entries) c.deref.ensures.value
          (c.in_ok-place.ensures (subst (λ l. AreNumbered l own.numbers own.counts.entries) (sym is) was));
    }
