use Rattle.std.proofs.Common.{◌≡◌, None, Some, set, sym, ap, subst, ◌∙◌}
use Rattle.rma_message.specs.inside.Live.{AreNumbered, ArePlaced, key_at}
use Rattle.std.proofs.lemmas.Result.{on_ok_weaker}
use Rattle.rma_message.proofs.KeyListLemmas.{numbered_completed}
use Rattle.rma_message.proofs.comm_receives.CommReceives.complete.Goals as goal

pub returns : goal.returns
returns c =
    let own = c.args.self.now in
    on_ok_weaker c.place.result (λ placed keys are lt none.
    let open_now : key_at own.keys.items c.args.index ≡ None = ap (λ l. key_at l c.args.index) are.keys_are ∙ none in
    let was = subst (λ l. AreNumbered l own.numbers own.counts.entries) (sym c.put.ensures) (numbered_completed own.keys.items own.numbers own.counts.entries are.placed.are_numbered c.args.index (Some c.args.key) open_now) in
    record {
      keys_are = c.put.ensures ∙ ap (λ l. set l c.args.index (Some c.args.key)) are.keys_are;
      placed = subst (λ l. ArePlaced l c.place.new.numbers c.place.new.counts.entries) c.deref.ensures.value (placed (subst (λ l. AreNumbered l own.numbers own.counts.entries) (sym c.deref.ensures.value) was));
    }) c.place.ensures
