use Rattle.std.proofs.Common.{◌≡◌, ◌<◌, ◌^◌, ◌++◌, ◌∷◌, [], List, ℕ, length, take, refl, ap, ◌∙◌, arith}
use Rattle.std.proofs.lemmas.List.Elements.{All-push}
use Rattle.std.proofs.lemmas.Option.{slice_get_read}
use Rattle.rma_run.specs.Run.{lens_of}
use Rattle.rma_order.proofs.ToldLemmas.{lens_more}
use Rattle.rma_order.proofs.counts.call_counts.Goals as goal

pub loop-own-preserved : goal.loop-own-preserved
loop-own-preserved c =
    let ranks = c.args.ranks.now in
    let i = c.loop-own.own-index in
    let own = c.own-item.result in
    let counted : c.len.result ≡ length own.calls = c.len.ensures ∙ ap (λ cs. length cs) c.calls.ensures in
    let few = c.requires.few i own (slice_get_read ranks (length ranks) i own refl c.loop-own-test.true c.own-item.is) in
    rw c.in_ok-push.ensures.items (
      ap (λ (counts : List ℕ). counts ++ c.len.result ∷ []) c.loop-own.invariant.0 ∙ ap (λ n. lens_of (take i ranks) ++ n ∷ []) counted ∙ lens_more ranks i own c.loop-own-test.true c.own-item.is,
      All-push (λ calls. calls < 2 ^ 31) c.loop-own.counts.items c.len.result c.loop-own.invariant.1 (omega (arith, counted, few)),
    )
