use Rattle.std.proofs.Common.{◌≡◌, Some, length, length-append, slice_get, refl, sym, ap, subst, ◌∙◌, arith}
use Rattle.std.specs.Option.{option_and_then}
use Rattle.std.proofs.lemmas.Option.{slice_get_read, slice_get_past}
use Rattle.rma_message.specs.inside.Live.{AreNumbered}
use Rattle.rma_message.proofs.KeyListLemmas.{numbered_more}
use Rattle.rma_message.proofs.comm_receives.place.Goals as goal

pub loop-index-preserved : goal.loop-index-preserved
loop-index-preserved c =
    let keys = c.args.keys.now in
    let numbers = c.loop-index.numbers in
    let key = c.in-Some.key in
    let number = c.in_ok-number.number in
    let at : length numbers ≡ c.loop-index.index = c.loop-index.invariant.at in
    let pushed = c.in_ok-push.ensures.ok in
    let there : slice_get keys (length numbers) ≡ Some (Some key) =
    ap (slice_get keys) at ∙ slice_get_read keys (length keys) c.loop-index.index c.index-keys-index.result refl c.loop-index-test.true c.index-keys-index.is ∙ ap Some c.in-Some.is in
    record {
      at = ap length pushed ∙ simp length-append (omega arith);
      are = λ were.
          subst (λ l. AreNumbered keys l c.count.new.counts.entries) (sym pushed)
          (numbered_more keys numbers c.loop-index.counts.entries c.count.new.counts.entries key number (c.loop-index.invariant.are were) there
          c.in_ok-number.ensures.before (λ other. c.in_ok-number.ensures.counted other));
    }

pub returns : goal.returns
returns c = λ were. record {
  are_numbered = c.loop-index.invariant.are were;
  next_is_open = ap (option_and_then (λ k. k)) (slice_get_past c.args.keys.now (length c.loop-index.numbers) (omega (arith, c.loop-index.invariant.at)));
}
