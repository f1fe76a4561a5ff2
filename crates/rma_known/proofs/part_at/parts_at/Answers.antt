use Rattle.std.proofs.Common.{◌+◌, ◌∷◌, drop, slice_index_or, subst}
use Rattle.std.proofs.Math.ListN.{drop_of_length-le}
use Rattle.rma_known.specs.declared.call_form.Place.TheVariants.{Same}
use Rattle.rma_known.specs.inside.Templates.{AreGoneOver}
use Rattle.rma_known.proofs.AlikeLemmas.{all_gone, next_item, verb_gone, word_gone}
use Rattle.rma_known.proofs.part_at.parts_at.Goals as goal

pub loop-i-init : goal.loop-i-init
loop-i-init c = rw (c.new-parts.ensures, c.behind-rest.ensures) (verb_gone c.args.version c.args.words.now c.args.places.now c.in-Some.verb c.in-Some.ensures)

pub loop-i-preserved : goal.loop-i-preserved
loop-i-preserved c =
    let v = c.args.version in
    let words = c.args.words.now in
    let places = c.args.places.now in
    let i = c.loop-i.i in
    let parts = c.loop-i.parts.items in
    let before = c.loop-i.before in
    let rest = c.loop-i.rest.now in
    let place = slice_index_or places i Same in
    let gone = subst (λ left. AreGoneOver v words (Same ∷ places) parts before rest left) (next_item places i Same c.loop-i-test.true) c.loop-i.invariant in
    rw c.behind-rest-in-loop-i.ensures
    (word_gone v words (Same ∷ places) parts c.note.new.parts.items before c.in-Some-note.next rest place (drop (i + 1) places) c.in-Some-next_word.word gone c.in-Some-next_word.ensures
    (rw c.part-part.ensures at c.in-Some-note.ensures))

pub returns : goal.returns
returns c =
    let places = c.args.places.now in
    let parts = c.loop-i.parts.items in
    all_gone c.args.version c.args.words.now (Same ∷ places) parts c.loop-i.before c.loop-i.rest.now
    (subst (λ left. AreGoneOver c.args.version c.args.words.now (Same ∷ places) parts c.loop-i.before c.loop-i.rest.now left) (drop_of_length-le places {i = c.loop-i.i} c.loop-i-test.false) c.loop-i.invariant)
