use Rattle.std.proofs.Common.{◌≡◌, take, length, List, ℕ, Ok, refl, ap, sym, subst, ◌∙◌}
use Rattle.rma_field.specs.Kinds.{name_of}
use Rattle.rma_known.specs.Elsewhere.{name_alone}
use Rattle.rma_known.specs.declared.call_form.Part.TheVariants.{Name}
use Rattle.rma_known.specs.inside.Templates.{IsPartWord}
use Rattle.rma_known.proofs.AlikeLemmas.{part_word, room_said}
use Rattle.rma_known.proofs.WordLemmas.{name_is_word}
use Rattle.rma_known.proofs.call_template.name_len.Goals as goal

pub returns-then-ends_word-clause-taken : goal.returns-then-ends_word-clause-taken
returns-then-ends_word-clause-taken c =
    let text = c.args.text.now in
    let name = c.in-Some.name in
    let good : name_of name ≡ Ok name = rw c.in-Some.is at c.in_ok-name.ensures.name in
    let front : take (length name) text ≡ name = rw c.in-Some.is at c.in_ok-name.ensures.front in
    let form = c.bytes-len.ensures.form in
    let word = subst (λ word. IsPartWord Name word (name_alone name)) (sym (ap (λ (bytes : List ℕ). take (length bytes) text) c.bytes-len.ensures.bytes ∙ front))
    (part_word Name (name_alone name) name (name_is_word name form) (good, refl)) in
    room_said Name (name_alone name) text _ c.take_name.result c.room.result c.args.found.now c.take_name.new.self word c.room.ensures c.take_name.ensures
