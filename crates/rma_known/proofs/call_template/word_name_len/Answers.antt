use Rattle.std.proofs.Common.{take, ap, sym}
use Rattle.rma_known.specs.Elsewhere.{name_alone}
use Rattle.rma_known.specs.declared.call_form.Part.TheVariants.{Name}
use Rattle.rma_known.proofs.AlikeLemmas.{named, part_word, room_said}
use Rattle.rma_known.proofs.call_template.word_name_len.Goals as goal

pub returns-in-Ok-clause-taken : goal.returns-in-Ok-clause-taken
returns-in-Ok-clause-taken c =
    let text = c.args.text.now in
    let len = c.word_len-len.result in
    let name = c.in-Ok.name in
    let is = named (take len text) name c.in-Ok.ensures in
    room_said Name (name_alone name) text len c.take_name.result c.room.result c.args.found.now c.take_name.new.self
    (part_word Name (name_alone name) (take len text) c.word_len-len.ensures.word (is.0, sym (ap name_alone is.1))) c.room.ensures c.take_name.ensures
