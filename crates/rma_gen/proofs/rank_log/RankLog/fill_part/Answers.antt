use Rattle.std.proofs.Common.{◌+◌, ◌++◌, length, take, drop, ap, ◌∙◌, arith}
use Rattle.std.proofs.lemmas.List.{length-drop}
use Rattle.rma_gen.specs.inside.Parts.{advanced, tape_at}
use Rattle.rma_gen.proofs.PartLemmas.{piece_of, given_advanced, tape_advanced, offset_within, rank_advanced}
use Rattle.rma_gen.proofs.rank_log.RankLog.fill_part.Goals as goal

pub returns-clause-there : goal.returns-clause-there
returns-clause-there c =
    let text = c.part_text-text.result.bytes in
    let log = c.args.self.now in
    let within = offset_within c.args.trial log c.requires.place c.requires.some_left in
    let size = ap (λ t. length t) c.part_text-text.ensures in
    let rest = ap (λ t. length t) c.rest_of-rest.ensures.rest in
    (piece_of c.args.trial log text c.min-len.result c.part_text-text.ensures c.requires.some_left (omega (arith, within, size)) (omega (arith, c.min-len.ensures, rest))).0

pub returns-clause-filled : goal.returns-clause-filled
returns-clause-filled c =
    let text = c.part_text-text.result.bytes in
    let log = c.args.self.now in
    let within = offset_within c.args.trial log c.requires.place c.requires.some_left in
    let size = ap (λ t. length t) c.part_text-text.ensures in
    let rest = ap (λ t. length t) c.rest_of-rest.ensures.rest in
    let piece = (piece_of c.args.trial log text c.min-len.result c.part_text-text.ensures c.requires.some_left (omega (arith, within, size)) (omega (arith, c.min-len.ensures, rest))).1 in
    c.copy_from.ensures
    ∙ ap (λ t. take c.args.at c.args.room.now ++ (t ++ drop (c.args.at + c.min-len.result) c.args.room.now))
    (ap (take c.min-len.result) c.rest_of-rest.ensures.rest ∙ piece)

pub returns-clause-moved : goal.returns-clause-moved
returns-clause-moved c =
    let log = c.args.self.now in
    let text = c.part_text-text.result.bytes in
    let left = length c.rest_of-rest.result.now in
    let within = offset_within c.args.trial log c.requires.place c.requires.some_left in
    let size = ap (λ t. length t) c.part_text-text.ensures in
    let rest = ap (λ t. length t) c.rest_of-rest.ensures.rest ∙ length-drop log.offset text in
    let given = given_advanced c.args.trial log c.min-len.result left (omega (arith, within, size, rest)) in
    ap (tape_at c.args.trial) c.advance.ensures ∙ tape_advanced c.args.trial log (advanced c.min-len.result left log) c.min-len.result (rank_advanced c.min-len.result left log) given
