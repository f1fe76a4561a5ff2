use Rattle.std.proofs.Common.{◌++◌, [], sym, ap, ◌∙◌, append-nil}
use Rattle.std.specs.List.{cons_option}
use Rattle.std.proofs.lemmas.Option.{slice_get_past}
use Rattle.rma_round.proofs.MemberLemmas.{none_there}
use Rattle.rma_round.proofs.meet.push_member.Goals as goal

pub returns-in-None : goal.returns-in-None
returns-in-None c =
    let row = c.args.row in
    sym (append-nil c.args.members.now)
    ∙ ap (λ o. c.args.members.now ++ cons_option o []) (sym (none_there c.args.place row.rank.0 row.numbers.now (slice_get_past row.numbers.now c.args.place c.in-None.ensures.lookup.3)))
