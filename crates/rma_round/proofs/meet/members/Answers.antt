use Rattle.std.proofs.Common.{◌++◌, [], get_or, ap, ◌∙◌}
use Rattle.std.specs.List.{cons_option}
use Rattle.rma_round.specs.declared.name_rounds.RankRounds.{RankRounds}
use Rattle.rma_round.specs.inside.Rounds.{row_entry}
use Rattle.rma_round.specs.inside.Met.{member_in}
use Rattle.rma_round.proofs.MemberLemmas.{members_taken}
use Rattle.rma_round.proofs.meet.members.Goals as goal

pub loop-row-preserved : goal.loop-row-preserved
loop-row-preserved c =
    let none : RankRounds = record { rank = record { 0 = 0 }; numbers = record { ref_ptr = (0, 0); now = [] } } in
    let rows = c.args.rows.now in
    let i = c.loop-row.row-index in
    c.in_ok-push_member.ensures
    ∙ ap (λ l. l ++ cons_option (member_in c.args.place (row_entry (get_or rows i none))) []) c.loop-row.invariant
    ∙ members_taken c.args.place rows i none c.loop-row-test.true
