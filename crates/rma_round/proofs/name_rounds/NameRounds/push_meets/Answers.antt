use Rattle.std.proofs.Common.{List, ℕ, ◌+◌, ◌++◌, ap, ◌∙◌}
use Rattle.std.specs.List.{filter_map}
use Rattle.rma_round.specs.inside.Rounds.{row_entries, rounds_in}
use Rattle.rma_round.specs.inside.Met.{member_in, met, from_round, turn_start}
use Rattle.rma_round.proofs.KeptLemmas.{OnOk_map}
use Rattle.rma_round.proofs.MemberLemmas.{members_are}
use Rattle.rma_round.proofs.name_rounds.NameRounds.push_meets.Goals as goal

pub returns-clause-meets : goal.returns-clause-meets
returns-clause-meets c =
    let ranks = c.args.ranks.now in
    let kept = c.args.self.now.ranks.entries in
    let before = c.args.links.now.meets in
    let turn = c.args.turn in
    let start = turn_start turn.of in
    OnOk_map c.push_rounds.result
    (λ is kind name are.
    is
    ∙ ap (λ (es : List (ℕ × List ℕ)). before ++ from_round (λ place. met ranks (filter_map (member_in place) es)) (start c.len.result turn.number) (start c.len.result (turn.number + 1)))
    (ap row_entries c.as_slice.ensures ∙ c.in_ok-rows.ensures.entries)
    ∙ ap (λ (rounds : ℕ). before ++ from_round (λ place. met ranks (filter_map (member_in place) kept)) (start rounds turn.number) (start rounds (turn.number + 1))) c.len.ensures.count
    ∙ (λ i. before ++ from_round (λ place. met ranks (members_are place kind name ranks kept c.requires.run.in_order c.rows.ensures.ordered are i)) (start (rounds_in c.args.self.now) turn.number) (start (rounds_in c.args.self.now) (turn.number + 1))))
    c.push_rounds.ensures.meets
