use Rattle.std.proofs.Common.{◌≤◌, ℕ, fold, length, max, sym, ap, subst, ◌∙◌}
use Rattle.std.specs.Map.Iter.{deref_pair}
use Rattle.std.proofs.lemmas.Map.Iter.{rest_all}
use Rattle.rma_round.specs.inside.Rounds.{calls_in}
use Rattle.rma_round.proofs.RowLemmas.{listed_within}
use Rattle.rma_round.proofs.name_rounds.NameRounds.len.Goals as goal

pub returns-clause-most : goal.returns-clause-most
returns-clause-most c = λ rank.
    let rounds = c.args.self.now in
    let most = c.loop-numbers.most in
    let end = rest_all deref_pair c.loop-numbers.numbers-iterator c.next.new.self c.next.result c.in-None.is c.next.ensures.steps in
    subst (λ (n : ℕ). length (calls_in rounds rank) ≤ n)
    (sym c.loop-numbers.invariant ∙ ap (fold (λ m entry. max m (length entry.1)) most) end) (listed_within rank rounds.ranks.entries 0)
