use Rattle.std.proofs.Common.{◌≡◌, ℕ, List, true, nat_le, sym, subst}
use Rattle.std.specs.List.{list_all}
use Rattle.std.specs.Map.Iter.{deref_pair}
use Rattle.std.proofs.lemmas.Map.Iter.{rest_more, rest_all}
use Rattle.std.proofs.Common.{◌∙◌}
use Rattle.rma_difference.specs.declared.round.NameRounds.{NameRounds}
use Rattle.rma_difference.proofs.BalanceLemmas.{AllBalanced, IsBalancedIn, AreBalanced_found}
use Rattle.rma_difference.proofs.round.Rounds.are_balanced.Goals as goal

pub loop-name-init : goal.loop-name-init
loop-name-init c = λ ranks members all.
    subst (AllBalanced c.args.self.now.kind ranks) (c.into_iter-name-iterator.ensures.into_iter_gives ∙ c.iter-name-items.ensures.rest) all

pub loop-name-preserved : goal.loop-name-preserved
loop-name-preserved c = λ ranks members all.
    let kind = c.args.self.now.kind in
    let P : List (List ℕ × NameRounds) → Type 0 = AllBalanced kind ranks in
    let t = c.in-Some.name_rounds.now.call_counts in
    let balanced : IsBalancedIn kind ranks c.in-Some.name.now t = λ f index is.
    subst (λ ms. list_all (λ m. nat_le t.largest (f m)) ms ≡ true) (c.of.ensures ranks members) (c.is_balanced.ensures c.if-not-is_balanced.false f index is) in
    let step = rest_more deref_pair c.loop-name.name-iterator c.next.new.self c.next.result (c.in-Some.name, c.in-Some.name_rounds) c.in-Some.is c.next.ensures.steps in
    c.loop-name.invariant ranks members (subst P (sym step) (balanced, all))

pub returns : goal.returns
returns c = λ _ kind ranks index members are.
    let own = c.args.self.now.kind in
    let P : List (List ℕ × NameRounds) → Type 0 = AllBalanced own ranks in
    let end = rest_all deref_pair c.loop-name.name-iterator c.next.new.self c.next.result c.in-None.is c.next.ensures.steps in
    AreBalanced_found kind ranks index c.args.self.now.names.entries
    (subst (λ k. AllBalanced k ranks c.args.self.now.names.entries) are.kind_is (c.loop-name.invariant ranks members (subst P (sym end) tt)))
    (λ name. (are.rounds_are name).call_counts_are)
