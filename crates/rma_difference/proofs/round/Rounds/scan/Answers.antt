use Rattle.std.proofs.Common.{◌≡◌, ◌++◌, [], List, ℕ, Some, None, cond, nat_eq, sym, ap, subst, ◌∙◌}
use Rattle.std.specs.Option.{option_copied, option_and_then}
use Rattle.std.specs.List.{cons_option}
use Rattle.std.specs.Cmp.Lexicographic.{pointwise}
use Rattle.rma_call.specs.Call.{call_of, what_of}
use Rattle.rma_round.specs.declared.kind.Kind.{Kind}
use Rattle.rma_agreement.specs.declared.first.First.{First}
use Rattle.rma_round.specs.Kind.{named}
use Rattle.rma_agreement.specs.Collective.{place_of}
use Rattle.rma_difference.specs.inside.CallCount.{number_in}
use Rattle.rma_agreement.specs.Round.{differs, own_of}
use Rattle.rma_difference.specs.inside.Round.{joined, rounds_of, first_at}
use Rattle.rma_difference.proofs.RoundLemmas.{AreRounds_none, HaveJoined_more, name_rounds_are}
use Rattle.rma_difference.proofs.round.Rounds.scan.Goals as goal

pub returns-in_default : goal.returns-in_default
returns-in_default c = λ kind done own before at rank place are.
    let what = what_of c.args.call.what in
    let none : named kind what ≡ None = ap (λ k. named k what) (sym are.kind_is) ∙ sym c.named.ensures ∙ ap option_copied c.in_default.is in
    AreRounds_none kind done own before (call_of c.args.call) c.args.index c.args.self.now at none are

pub returns : goal.returns
returns c = λ kind done own before at rank place are.
    let call = call_of c.args.call in
    let index = c.args.index in
    let name = c.in-Some.name.now in
    let old = c.args.self.now.names.entries in
    let new = c.join.new.self.names.entries in
    let faults = c.args.self.now.faults in
    let more = c.join.new.self.faults in
    let on : named kind call.what ≡ Some name = ap (λ k. named k call.what) (sym are.kind_is) ∙ sym c.named.ensures ∙ ap option_copied c.in-Some.is in
    let first : c.in_ok-own.own ≡ own_of own.rank (place_of before call.what) call =
    c.in_ok-own.ensures ∙ ap (λ r. own_of r c.args.place call) (sym rank) ∙ ap (λ n. own_of own.rank n call) place in
    let P : Kind → First → Type 0 = λ k f.
    ((other : List ℕ) → rounds_of new other ≡ cond (pointwise nat_eq name other) (joined (rounds_of old name) index f) (rounds_of old other))
    × (more ≡ faults ++ cons_option (option_and_then (λ first. differs k first f) (first_at old name (number_in (rounds_of old name).call_counts index))) []) in
    let told : P c.args.self.now.kind c.in_ok-own.own = (c.in_ok-join.ensures.joined, c.in_ok-join.ensures.faults) in
    let both : P kind (own_of own.rank (place_of before call.what) call) = subst (λ k. P k (own_of own.rank (place_of before call.what) call)) are.kind_is
    (subst (P c.args.self.now.kind) first told) in
    record {
      kind_is = c.in_ok-join.ensures.kind ∙ are.kind_is;
      have_joined = HaveJoined_more kind done own before call index name old new at on both.0 are.rounds_are faults more are.have_joined both.1;
      rounds_are = name_rounds_are kind done own before call index name old new at on both.0 are.rounds_are;
    }
