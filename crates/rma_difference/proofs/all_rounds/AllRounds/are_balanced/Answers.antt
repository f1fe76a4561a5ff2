use Rattle.std.proofs.Common.{◌≡◌, true}
use Rattle.rma_round.specs.declared.kind.Kind.{Kind}
use Rattle.rma_round.specs.declared.kind.Kind.TheVariants as kind
use Rattle.rma_agreement.specs.Balance.{AreBalanced}
use Rattle.rma_agreement.proofs.KindLemmas.{of_every_kind}
use Rattle.rma_difference.proofs.all_rounds.AllRounds.are_balanced.Goals.{then-are_balanced, else-are_balanced, then-are_balanced-2, else-are_balanced-2}
use Rattle.rma_difference.proofs.all_rounds.AllRounds.are_balanced.Goals as goal

pub returns-then-are_balanced-3 : goal.returns-then-are_balanced-3
returns-then-are_balanced-3 c = λ last ranks index members are.
    let movings = c.are_balanced-then-are_balanced-3.ensures last kind.Moving ranks index members are.movings_are in
    elim c.if-are_balanced-2.branch [
      | then-are_balanced-2 w ↦
          let third : w.are_balanced-then-are_balanced-2.result ≡ true = cc in
          let fences = w.are_balanced-then-are_balanced-2.ensures third kind.Fence ranks index members are.fences_are in
          elim c.if-are_balanced.branch [
            | then-are_balanced v ↦
                let second : v.are_balanced-then-are_balanced.result ≡ true = cc in
                let frees = v.are_balanced-then-are_balanced.ensures second kind.Free ranks index members are.frees_are in
                let collectives = c.are_balanced.ensures v.if-are_balanced.true kind.Collective ranks index members are.collectives_are in
                of_every_kind (λ (k : Kind). AreBalanced k ranks) collectives frees fences movings
            | else-are_balanced v ↦ let no : ⊥ = cc in absurd no
          ]
      | else-are_balanced-2 w ↦ let no : ⊥ = cc in absurd no
    ]
