use Rattle.std.proofs.Common.{◌≡◌, Bool, true, List, Result, Ok, Err}
use Rattle.std.specs.Result.{IfOk}
use Rattle.std.proofs.lemmas.Result.{IfOk-weaker}
use Rattle.rma_call.specs.Call.{RankCalls}
use Rattle.rma_round.specs.declared.kind.Kind.{Kind}
use Rattle.rma_round.specs.declared.kind.Kind.TheVariants.{Collective, Free, Fence, Moving}
use Rattle.rma_agreement.specs.inside.Agreement.{IsRegular}
use Rattle.rma_agreement.proofs.KindLemmas.{of_every_kind}
use Rattle.rma_agreement.proofs.AgreementLemmas.{none_differ}
use Rattle.rma_agreement.proofs.agreement.are_regular.Goals as goal

-- what is regular of four kinds is regular of every kind
every_kind : {E : Type 0} (ranks : List RankCalls) (r : Result Bool E) → IfOk r (λ told. told ≡ true → IsRegular Collective ranks) → IfOk r (λ told. told ≡ true → IsRegular Free ranks) →
    IfOk r (λ told. told ≡ true → IsRegular Fence ranks) → IfOk r (λ told. told ≡ true → IsRegular Moving ranks) → IfOk r (λ told. told ≡ true → (kind : Kind) → IsRegular kind ranks)
every_kind ranks (Ok told) collectives frees fences movings = λ is. of_every_kind (λ kind. IsRegular kind ranks) (collectives is) (frees is) (fences is) (movings is)
every_kind ranks (Err e) collectives frees fences movings = tt

regular : (c : goal.After-each_is_regular) → IfOk c.each_is_regular.result (λ told. told ≡ true → (kind : Kind) → IsRegular kind c.args.ranks.now)
regular c =
    let each = c.each_is_regular.ensures in
    every_kind c.args.ranks.now c.each_is_regular.result each.collectives each.frees each.fences each.movings

pub returns-clause-balanced : goal.returns-clause-balanced
returns-clause-balanced c = IfOk-weaker c.each_is_regular.result _ _ (λ told all is kind. (all is kind).balanced) (regular c)

pub returns-clause-agree : goal.returns-clause-agree
returns-clause-agree c =
    IfOk-weaker c.each_is_regular.result _ _ (λ told all is kind. none_differ kind c.args.ranks.now c.requires.run.in_order (all is kind).agree) (regular c)
