use Rattle.std.proofs.Common.{sym, subst}
use Rattle.rma_round.specs.declared.kind.Kind.{Kind}
use Rattle.rma_round.specs.declared.kind.Kind.TheVariants as kind
use Rattle.rma_round.specs.declared.own_calls.OwnCalls.{OwnCalls}
use Rattle.rma_round.specs.declared.own_calls.Place.TheVariants.{Nowhere, Collective, Free, Fence, Moving}
use Rattle.rma_round.specs.inside.Lists.{lists_in, index_in, IsPushed}
use Rattle.rma_round.proofs.KeptLemmas.{OnOk_map}
use Rattle.rma_round.proofs.OwnLemmas.{each_kind, nothing_pushed}
use Rattle.rma_round.proofs.own_calls.OwnCalls.push_at.Goals as goal

pub returns-in-Nowhere : goal.returns-in-Nowhere
returns-in-Nowhere c =
    let old = c.args.self.now in
    let number = c.args.number in
    subst (λ p. (k : Kind) → IsPushed k (index_in k p) number (lists_in k old) (lists_in k old)) (sym c.in-Nowhere.is)
    (each_kind (λ k. IsPushed k (index_in k Nowhere) number (lists_in k old) (lists_in k old))
    (nothing_pushed kind.Collective number old.collectives.entries) (nothing_pushed kind.Free number old.frees.entries) (nothing_pushed kind.Fence number old.fences.entries) (nothing_pushed kind.Moving number old.movings.entries))

pub returns-in-Collective : goal.returns-in-Collective
returns-in-Collective c =
    let old = c.args.self.now in
    let number = c.args.number in
    let new : OwnCalls = record old { collectives = c.push_there.new.lists } in
    OnOk_map c.push_there.result
    (λ pushed. subst (λ p. (k : Kind) → IsPushed k (index_in k p) number (lists_in k old) (lists_in k new)) (sym c.in-Collective.is)
    (each_kind (λ k. IsPushed k (index_in k (Collective c.in-Collective.place)) number (lists_in k old) (lists_in k new))
    (pushed kind.Collective) (nothing_pushed kind.Free number old.frees.entries) (nothing_pushed kind.Fence number old.fences.entries) (nothing_pushed kind.Moving number old.movings.entries)))
    c.push_there.ensures

pub returns-in-Free : goal.returns-in-Free
returns-in-Free c =
    let old = c.args.self.now in
    let number = c.args.number in
    let new : OwnCalls = record old { frees = c.push_there-in-Free.new.lists } in
    OnOk_map c.push_there-in-Free.result
    (λ pushed. subst (λ p. (k : Kind) → IsPushed k (index_in k p) number (lists_in k old) (lists_in k new)) (sym c.in-Free.is)
    (each_kind (λ k. IsPushed k (index_in k (Free c.in-Free.place)) number (lists_in k old) (lists_in k new))
    (nothing_pushed kind.Collective number old.collectives.entries) (pushed kind.Free) (nothing_pushed kind.Fence number old.fences.entries) (nothing_pushed kind.Moving number old.movings.entries)))
    c.push_there-in-Free.ensures

pub returns-in-Fence : goal.returns-in-Fence
returns-in-Fence c =
    let old = c.args.self.now in
    let number = c.args.number in
    let new : OwnCalls = record old { fences = c.push_there-in-Fence.new.lists } in
    OnOk_map c.push_there-in-Fence.result
    (λ pushed. subst (λ p. (k : Kind) → IsPushed k (index_in k p) number (lists_in k old) (lists_in k new)) (sym c.in-Fence.is)
    (each_kind (λ k. IsPushed k (index_in k (Fence c.in-Fence.place)) number (lists_in k old) (lists_in k new))
    (nothing_pushed kind.Collective number old.collectives.entries) (nothing_pushed kind.Free number old.frees.entries) (pushed kind.Fence) (nothing_pushed kind.Moving number old.movings.entries)))
    c.push_there-in-Fence.ensures

pub returns-in-Moving : goal.returns-in-Moving
returns-in-Moving c =
    let old = c.args.self.now in
    let number = c.args.number in
    let new : OwnCalls = record old { movings = c.push_there-in-Moving.new.lists } in
    OnOk_map c.push_there-in-Moving.result
    (λ pushed. subst (λ p. (k : Kind) → IsPushed k (index_in k p) number (lists_in k old) (lists_in k new)) (sym c.in-Moving.is)
    (each_kind (λ k. IsPushed k (index_in k (Moving c.in-Moving.place)) number (lists_in k old) (lists_in k new))
    (nothing_pushed kind.Collective number old.collectives.entries) (nothing_pushed kind.Free number old.frees.entries) (nothing_pushed kind.Fence number old.fences.entries) (pushed kind.Moving)))
    c.push_there-in-Moving.ensures
