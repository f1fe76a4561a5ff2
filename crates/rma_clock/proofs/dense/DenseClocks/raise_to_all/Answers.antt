use Rattle.std.proofs.Common.{◌≡◌, ◌+◌, take, sym, subst, ◌∙◌, arith}
use Rattle.std.proofs.lemmas.List.{take_more, take_all}
use Rattle.rma_base.specs.declared.point.Point.{Point}
use Rattle.rma_link.specs.declared.meet.Member.{Member}
use Rattle.rma_link.specs.Order.{IsAtOrBefore}
use Rattle.rma_clock.specs.inside.Before.{IsBeforeMember, IsRaised}
use Rattle.rma_clock.specs.inside.Dense.{IsDense}
use Rattle.rma_clock.proofs.MeetLemmas.{one_member}
use Rattle.rma_clock.proofs.dense.DenseClocks.raise_to_all.Goals as goal

pub loop-member-preserved : goal.loop-member-preserved
loop-member-preserved c = record {
  size = c.raise_to.ensures.size ∙ c.loop-member.invariant.size;
  raised = λ links dense.
      let members = c.args.calls.now in
      let k = c.loop-member.member-index in
      let d : Member = record { rank = record { 0 = 0 }; call = 0 } in
      let E : Point → Type 0 = λ e. IsRaised (λ p. IsAtOrBefore links p e) c.loop-member.row c.raise_to.new.row in
      one_member links (take k members) (take (k + 1) members) _ _ c.loop-member.row c.raise_to.new.row (take_more members k d c.loop-member-test.true) (c.loop-member.invariant.raised links dense)
      (subst E c.entry.ensures (c.raise_to.ensures.raised links (subst (λ n. IsDense n links c.args.self.now.rows.items) (sym c.loop-member.invariant.size) dense)));
}

pub returns : goal.returns
returns c links dense =
    let members = c.args.calls.now in
    let all : take c.loop-member.member-index members ≡ members = take_all c.loop-member.member-index members (omega arith) in
    subst (λ xs. IsRaised (IsBeforeMember links xs) c.args.row.now c.loop-member.row) all (c.loop-member.invariant.raised links dense)
