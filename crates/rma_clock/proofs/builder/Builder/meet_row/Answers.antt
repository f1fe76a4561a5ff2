use Rattle.std.proofs.Common.{◌≡◌, ◌+◌, length, take, Some, refl, sym, ap, subst, ◌∙◌, arith}
use Rattle.std.specs.Prelude.{slice_get}
use Rattle.std.proofs.lemmas.List.{take_more, length-replicate, take_all}
use Rattle.std.proofs.lemmas.Option.{slice_get_read}
use Rattle.rma_base.specs.declared.point.Point.{Point}
use Rattle.rma_link.specs.declared.meet.Member.{Member}
use Rattle.rma_link.specs.Order.{IsAtOrBefore}
use Rattle.rma_clock.specs.inside.Before.{IsRaised}
use Rattle.rma_clock.specs.inside.Table.{IsBuilder, IsCaught}
use Rattle.rma_clock.proofs.MeetLemmas.{usable_member, one_member, row_of_members}
use Rattle.rma_clock.proofs.builder.Builder.meet_row.Goals as goal

pub entry-requires : goal.entry-requires
entry-requires c =
    let meets = c.args.self.now.links.now.meets in
    let there : slice_get meets c.args.index ≡ Some c.get.result.now = slice_get_read meets (length meets) c.args.index c.get.result.now refl c.requires.usable.0 c.get.ensures in
    let d : Member = record { rank = record { 0 = 0 }; call = 0 } in
    let pos = (usable_member _ _ _ c.args.index c.get.result.now c.as_slice-member-items.result.now there c.as_slice-member-items.ensures c.requires.usable c.loop-member.member-index d c.loop-member-test.true).2 in
    omega arith

pub raise_to-requires : goal.raise_to-requires
raise_to-requires c =
    let links = c.args.self.now.links.now in
    let meets = links.meets in
    let there : slice_get meets c.args.index ≡ Some c.get.result.now = slice_get_read meets (length meets) c.args.index c.get.result.now refl c.requires.usable.0 c.get.ensures in
    let d : Member = record { rank = record { 0 = 0 }; call = 0 } in
    let fine = usable_member _ _ _ c.args.index c.get.result.now c.as_slice-member-items.result.now there c.as_slice-member-items.ensures c.requires.usable c.loop-member.member-index d c.loop-member-test.true in
    let size : length c.loop-member.row ≡ length c.args.self.now.table.steps.items = c.loop-member.invariant.size ∙ length-replicate (length c.args.self.now.table.steps.items) 0 in
    let rank : c.entry.result.rank.0 ≡ _ = ap (λ (p : Point). p.rank.0) c.entry.ensures in
    let pos : c.entry.result.pos ≡ _ = ap (λ (p : Point). p.pos) c.entry.ensures in
    let rank_fits = fine.1 in
    let pos_fits = fine.2 in
    record {
      builder = subst (λ n. IsBuilder n links c.args.self.now) (sym size) c.requires.builder;
      caught = subst (IsCaught links c.args.self.now.table.steps.items) (sym c.entry.ensures) fine.0;
      rank = omega arith;
      pos = omega arith;
      possible = c.requires.possible;
    }

pub loop-member-preserved : goal.loop-member-preserved
loop-member-preserved c =
    let links = c.args.self.now.links.now in
    let members = c.as_slice-member-items.result.now in
    let k = c.loop-member.member-index in
    let d : Member = record { rank = record { 0 = 0 }; call = 0 } in
    let E : Point → Type 0 = λ e. IsRaised (λ p. IsAtOrBefore links p e) c.loop-member.row c.raise_to.new.row in
    one_member links (take k members) (take (k + 1) members) _ _ c.loop-member.row c.raise_to.new.row (take_more members k d c.loop-member-test.true) c.loop-member.invariant
    (subst E c.entry.ensures c.raise_to.ensures)

pub returns : goal.returns
returns c =
    let links = c.args.self.now.links.now in
    let meets = links.meets in
    let members = c.as_slice-member-items.result.now in
    let k = c.loop-member.member-index in
    let there : slice_get meets c.args.index ≡ Some c.get.result.now = slice_get_read meets (length meets) c.args.index c.get.result.now refl c.requires.usable.0 c.get.ensures in
    let all : take k members ≡ members = take_all k members (omega arith) in
    record {
      size = c.loop-member.invariant.size ∙ length-replicate (length c.args.self.now.table.steps.items) 0;
      row = row_of_members links c.args.index c.get.result.now (take k members) _ c.loop-member.row there (all ∙ c.as_slice-member-items.ensures) c.loop-member.invariant;
    }
