use Rattle.std.proofs.Common.{◌≡◌, ◌+◌, ◌-◌, refl, subst, arith}
use Rattle.rma_dyn.specs.inside.Overlap.{IsFirst}
use Rattle.rma_dyn.proofs.CoverLemmas.{up_to}
use Rattle.rma_dyn.proofs.OverlapLemmas.{none_from, passed}
use Rattle.rma_dyn.proofs.overlap.first_overlap.Goals as goal

pub back-init : goal.back-init
back-init c =
    let g = c.args.attach.now in
    record {
      to = omega arith;
      known = λ k x le at meets. none_from c.args.list.now g (record { rank = g.rank; window = g.window }) refl refl c.args.size c.requires.attaches k x (c.behind_of-behind.ensures.after k x le at) meets;
    }

pub next_overlap-behind-requires-clause-up_to : goal.next_overlap-behind-requires-clause-up_to
next_overlap-behind-requires-clause-up_to c = λ own at.
    let to = c.back.invariant.to in
    let some = c.back-test.true in
    let g = c.args.attach.now in
    up_to (record { rank = g.rank; window = g.window }) (g.address + c.args.size) 0 own (c.behind_of-behind.ensures.before (c.back.behind - 1) own (omega arith) at)

pub back-preserved : goal.back-preserved
back-preserved c =
    let list = c.args.list.now in
    let g = c.args.attach.now in
    let to = c.back.invariant.to in
    let some = c.back-test.true in
    let index = c.back.behind - 1 in
    let le = c.next_overlap-behind.ensures.bound in
    let e : c.back.behind ≡ index + 1 = omega arith in
    let known = c.with_element-first.ensures (subst (λ from. IsFirst list g from c.back.first) e c.back.invariant.known) in
    record { to = omega arith; known = passed list g c.with_element-first.result c.next_overlap-behind.result index (λ k x from below at meets. c.next_overlap-behind.ensures.none k x from below at meets) known }

pub returns : goal.returns
returns c =
    let end : c.back.behind ≡ 0 = let no = c.back-test.false in omega arith in
    subst (λ from. IsFirst c.args.list.now c.args.attach.now from c.back.first) end c.back.invariant.known
