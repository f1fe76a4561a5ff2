use Rattle.std.proofs.Common.{◌≡◌, ◌+◌, ◌-◌, sym, subst, arith}
use Rattle.std.proofs.lemmas.Option.{get_or_from_slice_get, slice_get_within}
use Rattle.rma_dyn.specs.inside.Search.{IsCover}
use Rattle.rma_dyn.specs.inside.Sorted.{IsInSpace}
use Rattle.rma_dyn.proofs.CoverLemmas.{bounded, found, none_from, passed, up_to}
use Rattle.rma_dyn.proofs.search.cover_of.Goals as goal

pub back-init : goal.back-init
back-init c = record {
  to = omega arith;
  known = none_from c.args.access.now c.args.owner c.args.bound c.bounds_of-low.result.0 c.bounds_of-low.result.1 c.requires.window c.requires.memory (bounded c.access.view_is c.bounds_of-low.ensures) c.args.list.now c.requires.in_space
      c.behind_of-behind.result c.behind_of-behind.ensures.after;
}

pub next_behind-behind-requires-clause-up_to : goal.next_behind-behind-requires-clause-up_to
next_behind-behind-requires-clause-up_to c = λ own at.
    let to = c.back.invariant.to in
    let some = c.back-test.true in
    up_to c.args.owner c.bounds_of-low.result.0 c.args.bound own (c.behind_of-behind.ensures.before (c.back.behind - 1) own (omega arith) at)

pub returns-then-is_kept : goal.returns-then-is_kept
returns-then-is_kept c =
    let list = c.args.list.now in
    let a = c.args.access.now in
    let some = c.back-test.true in
    let index = c.back.behind - 1 in
    let e : c.back.behind ≡ index + 1 = omega arith in
    let known = c.with_element-cover.ensures (subst (λ from. IsCover list a c.args.bound c.args.freed from c.back.cover) e c.back.invariant.known) in
    let kept = c.is_kept.ensures c.if-is_kept.true in
    subst (IsCover list a c.args.bound c.args.freed 0) (sym kept) (subst (IsCover list a c.args.bound c.args.freed index) kept known)

pub back-preserved : goal.back-preserved
back-preserved c =
    let list = c.args.list.now in
    let a = c.args.access.now in
    let to = c.back.invariant.to in
    let some = c.back-test.true in
    let index = c.back.behind - 1 in
    let next = c.next_behind-behind.result in
    let le = c.next_behind-behind.ensures.bound in
    let e : c.back.behind ≡ index + 1 = omega arith in
    let known = c.with_element-cover.ensures (subst (λ from. IsCover list a c.args.bound c.args.freed from c.back.cover) e c.back.invariant.known) in
    record {
      to = omega arith;
      known = passed list a c.args.bound c.args.freed c.with_element-cover.result next index
          (λ k g from below at holds.
          let it = found a c.args.owner c.args.bound c.bounds_of-low.result.0 c.bounds_of-low.result.1 c.requires.window c.requires.memory (bounded c.access.view_is c.bounds_of-low.ensures) g
          (subst IsInSpace (get_or_from_slice_get list k g g at) (c.requires.in_space k g (slice_get_within list k g at))) holds in
          c.next_behind-behind.ensures.none k g from below at it.0 it.1 it.2 it.4)
          known;
    }

pub returns : goal.returns
returns c =
    let end : c.back.behind ≡ 0 = let no = c.back-test.false in omega arith in
    subst (λ from. IsCover c.args.list.now c.args.access.now c.args.bound c.args.freed from c.back.cover) end c.back.invariant.known
