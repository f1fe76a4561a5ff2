use Rattle.std.proofs.Common.{◌≡◌, ◌-◌, ◌<◌, ◌≤◌, length, slice_get, sym, subst, ap, ◌∙◌, arith, ⊎_elim}
use Rattle.std.proofs.lemmas.Bool.{cases_lt}
use Rattle.std.proofs.lemmas.Option.{same_Some, slice_get-get_or}
use Rattle.rma_concurrent.proofs.ListLemmas.{place_of}
use Rattle.rma_dyn.specs.declared.change.Change.{Change}
use Rattle.rma_dyn.specs.Region.{IsLiveAt}
use Rattle.rma_dyn.proofs.LiveLemmas.{none_before, none_live_from}
use Rattle.rma_dyn.proofs.live.is_known.Goals as goal

pub back-init : goal.back-init
back-init c = record {
  to = omega arith;
  none = λ k g le at same live. none_live_from c.args.list.now c.args.detach.now k g (c.behind_of-behind.ensures.after k g le at) same live;
}

pub is_live-requires-clause-place : goal.is_live-requires-clause-place
is_live-requires-clause-place c =
    let some = c.back-test.true in
    let to = c.back.invariant.to in
    let bound = c.behind_of-behind.ensures.bound in
    slice_get-get_or c.args.list.now (c.back.behind - 1) _ (omega arith)

pub returns-then-not-is_at_same : goal.returns-then-not-is_at_same
returns-then-not-is_at_same c =
    let list = c.args.list.now in
    let d = c.args.detach.now in
    let index = c.back.behind - 1 in
    let some = c.back-test.true in
    let to = c.back.invariant.to in
    let bound = c.behind_of-behind.ensures.bound in
    let within : index < length list = omega arith in
    let at = slice_get-get_or list index _ within in (
      λ no. absurd (let never : ⊥ = cc in never),
      λ known.
          let place = place_of list known.0 known.1 in
          absurd
          (⊎_elim
          (λ (lt : place.0 < c.back.behind).
          none_before list d c.requires.rise index _ at (c.behind_of-behind.ensures.before index _ (omega arith) at) (λ same. let told = c.is_at_same.ensures.1 same in let no = c.if-not-is_at_same.true in cc) place.0 known.0 (omega arith) place.1 known.2)
          (λ (le : c.back.behind ≤ place.0). c.back.invariant.none place.0 known.0 le place.1 known.2 known.3) (cases_lt place.0 c.back.behind)),
    )

pub back-preserved : goal.back-preserved
back-preserved c =
    let list = c.args.list.now in
    let d = c.args.detach.now in
    let index = c.back.behind - 1 in
    let some = c.back-test.true in
    let to = c.back.invariant.to in
    let bound = c.behind_of-behind.ensures.bound in
    let within : index < length list = omega arith in
    record {
      to = omega arith;
      none = λ k g le there same live.
          ⊎_elim
          (λ (lt : k < c.back.behind).
          let e : k ≡ index = omega arith in
          let is = same_Some g _ (sym there ∙ ap (λ n. slice_get list n) e ∙ slice_get-get_or list index _ within) in
          let told = c.is_live.ensures.1 (subst (λ (x : Change). IsLiveAt list x d.call) is live) in
          let no = c.if-is_live.false in
          absurd (let never : ⊥ = cc in never))
          (λ (ge : c.back.behind ≤ k). c.back.invariant.none k g ge there same live) (cases_lt k c.back.behind);
    }

pub returns : goal.returns
returns c =
    let list = c.args.list.now in
    let end = c.back-test.false in
    (λ no. absurd (let never : ⊥ = cc in never), λ known. let place = place_of list known.0 known.1 in absurd (c.back.invariant.none place.0 known.0 (omega arith) place.1 known.2 known.3))
