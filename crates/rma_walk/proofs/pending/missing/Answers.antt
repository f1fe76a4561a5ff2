use Rattle.std.proofs.Common.{◌≡◌, ◌<◌, Some, length, sym, subst, refl, arith}
use Rattle.std.specs.Prelude.{slice_index_or, slice_get, Contains}
use Rattle.std.proofs.lemmas.Option.{slice_get_read}
use Rattle.std.proofs.lemmas.List.Elements.{Contains-get_or}
use Rattle.rma_link.specs.declared.meet.Member.{Member}
use Rattle.rma_link.specs.Point.{entry}
use Rattle.rma_walk.specs.declared.source.Source.{Source}
use Rattle.rma_walk.specs.inside.Pending.{IsSource, IsMissing}
use Rattle.rma_walk.proofs.PendingLemmas.{no_member}
use Rattle.rma_walk.proofs.pending.missing.Goals as goal

pub returns-else-first-members-clause-some : goal.returns-else-first-members-clause-some
returns-else-first-members-clause-some c =
    let links = c.args.links.now in
    let next = c.args.next.now in
    let members = c.as_slice-members.result.now in
    let first = c.first_missing-first.result in
    let m : Member = slice_index_or members first no_member in
    let within : first < length members = (let le = c.first_missing-first.ensures.within in let differs = c.if-first-members.false in omega arith) in
    let at : slice_get links.meets c.in-Meet.index ≡ Some c.get.result.now =
    slice_get_read links.meets (length links.meets) c.in-Meet.index c.get.result.now refl (let P : Source → Type 0 = λ s. IsSource (length next) links s in subst P c.in-Meet.is c.requires.source) c.get.ensures in
    let has : Contains c.get.result.now.calls m = subst (λ ms. Contains ms m) c.as_slice-members.ensures (Contains-get_or members first no_member within) in
    let P : Source → Type 0 = λ s. IsMissing links next s m.rank.0 in
    subst P (sym c.in-Meet.is) (entry m.rank m.call, refl, (c.get.result.now, at, (m, has, refl)), c.first_missing-first.ensures.missing within no_member)
