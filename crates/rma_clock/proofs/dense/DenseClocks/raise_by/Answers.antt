use Rattle.std.proofs.Common.{◌≡◌, length, get_or, Some, refl, sym, subst}
use Rattle.std.specs.Prelude.{slice_get, Contains}
use Rattle.std.proofs.lemmas.List.Elements.{Contains-get_or}
use Rattle.std.proofs.lemmas.Option.{slice_get_read}
use Rattle.rma_link.specs.Point.{entry}
use Rattle.rma_walk.specs.declared.source.Source.TheVariants.{Meet}
use Rattle.rma_clock.specs.inside.Before.{IsBeforeSource, IsBeforeMember, IsRaised}
use Rattle.rma_clock.specs.inside.Dense.{IsHeldSource}
use Rattle.rma_clock.proofs.RowLemmas.{raised_as}
use Rattle.rma_clock.proofs.MeetLemmas.{to_member, from_member}
use Rattle.rma_clock.proofs.BuilderLemmas.{raised_by_entry}
use Rattle.rma_clock.proofs.dense.DenseClocks.raise_by.Goals as goal

pub raise_to_all-requires-clause-held : goal.raise_to_all-requires-clause-held
raise_to_all-requires-clause-held c k d lt =
    let links = c.args.links.now in
    let index = c.in-Meet.index in
    let held = subst (IsHeldSource links c.args.self.now.rows.items) c.in-Meet.is c.requires.held in
    let there : slice_get links.meets index ≡ Some c.get.result.now = slice_get_read links.meets (length links.meets) index c.get.result.now refl held.0 c.get.ensures in
    let member = get_or c.as_slice.result.now k d in
    held.1 (entry member.rank member.call) (c.get.result.now, there, (member, subst (λ xs. Contains xs member) c.as_slice.ensures (Contains-get_or c.as_slice.result.now k d lt), refl))

pub returns-in-Entry : goal.returns-in-Entry
returns-in-Entry c =
    let links = c.args.links.now in
    subst (λ s. IsRaised (IsBeforeSource links s) c.args.row.now c.raise_to.new.row) (sym c.in-Entry.is)
    (raised_by_entry links c.in-Entry.point c.args.row.now c.raise_to.new.row (c.raise_to.ensures.raised links c.requires.rows))

pub returns-in-Meet : goal.returns-in-Meet
returns-in-Meet c =
    let links = c.args.links.now in
    let index = c.in-Meet.index in
    let members = c.as_slice.result.now in
    let held = subst (IsHeldSource links c.args.self.now.rows.items) c.in-Meet.is c.requires.held in
    let there : slice_get links.meets index ≡ Some c.get.result.now = slice_get_read links.meets (length links.meets) index c.get.result.now refl held.0 c.get.ensures in
    subst (λ s. IsRaised (IsBeforeSource links s) c.args.row.now c.raise_to_all.new.row) (sym c.in-Meet.is)
    (raised_as (IsBeforeMember links members) (IsBeforeSource links (Meet index)) c.args.row.now c.raise_to_all.new.row (c.raise_to_all.ensures links c.requires.rows)
    (to_member links index c.get.result.now members there c.as_slice.ensures)
    (from_member links index c.get.result.now members there c.as_slice.ensures))
