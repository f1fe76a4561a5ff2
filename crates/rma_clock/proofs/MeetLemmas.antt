-- Rows of meets.
use Rattle.std.proofs.Common.{◌≡◌, ℕ, ◌+◌, ◌*◌, ◌<◌, ◌^◌, List, [], ◌∷◌, ◌++◌, length, get_or, replicate, Some, refl, sym, ap, subst, ◌∙◌}
use Rattle.std.specs.Prelude.{slice_get, Contains}
use Rattle.std.proofs.lemmas.List.Elements.{Contains-get_or}
use Rattle.std.proofs.lemmas.Option.{same_Some}
use Rattle.rma_base.specs.declared.point.Point.{Point}
use Rattle.rma_link.specs.declared.meet.Member.{Member}
use Rattle.rma_link.specs.declared.meet.Meet as meet
use Rattle.rma_link.specs.declared.links.Links.{Links}
use Rattle.rma_link.specs.Point.{entry}
use Rattle.rma_link.specs.Order.{IsAtOrBefore}
use Rattle.rma_walk.specs.declared.source.Source.TheVariants.{Meet}
use Rattle.rma_walk.proofs.ListLemmas.{contains_none}
use Rattle.rma_clock.specs.inside.Before.{IsBeforeSource, IsBeforeMember, IsRow, IsRaised}
use Rattle.rma_clock.specs.declared.step.Step.{Step}
use Rattle.rma_clock.specs.inside.Table.{IsCaught, IsUsable}
use Rattle.rma_clock.proofs.RowLemmas.{raised_by_more, row_from_none, row_as, raised_by_nothing}

pub no_member : (links : Links) (row : List ℕ) → IsRaised (IsBeforeMember links []) row row
no_member links row = raised_by_nothing (IsBeforeMember links []) row (λ p some. contains_none some.0 some.1)

pub one_member : (links : Links) (some more : List Member) (m : Member) (none old new : List ℕ) → more ≡ some ++ m ∷ [] → IsRaised (IsBeforeMember links some) none old
    → IsRaised (λ p. IsAtOrBefore links p (entry m.rank m.call)) old new → IsRaised (IsBeforeMember links more) none new
one_member links some more m none old new is one two = raised_by_more (λ (t : Member) p. IsAtOrBefore links p (entry t.rank t.call)) some more m none old new is one two

-- the members of a meet are its entries
module _ (links : Links) (index : ℕ) (m : meet.Meet) (members : List Member) (there : slice_get links.meets index ≡ Some m) (is : members ≡ m.calls) (p : Point) where
  pub to_member : IsBeforeSource links (Meet index) p → IsBeforeMember links members p
  to_member found =
      let other = found.1.0 in
      let member = found.1.2.0 in
      let same : other ≡ m = same_Some other m (sym found.1.1 ∙ there) in
      let calls : other.calls ≡ members = ap (λ (t : meet.Meet). t.calls) same ∙ sym is in
      (member, subst (λ xs. Contains xs member) calls found.1.2.1, subst (IsAtOrBefore links p) found.1.2.2 found.2)

  pub from_member : IsBeforeMember links members p → IsBeforeSource links (Meet index) p
  from_member found = (entry found.0.rank found.0.call, (m, there, (found.0, subst (λ xs. Contains xs found.0) is found.1, refl)), found.2)

pub row_of_members : (links : Links) (index : ℕ) (m : meet.Meet) (members : List Member) (n : ℕ) (row : List ℕ) → slice_get links.meets index ≡ Some m → members ≡ m.calls
    → IsRaised (IsBeforeMember links members) (replicate n 0) row → IsRow (IsBeforeSource links (Meet index)) row
row_of_members links index m members n row there is raised =
    row_as (IsBeforeMember links members) (IsBeforeSource links (Meet index)) row (row_from_none (IsBeforeMember links members) n row raised)
    (to_member links index m members there is)
    (from_member links index m members there is)

-- the entries of a meet that is usable
pub usable_member : (ranks : ℕ) (links : Links) (steps : List (List Step)) (index : ℕ) (m : meet.Meet) (members : List Member) → slice_get links.meets index ≡ Some m → members ≡ m.calls → IsUsable ranks links steps (Meet index)
    → (k : ℕ) (d : Member) → k < length members → IsCaught links steps (entry (get_or members k d).rank (get_or members k d).call) × ((get_or members k d).rank.0 < ranks) × (2 * (get_or members k d).call + 1 < 2 ^ 32)
usable_member ranks links steps index m members there is usable k d lt =
    let member = get_or members k d in
    usable.1 (entry member.rank member.call) (m, there, (member, subst (λ xs. Contains xs member) is (Contains-get_or members k d lt), refl))
