-- What a search for the attaches that hold an access comes to.
use Rattle.std.proofs.Common.{◌≡◌, ◌<◌, ◌≤◌, ◌↔◌, inl, inr, ℕ, List, Some, sym, ap, subst, ◌∙◌, arith, ⊎_elim}
use Rattle.std.specs.Prelude.{Contains}
use Rattle.std.proofs.lemmas.Bool.{cases_lt}
use Rattle.std.proofs.lemmas.Option.{none-some, same_Some}
use Rattle.rma_base.specs.declared.rank.Rank.{Rank}
use Rattle.rma_link.specs.declared.links.Links.{Links}
use Rattle.rma_link.specs.Point.{entry, return_of}
use Rattle.rma_link.specs.Order.{IsAtOrBefore}
use Rattle.rma_window.specs.Windows.{Window}
use Rattle.rma_rules.specs.Access.{Access}
use Rattle.rma_concurrent.proofs.ListLemmas.{place_of}
use Rattle.rma_dyn.specs.declared.change.Change.{Change}
use Rattle.rma_dyn.specs.declared.fault.RegionFault.{RegionFault}
use Rattle.rma_dyn.specs.declared.reason.RegionReason.TheVariants.{DetachUnordered}
use Rattle.rma_dyn.specs.declared.search.Cover.{Cover}
use Rattle.rma_dyn.specs.declared.search.Cover.TheVariants.{Nothing, Kept, Gone}
use Rattle.rma_dyn.specs.Fault.{IsAtAccess}
use Rattle.rma_dyn.specs.Region.{Covers, IsDetachOf, IsThroughDynamic, MayBeGone}
use Rattle.rma_dyn.specs.inside.Reached.{IsDoneAt}
use Rattle.rma_dyn.specs.inside.Run.{fault_by}
use Rattle.rma_dyn.specs.inside.Search.{Holds, IsCover, IsGone}
use Rattle.rma_dyn.specs.inside.Sorted.{AreOnce}

module _ (links : Links) (windows : List Window) (list : List Change) (once : AreOnce list) (a : Access) (count bound freed : ℕ)
    (within : (c : Change) → Contains list c → c.rank ≡ a.memory → c.call < count)
    (left : (call : ℕ) → call < count → (call < bound) ↔ IsAtOrBefore links (return_of a.memory call) (entry a.name.rank a.call))
    (late : (call : ℕ) → call < count → (freed ≤ call) ↔ IsDoneAt links a (entry a.memory call)) where
  -- ---- the numbers say what the order does

  to_holds : (g : Change) → Covers links list a g → Holds a bound g
  to_holds g covers = record {
    all = covers.holds;
    before = (left g.call (within g covers.there (sym covers.holds.memory))).1 (subst (λ (r : Rank). IsAtOrBefore links (return_of r g.call) (entry a.name.rank a.call)) (sym covers.holds.memory) covers.before);
  }

  to_covers : (g : Change) → Contains list g → Holds a bound g → Covers links list a g
  to_covers g there holds = record {
    there = there;
    holds = holds.all;
    before = subst (λ (r : Rank). IsAtOrBefore links (return_of r g.call) (entry a.name.rank a.call)) holds.all.memory ((left g.call (within g there (sym holds.all.memory))).0 holds.before);
  }

  -- a detach of an attach of this rank is of it
  own : (g h : Change) → Holds a bound g → IsDetachOf list g h → h.rank ≡ a.memory
  own g h holds of = sym of.same.beside.rank ∙ sym holds.all.memory

  to_may_be : (g : Change) → Holds a bound g → IsGone list freed g → MayBeGone links list a g
  to_may_be g holds gone =
      let h = gone.detach in
      let rank = own g h holds gone.of in
      record {
        detach = h;
        of = gone.of;
        not_done = λ done.
            let ge = (late h.call (within h gone.of.there rank)).1 (done.0, done.1, subst (λ (r : Rank). IsAtOrBefore links done.0 (entry r h.call)) rank done.2) in
            let early = gone.early in
            omega arith;
      }

  to_gone : (g : Change) → Holds a bound g → MayBeGone links list a g → IsGone list freed g
  to_gone g holds may =
      let h = may.detach in
      let rank = own g h holds may.of in
      record {
        detach = h;
        of = may.of;
        early = ⊎_elim (λ (lt : h.call < freed). lt)
            (λ (ge : freed ≤ h.call).
            let done = (late h.call (within h may.of.there rank)).0 ge in
            absurd (may.not_done (done.0, done.1, subst (λ (r : Rank). IsAtOrBefore links done.0 (entry r h.call)) (sym rank) done.2)))
            (cases_lt h.call freed);
      }

  one_detach : (g h other : Change) → IsDetachOf list g h → IsDetachOf list g other → h ≡ other
  one_detach g h other first second =
      let le = first.first other second.there second.same second.later in
      let ge = second.first h first.there first.same first.later in
      once h other first.there second.there (sym first.same.beside.rank ∙ second.same.beside.rank) (omega arith)

  -- ---- the answer

  pub answer : (cover : Cover) → IsCover list a bound freed 0 cover → IsThroughDynamic windows a → (fault : RegionFault) → (fault_by a.name cover ≡ Some fault) ↔ IsAtAccess links windows list a fault
  answer Nothing known through fault = (
    λ is. inl (record { through = through; none = λ g covers. let place = place_of list g covers.there in known place.0 g (omega arith) place.1 (to_holds g covers); is = sym (same_Some _ fault is) }),
    λ at. ⊎_elim (λ found. ap Some (sym found.is)) (λ found. let place = place_of list found.last found.covers.there in absurd (known place.0 found.last (omega arith) place.1 (to_holds found.last found.covers))) at,
  )
  answer Kept known through fault = (
    λ is. absurd (none-some fault is),
    λ at.
        let covers = to_covers known.0 known.1 known.2 in
        ⊎_elim (λ found. absurd (found.none known.0 covers)) (λ found. absurd (known.3 (to_gone known.0 known.2 (found.each known.0 covers)))) at,
  )
  answer (Gone last detach) known through fault = (
    λ is.
        inr
        (record {
          through = through;
          last = last;
          covers = to_covers last known.there known.holds;
          is_last = λ g covers. let place = place_of list g covers.there in known.is_last place.0 g (omega arith) place.1 (to_holds g covers);
          detach = detach;
          of_last = known.detach_of;
          each = λ g covers. let place = place_of list g covers.there in let holds = to_holds g covers in to_may_be g holds (known.each place.0 g (omega arith) place.1 holds);
          is = sym (same_Some _ fault is);
        }),
    λ at.
        let covers = to_covers last known.there known.holds in
        ⊎_elim (λ found. absurd (found.none last covers))
        (λ found.
        let holds = to_holds found.last found.covers in
        let place = place_of list found.last found.covers.there in
        let le = known.is_last place.0 found.last (omega arith) place.1 holds in
        let ge = found.is_last last covers in
        let same = once found.last last found.covers.there known.there (sym holds.all.memory ∙ known.holds.all.memory) (omega arith) in
        let detaches = one_detach last detach found.detach known.detach_of (subst (λ (g : Change). IsDetachOf list g found.detach) same found.of_last) in
        ap (λ (h : Change). Some (record { reason = DetachUnordered; rank = a.name.rank; line = a.name.line; other = Some (h.rank, h.line) })) detaches ∙ ap Some (sym found.is))
        at,
  )
