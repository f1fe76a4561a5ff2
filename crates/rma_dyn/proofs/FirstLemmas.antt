-- The attaches of a run that meet a region.
use Rattle.std.proofs.Common.{◌≡◌, ◌↔◌, ℕ, List, Option, Some, None, sym, ap, ◌∙◌, arith}
use Rattle.std.specs.Prelude.{Contains}
use Rattle.std.specs.List.Sorted.{IsPermutation}
use Rattle.std.proofs.lemmas.Option.{none-some, same_Some, slice_get_within}
use Rattle.rma_concurrent.specs.inside.Places.{IsOf}
use Rattle.rma_concurrent.proofs.ListLemmas.{place_of}
use Rattle.rma_dyn.specs.declared.change.Change.{Change}
use Rattle.rma_dyn.specs.declared.fault.RegionFault.{RegionFault}
use Rattle.rma_dyn.specs.Fault.{IsAtAttach, IsOverlap}
use Rattle.rma_dyn.specs.Region.{IsDetachOf, IsLiveAt, Overlaps}
use Rattle.rma_dyn.specs.inside.Overlap.{IsFirst, overlap_by}
use Rattle.rma_dyn.specs.inside.Sorted.{AreOnce}
use Rattle.rma_dyn.proofs.KnownLemmas.{back, forth}

pub no_overlap : (list : List Change) (g : Change) → g.size ≡ None → (fault : RegionFault) → (None ≡ Some fault) ↔ IsOverlap list g fault
no_overlap list g none fault = (λ some. absurd (none-some fault some), λ found. absurd (none-some found.overlaps.size (sym none ∙ found.overlaps.attaches)))

pub first_fault : (list : List Change) → AreOnce list → (g : Change) → Contains list g → (first : Option Change) → IsFirst list g 0 first → (fault : RegionFault) → (overlap_by g first ≡ Some fault) ↔ IsOverlap list g fault
first_fault list once g there None known fault = (
  λ some. absurd (none-some fault some),
  λ found. let place = place_of list found.other found.overlaps.there in absurd (known place.0 found.other (omega arith) place.1 found.overlaps),
)
first_fault list once g there (Some first) known fault = (
  λ some.
      record {
        there = there;
        other = first;
        overlaps = known.0;
        first = λ earlier meets. let place = place_of list earlier meets.there in known.1 place.0 earlier (omega arith) place.1 meets;
        is = sym (same_Some _ fault some);
      },
  λ found.
      let place = place_of list found.other found.overlaps.there in
      let le = known.1 place.0 found.other (omega arith) place.1 found.overlaps in
      let ge = found.first first known.0 in
      let same = once first found.other known.0.there found.overlaps.there (known.0.beside.rank ∙ sym found.overlaps.beside.rank) (omega arith) in
      ap (λ (x : Change). overlap_by g (Some x)) same ∙ ap Some (sym found.is),
)

-- ---- all attaches of a run

module _ (list all : List Change) (same : IsPermutation all list) where
  detach_moved : (from to : List Change) → ((c : Change) → Contains from c → Contains to c) → ((c : Change) → Contains to c → Contains from c) → (g h : Change) → IsDetachOf from g h → IsDetachOf to g h
  detach_moved from to there rest g h of = record { there = there h of.there; detaches = of.detaches; same = of.same; later = of.later; first = λ c has. of.first c (rest c has) }

  live_moved : (from to : List Change) → ((c : Change) → Contains from c → Contains to c) → ((c : Change) → Contains to c → Contains from c) → (g : Change) (number : ℕ) → IsLiveAt from g number → IsLiveAt to g number
  live_moved from to there rest g number live = record { size = live.size; attaches = live.attaches; before = live.before; still = λ h of. live.still h (detach_moved to from rest there g h of) }

  overlaps_moved : (from to : List Change) → ((c : Change) → Contains from c → Contains to c) → ((c : Change) → Contains to c → Contains from c) → (g x : Change) → Overlaps from g x → Overlaps to g x
  unfolding live_moved
  overlaps_moved from to there rest g x meets = record {
    there = there x meets.there;
    beside = meets.beside;
    live = live_moved from to there rest x g.call meets.live;
    size = meets.size;
    attaches = meets.attaches;
    earlier_end = meets.earlier_end;
    own_end = meets.own_end;
  }

  overlap_moved : (from to : List Change) → ((c : Change) → Contains from c → Contains to c) → ((c : Change) → Contains to c → Contains from c) → (g : Change) (fault : RegionFault) → IsOverlap from g fault → IsOverlap to g fault
  overlap_moved from to there rest g fault found = record {
    there = there g found.there;
    other = found.other;
    overlaps = overlaps_moved from to there rest g found.other found.overlaps;
    first = λ earlier meets. found.first earlier (overlaps_moved to from rest there g earlier meets);
    is = found.is;
  }

  pub at_attach : (x : RegionFault) → IsOf (IsOverlap list) list x → IsAtAttach all x
  at_attach x is = (is.element, overlap_moved list all (back all list same) (forth all list same) is.element x is.is)

  pub of_attach : (x : RegionFault) → IsAtAttach all x → IsOf (IsOverlap list) list x
  of_attach x at =
      let here = overlap_moved all list (forth all list same) (back all list same) at.0 x at.1 in
      let place = place_of list at.0 here.there in
      record { place = place.0; element = at.0; from = omega arith; below = slice_get_within list place.0 at.0 place.1; there = place.1; is = here }
