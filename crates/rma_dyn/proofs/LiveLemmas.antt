-- Which regions are live, and which detaches have one to end.
use Rattle.std.proofs.Common.{◌≡◌, ◌≤◌, ◌↔◌, ℕ, true, false, List, Some, None, slice_get, sym, ap, ◌∙◌, arith}
use Rattle.std.specs.Prelude.{Contains}
use Rattle.std.specs.List.Sorted.{IsPermutation}
use Rattle.std.proofs.lemmas.Bool.Decides.{nat_tests}
use Rattle.std.proofs.lemmas.Option.{none-some, same_Some, slice_get_within}
use Rattle.rma_base.specs.declared.rank.Rank.{Rank}
use Rattle.rma_window.specs.declared.window_id.WindowId.{WindowId}
use Rattle.rma_rules.specs.declared.span.Owner.{Owner}
use Rattle.rma_concurrent.specs.inside.Places.{IsOf}
use Rattle.rma_concurrent.proofs.ListLemmas.{place_of}
use Rattle.rma_dyn.specs.declared.change.Change.{Change}
use Rattle.rma_dyn.specs.declared.fault.RegionFault.{RegionFault}
use Rattle.rma_dyn.specs.declared.reason.RegionReason.TheVariants.{DetachUnknown}
use Rattle.rma_dyn.specs.Fault.{IsAtDetach, IsUnknown}
use Rattle.rma_dyn.specs.Region.{IsAtSame, IsDetachOf, IsLiveAt}
use Rattle.rma_dyn.specs.inside.Live.{IsKnown, IsStill}
use Rattle.rma_dyn.specs.inside.Sorted.{Rise, is_below}
use Rattle.rma_dyn.proofs.KnownLemmas.{back, forth}
use Rattle.rma_dyn.proofs.SearchLemmas.{same_rank, same_window}

-- ---- one region

module _ (list : List Change) (g : Change) (number : ℕ) where
  pub still_until : (h : Change) → IsDetachOf list g h → number ≤ h.call → IsStill list g number
  still_until h of le other also = let first = of.first other also.there also.same also.later in omega arith

-- ---- those at the address of a detach

abbrev owner_of : Change → Owner
owner_of d = record { rank = d.rank; window = d.window }

module _ (list : List Change) (d : Change) where
  pub none_live_from : (k : ℕ) (g : Change) → is_below (owner_of d) d.address d.call g ≡ false → IsAtSame g d → IsLiveAt list g d.call → ⊥
  none_live_from k g test same live =
      let rank = ap (λ (r : Rank). r.0) same.beside.rank in
      let window = ap (λ (w : WindowId). w.0) same.beside.window in
      let address = same.address in
      let before = live.before in
      grind (arith, nat_tests)

  pub none_before : Rise list → (index : ℕ) (own : Change) → slice_get list index ≡ Some own → is_below (owner_of d) d.address d.call own ≡ true → (IsAtSame own d → ⊥)
      → (k : ℕ) (g : Change) → k ≤ index → slice_get list k ≡ Some g → IsAtSame g d → ⊥
  none_before rise index own at test other k g le there same =
      let so = rise k index g own le there at in
      let rank = ap (λ (r : Rank). r.0) same.beside.rank in
      let window = ap (λ (w : WindowId). w.0) same.beside.window in
      let address = same.address in
      let le_rank = so.ranks in
      let ranks : own.rank.0 ≡ d.rank.0 = grind (arith, nat_tests) in
      let le_window = so.windows (rank ∙ sym ranks) in
      let windows : own.window.0 ≡ d.window.0 = grind (arith, nat_tests) in
      let le_address = so.addresses (rank ∙ sym ranks) (window ∙ sym windows) in
      let addresses : own.address ≡ d.address = grind (arith, nat_tests) in
      other (record { beside = record { rank = same_rank own.rank d.rank ranks; window = same_window own.window d.window windows }; address = addresses })

-- ---- all detaches of a run

module _ (list all : List Change) (same : IsPermutation all list) where
  detach_moved : (from to : List Change) → ((c : Change) → Contains from c → Contains to c) → ((c : Change) → Contains to c → Contains from c) → (g h : Change) → IsDetachOf from g h → IsDetachOf to g h
  detach_moved from to there rest g h of = record { there = there h of.there; detaches = of.detaches; same = of.same; later = of.later; first = λ c has. of.first c (rest c has) }

  live_moved : (from to : List Change) → ((c : Change) → Contains from c → Contains to c) → ((c : Change) → Contains to c → Contains from c) → (g : Change) (number : ℕ) → IsLiveAt from g number → IsLiveAt to g number
  live_moved from to there rest g number live = record { size = live.size; attaches = live.attaches; before = live.before; still = λ h of. live.still h (detach_moved to from rest there g h of) }

  unknown_moved : (from to : List Change) → ((c : Change) → Contains from c → Contains to c) → ((c : Change) → Contains to c → Contains from c) → (d : Change) (fault : RegionFault) → IsUnknown from d fault → IsUnknown to d fault
  unknown_moved from to there rest d fault found = record {
    there = there d found.there;
    detaches = found.detaches;
    none = λ g has at live. found.none g (rest g has) at (live_moved to from rest there g d.call live);
    is = found.is;
  }

  pub at_detach : (x : RegionFault) → IsOf (IsUnknown list) list x → IsAtDetach all x
  at_detach x is = (is.element, unknown_moved list all (back all list same) (forth all list same) is.element x is.is)

  pub of_detach : (x : RegionFault) → IsAtDetach all x → IsOf (IsUnknown list) list x
  of_detach x at =
      let here = unknown_moved all list (forth all list same) (back all list same) at.0 x at.1 in
      let place = place_of list at.0 here.there in
      record { place = place.0; element = at.0; from = omega arith; below = slice_get_within list place.0 at.0 place.1; there = place.1; is = here }

-- ---- one detach

module _ (list : List Change) (d : Change) (there : Contains list d) (detaches : d.size ≡ None) where
  pub not_unknown : IsKnown list d → (fault : RegionFault) → (None ≡ Some fault) ↔ IsUnknown list d fault
  not_unknown known fault = (λ is. absurd (none-some fault is), λ found. absurd (found.none known.0 known.1 known.2 known.3))

  pub unknown : (IsKnown list d → ⊥) → (fault : RegionFault) → (Some (record { reason = DetachUnknown; rank = d.rank; line = d.line; other = None }) ≡ Some fault) ↔ IsUnknown list d fault
  unknown not fault = (
    λ is. record { there = there; detaches = detaches; none = λ g has same live. not (g, has, same, live); is = sym (same_Some _ fault is) },
    λ found. ap Some (sym found.is),
  )

pub no_attach : (list : List Change) (g : Change) (n : ℕ) → g.size ≡ Some n → (fault : RegionFault) → (None ≡ Some fault) ↔ IsUnknown list g fault
no_attach list g n is fault = (λ some. absurd (none-some fault some), λ found. absurd (none-some n (sym found.detaches ∙ is)))
