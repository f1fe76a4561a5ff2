-- Calls that are known, and what is known of lines and calls together.
use Rattle.std.proofs.Common.{◌≡◌, ◌<◌, IfOk, IfSome, Result, Ok, Err, ℕ, zero, suc, List, [], ◌∷◌, ◌++◌, Option, Some, None, All, option_map, slice_get, slice_set, sym, ap, subst, ◌∙◌, ◌⊎◌, inl, inr, ⊎_elim, arith}
use Rattle.std.proofs.lemmas.List.{map-set}
use Rattle.rma_base.specs.declared.version.Version.{Version}
use Rattle.rma_known.specs.Elsewhere.{Details, IsKnownElsewhere}
use Rattle.rma_known.specs.Known.{Known, IsAmong}
use Rattle.rma_known.specs.declared.placed_call.PlacedCall.{PlacedCall}
use Rattle.rma_known.specs.inside.Templates.{IsKnownAmong, IsMadeAmong, IsPlacedAmong, Placed, known_of}
use Rattle.rma_known.proofs.SlotLemmas.{set_cases, some_is}

-- ---- what stands in one list or in another

left : {X : Type 0} (xs ys : List X) (at : ℕ) (x : X) → slice_get xs at ≡ Some x → slice_get (xs ++ ys) at ≡ Some x
left [] ys at x is = let none : None ≡ Some x = is in cc none
left (z ∷ xs) ys zero x is = is
left (z ∷ xs) ys (suc at) x is = left xs ys at x is

right : {X : Type 0} (xs ys : List X) (x : X) → (at : ℕ) × (slice_get ys at ≡ Some x) → (at : ℕ) × (slice_get (xs ++ ys) at ≡ Some x)
right [] ys x there = there
right (z ∷ xs) ys x there = let rest = right xs ys x there in (suc rest.0, rest.1)

either : {X : Type 0} (xs ys : List X) (at : ℕ) (x : X) → slice_get (xs ++ ys) at ≡ Some x → ((at : ℕ) × (slice_get xs at ≡ Some x)) ⊎ ((at : ℕ) × (slice_get ys at ≡ Some x))
either [] ys at x is = inr (at, is)
either (z ∷ xs) ys zero x is = inl (zero, is)
either {X} (z ∷ xs) ys (suc at) x is =
    ⊎_elim (λ (own : (at : ℕ) × (slice_get xs at ≡ Some x)). inl (suc own.0, own.1)) (λ (other : (at : ℕ) × (slice_get ys at ≡ Some x)). inr other) (either xs ys at x is)

module _ (lines others : List (Option Known)) (known : Known) where
  pub among_lines : IsAmong lines known → IsAmong (lines ++ others) known
  among_lines there = (there.0, left lines others there.0 (Some known) there.1)

  pub among_others : IsAmong others known → IsAmong (lines ++ others) known
  among_others there = right lines others (Some known) there

  pub among_either : IsAmong (lines ++ others) known → IsAmong lines known ⊎ IsAmong others known
  among_either there = either lines others there.0 (Some known) there.1

-- a call that is placed is known
pub known_placed : (them : List (Option Placed)) (at : ℕ) (placed : Placed) → slice_get them at ≡ Some (Some placed) → slice_get (known_of them) at ≡ Some (Some placed.known)
known_placed [] at placed is = let none : None ≡ Some (Some placed) = is in cc none
known_placed (own ∷ them) zero placed is = let same : own ≡ Some placed = some_is own (Some placed) is in ap (λ o. Some (option_map (λ (p : Placed). p.known) o)) same
known_placed (own ∷ them) (suc at) placed is = known_placed them at placed is

pub found_among : (lines : List (Option Known)) (them : List (Option Placed)) (placed : Placed) → IsPlacedAmong them placed → IsAmong (lines ++ known_of them) placed.known
found_among lines them placed there = among_others lines (known_of them) placed.known (there.0, known_placed them there.0 placed there.1)

-- words are those of a known call elsewhere, if there is one
pub made_known : {E : Type 0} (lines : List (Option Known)) (them : List (Option Placed)) (v : Version) (words : List ℕ) (to : Details) (found : Result (Option PlacedCall) E)
    → IfOk found (λ found. IfSome found (λ it. IsMadeAmong them v words it.what it.requests it.from.now to))
    → IfOk found (λ found. IfSome found (λ it. IsKnownElsewhere (lines ++ known_of them) v words it.what it.requests it.from.now to))
made_known lines them v words to (Ok (Some it)) made =
    let placed = made.0 in
    let is = made.2 in
    record {
      known = placed.known;
      form = placed.form;
      name = placed.from.name;
      among = found_among lines them placed made.1;
      version = is.version;
      request = is.request;
      does = is.does;
      here = is.here;
      there = is.there;
    }
made_known lines them v words to (Ok None) made = tt
made_known lines them v words to (Err error) made = tt

-- what it does has a number
pub made_within : {E : Type 0} (lines : List (Option Known)) (them : List (Option Placed)) (v : Version) (words : List ℕ) (to : Details) (n : ℕ) (found : Result (Option PlacedCall) E)
    → ((known : Known) → IsAmong (lines ++ known_of them) known → known.what < n) → IfOk found (λ found. IfSome found (λ it. IsMadeAmong them v words it.what it.requests it.from.now to))
    → IfOk found (λ found. IfSome found (λ it. it.what < n))
made_within lines them v words to n (Ok (Some it)) within made = subst (λ what. what < n) made.2.does (within made.0.known (found_among lines them made.0 made.1))
made_within lines them v words to n (Ok None) within made = tt
made_within lines them v words to n (Err error) within made = tt

-- slots of which one was written
pub known_put : (them : List (Option Placed)) (at : ℕ) (placed : Placed) (known : Known) → IsKnownAmong (slice_set them at (Some placed)) known → IsKnownAmong them known ⊎ (known ≡ placed.known)
known_put them at placed known there =
    ⊎_elim
    (λ (old : slice_get (known_of them) there.0 ≡ Some (Some known)). inl (there.0, old))
    (λ (new : Some placed.known ≡ Some known). inr (sym (some_is placed.known known new)))
    (set_cases (known_of them) at there.0 (Some placed.known) (Some known) (sym (ap (λ all. slice_get all there.0) (map-set (option_map (λ (p : Placed). p.known)) them at (Some placed))) ∙ there.1))

pub none_known_among : (them : List (Option Placed)) (known : Known) → them ≡ [] → IsKnownAmong them known → ⊥
none_known_among them known none there = let found = subst (λ all. IsKnownAmong all known) none there in let wrong : None ≡ Some (Some known) = found.1 in cc wrong

-- nothing is known where there is none
pub none_placed : (them : List (Option Placed)) (known : Known) → All (λ slot. slot ≡ None) them → (at : ℕ) → slice_get (known_of them) at ≡ Some (Some known) → ⊥
none_placed [] known none at is = let wrong : None ≡ Some (Some known) = is in cc wrong
none_placed (own ∷ them) known none zero is = let empty : own ≡ None = none zero None (omega arith) in let wrong = rw empty at is in cc wrong
none_placed (own ∷ them) known none (suc at) is = none_placed them known (λ k d lt. none (suc k) d (omega (arith, lt))) at is
