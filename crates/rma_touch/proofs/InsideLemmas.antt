-- Bytes that lie in the part of a target.
use Rattle.std.proofs.Common.{◌≡◌, ℕ, ◌+◌, ◌*◌, ◌<◌, ◌≤◌, ◌^◌, Bool, true, false, ◌||◌, ◌&&◌, List, [], ◌∷◌, map, nat_lt, refl, sym, ap, subst, ◌∙◌, arith, T, ℤ, pos, ◌+ℤ◌, ◌≤ℤ◌, ◌<ℤ◌}
use Rattle.std.specs.Prelude.{◌↔◌, IsTrue, Option, Some}
use Rattle.std.proofs.Common.{⊎_elim}
use Rattle.std.proofs.lemmas.Bool.{true≢false}
use Rattle.std.proofs.lemmas.Bool.Decides.{nat_tests}
use Rattle.std.proofs.lemmas.Int.{ints, by_lt_z}
use Rattle.std.specs.Int.Signed.{lt_z}
use Rattle.std.specs.List.{list_any}
use Rattle.rma_base.specs.Limits.{address_limit}
use Rattle.rma_bytes.specs.declared.run.Run.{Run}
use Rattle.rma_bytes.specs.Runs.{HasByte, IsByteOf, IsCanonical, end_of, moved}
use Rattle.rma_bytes.proofs.IndexLemmas.{canonical_moved}
use Rattle.rma_base.specs.declared.rank.Rank.{Rank}
use Rattle.rma_call.specs.declared.rma.RmaCall.{RmaCall}
use Rattle.rma_datatype.specs.declared.basic.Basic.{Basic}
use Rattle.rma_window.specs.declared.part.Part.{Part}
use Rattle.rma_window.specs.declared.window_id.WindowId.{WindowId}
use Rattle.rma_open.specs.Range.{is_outside, touches_outside}
use Rattle.rma_rules.specs.declared.kind.Kind.{Kind}
use Rattle.rma_rules.specs.declared.access_name.Role.TheVariants.{Target}
use Rattle.rma_touch.specs.Touch.{kind_at_target}
use Rattle.rma_touch.specs.Touches.{if_any, touch_in}

told : (b : Bool) → T b → b ≡ true
told true t = refl
told false t = absurd t

not_below : (a b : ℤ) → lt_z a b ≡ false → b ≤ℤ a
not_below a b shut = by_lt_z a b (λ lt. absurd (true≢false (sym (told (lt_z a b) lt.lt) ∙ shut))) (λ le. le)

or_left : (a b : Bool) → (a || b) ≡ false → a ≡ false
or_left true b shut = absurd (true≢false shut)
or_left false b shut = refl

or_right : (a b : Bool) → (a || b) ≡ false → b ≡ false
or_right true b shut = absurd (true≢false shut)
or_right false b shut = shut

-- a run that has a byte lies between the ends of the part
record LiesInside (size from : ℕ) (run : Run) : Type 0 where
  low : pos 0 ≤ℤ (pos from +ℤ run.start)
  high : (pos from +ℤ end_of run) ≤ℤ pos size

lies_inside : (size from : ℕ) (run : Run) → 0 < run.len → is_outside size from run ≡ false → LiesInside size from run
lies_inside size from run some shut =
    let there : nat_lt 0 run.len ≡ true = grind (arith, nat_tests) in
    let either = sym (ap (λ b. b && (lt_z (pos from +ℤ run.start) (pos 0) || lt_z (pos size) (pos from +ℤ end_of run))) there) ∙ shut in record {
      low = not_below (pos from +ℤ run.start) (pos 0) (or_left (lt_z (pos from +ℤ run.start) (pos 0)) (lt_z (pos size) (pos from +ℤ end_of run)) either);
      high = not_below (pos size) (pos from +ℤ end_of run) (or_right (lt_z (pos from +ℤ run.start) (pos 0)) (lt_z (pos size) (pos from +ℤ end_of run)) either);
    }

module _ (size from : ℕ) where
  -- so does each byte
  byte_inside : (runs : List Run) → IsCanonical runs → list_any (is_outside size from) runs ≡ false → (b : ℤ) → HasByte runs b → (pos 0 ≤ℤ (pos from +ℤ b)) × ((pos from +ℤ b) <ℤ pos size)
  byte_inside [] canonical none b has = absurd has
  byte_inside (run ∷ runs) canonical none b has =
      ⊎_elim
      (λ (own : IsByteOf run b).
      let lies = lies_inside size from run canonical.1 (or_left (is_outside size from run) (list_any (is_outside size from) runs) none) in
      (omega (arith, ints, lies.low, own.0), omega (arith, ints, lies.high, own.1)))
      (λ (later : HasByte runs b). byte_inside runs canonical.3 (or_right (is_outside size from run) (list_any (is_outside size from) runs) none) b later)
      has

  -- the access starts no farther from the part than bytes may lie
  pub starts_near : (run : Run) (runs : List Run) → IsCanonical (run ∷ runs) → list_any (is_outside size from) (run ∷ runs) ≡ false → size ≤ address_limit → from ≤ 2 ^ 50
  starts_near run runs canonical none fits =
      let lies = lies_inside size from run canonical.1 (or_left (is_outside size from run) (list_any (is_outside size from) runs) none) in
      omega (arith, ints, lies.high, canonical.0.0, canonical.1)

  -- moved to their addresses the bytes are still runs in their one form
  pub canonical_there : (base : ℕ) (runs : List Run) → IsCanonical runs → list_any (is_outside size from) runs ≡ false → base + size ≤ address_limit → IsCanonical (map (moved (pos (base + from))) runs)
  canonical_there base runs canonical none fits =
      canonical_moved (pos (base + from)) runs canonical
      (λ b has. let inside = byte_inside runs canonical none b has in (omega (arith, ints, inside.0), omega (arith, ints, inside.1)))

-- ---- an access in a part

module _ (part : Part) (displacement d f : ℕ) (runs : List Run) (canonical : IsCanonical runs) (inside : touches_outside part displacement runs ≡ false) (space : part.base + part.size ≤ address_limit)
    (same_displacement : d ≡ displacement) (same_unit : f ≡ part.unit) where
  placed : list_any (is_outside part.size (d * f)) runs ≡ false
  placed = rw (same_displacement, same_unit) inside

  pub near : (runs ≡ [] → ⊥) → d * f ≤ 2 ^ 50
  near some = by runs refl
    where
      by : (rs : List Run) → runs ≡ rs → d * f ≤ 2 ^ 50
      by [] is = absurd (some is)
      by (run ∷ rest) is =
          starts_near part.size (d * f) run rest (subst IsCanonical is canonical) (subst (λ (rs : List Run). list_any (is_outside part.size (d * f)) rs ≡ false) is placed) (omega (arith, space))

  -- its address
  pub address : (runs ≡ [] → ⊥) → part.base + d * f < 2 ^ 51
  address some = omega (arith, near some, space)

  pub there : IsCanonical (map (moved (pos (part.base + d * f))) runs)
  there = canonical_there part.size (d * f) part.base runs canonical placed space

  -- what is touched there
  pub touched : (id : WindowId) (target : Rank) (access : RmaCall) (kind : Kind) (element : Option Basic) → access.displacement ≡ displacement → access.at_target.runs ≡ runs → (runs ≡ [] → ⊥) →
      kind ≡ kind_at_target access.kind → element ≡ access.at_target.element →
      Some (record { role = Target; memory = target; runs = map (moved (pos (part.base + d * f))) runs; kind = kind; window = Some id; element = element }) ≡ touch_in part id target access
  touched id target access kind element at is some kind_is element_is =
      rw (same_displacement, same_unit, kind_is, element_is)
      (sym
      (rw (at, is, inside) (any runs some)))
    where
      any : (rs : List Run) → (rs ≡ [] → ⊥) →
          if_any (record { role = Target; memory = target; runs = map (moved (pos (part.base + displacement * part.unit))) rs; kind = kind_at_target access.kind; window = Some id; element = access.at_target.element })
          ≡ Some (record { role = Target; memory = target; runs = map (moved (pos (part.base + displacement * part.unit))) rs; kind = kind_at_target access.kind; window = Some id; element = access.at_target.element })
      any [] has = absurd (has refl)
      any (run ∷ rest) has = refl

-- a list of runs that was found not to be empty
pub not_empty : (found : Bool) (runs : List Run) → IsTrue found ↔ (runs ≡ []) → found ≡ false → runs ≡ [] → ⊥
not_empty true runs tells none is = true≢false none
not_empty false runs tells none is = true≢false (sym (tells.1 is))
