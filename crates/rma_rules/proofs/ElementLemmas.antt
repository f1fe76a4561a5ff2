-- Elements of accumulates, and runs that are in step.
use Rattle.std.proofs.Common.{◌≡◌, ℕ, ◌+◌, ◌-◌, ◌*◌, ◌/◌, ◌<◌, ◌≤◌, ◌⊎◌, ◌↔◌, List, length, get_or, Some, inl, inr, refl, sym, ap, subst, ◌∙◌, arith, nat_abs, lit<}
use Rattle.std.specs.Prelude.{ℤ, pos, ◌+ℤ◌, ◌-ℤ◌, ◌≤ℤ◌, ◌<ℤ◌}
use Rattle.std.proofs.Math.Nat.{add-mul}
use Rattle.std.proofs.lemmas.Int.{ints}
use Rattle.std.proofs.lemmas.Bool.{cases_lt}
use Rattle.std.proofs.lemmas.List.Elements.{Contains-get_or}
use Rattle.std.proofs.lemmas.Nat.{div-add-mod', mod_below}
use Rattle.rma_datatype.specs.declared.basic.Basic.{Basic}
use Rattle.rma_datatype.specs.declared.basic.Basic.TheVariants.{SignedChar, UnsignedChar, Short, UnsignedShort, Int, Unsigned, Long, UnsignedLong, LongLong, UnsignedLongLong, Int8, Int16, Int32, Int64, Uint8, Uint16, Uint32, Uint64, Aint, Offset, Count, Float, Double, CBool, Byte, Char}
use Rattle.rma_datatype.specs.Basic.{basic_size}
use Rattle.rma_bytes.specs.declared.run.Run.{Run}
use Rattle.rma_bytes.specs.Runs.{IsByteOf, IsCanonical}
use Rattle.rma_bytes.proofs.RunLemmas.{has_at, index_of, no_run}
use Rattle.rma_window.specs.Windows.{Window}
use Rattle.rma_rules.specs.Access.{Access}
use Rattle.rma_rules.specs.Element.{Disagree, ElementsAgree, IsInElement, OperationsAgree}
use Rattle.rma_rules.specs.Share.{ShareByte}
use Rattle.rma_rules.specs.inside.Step.{AreInStep, Clash, RunsClash}
use Rattle.rma_rules.proofs.WalkLemmas.{at_index, clash_at, one_run}
use Rattle.rma_rules.proofs.PartLemmas.{same_some}

offset : (start b : ℤ) → start ≤ℤ b → (n : ℕ) × (b ≡ start +ℤ pos n)
offset start b le = (nat_abs (b -ℤ start), omega (arith, ints))

-- elements of two runs that start at one place leave the runs in step
one_start : (size k l : ℕ) (x y : Run) → x.start +ℤ pos (k * size) ≡ y.start +ℤ pos (l * size) → AreInStep size x y
one_start size k l x y same = by (cases_lt k l)
  where
    by : (k < l) ⊎ (l ≤ k) → AreInStep size x y
    by (inl before) =
        let parts : l * size ≡ k * size + (l - k) * size = let is : l ≡ k + (l - k) = omega arith in ap (λ n. n * size) is ∙ add-mul k (l - k) size in
        (l - k, inl (omega (arith, ints, same, parts)))
    by (inr after) =
        let parts : k * size ≡ l * size + (k - l) * size = let is : k ≡ l + (k - l) = omega arith in ap (λ n. n * size) is ∙ add-mul l (k - l) size in
        (k - l, inr (omega (arith, ints, same, parts)))

-- a byte of two runs in step has an element of one start in both
abbrev pub HasOneStart : ℕ → Run → Run → ℤ → Type 0
HasOneStart size x y b =
    (start : ℤ) × ((k : ℕ) × (start ≡ x.start +ℤ pos (k * size))) × ((k : ℕ) × (start ≡ y.start +ℤ pos (k * size))) × (start ≤ℤ b) × (b <ℤ (start +ℤ pos size))

turned : (size : ℕ) (x y : Run) (b : ℤ) → HasOneStart size x y b → HasOneStart size y x b
turned size x y b has = (has.0, has.2, has.1, has.3, has.4)

starts_after : (size k : ℕ) (x y : Run) (b : ℤ) → 0 < size → x.start ≡ y.start +ℤ pos (k * size) → x.start ≤ℤ b → HasOneStart size x y b
starts_after size k x y b some is low =
    let off = offset x.start b low in
    let n : ℕ = off.0 in
    let p : ℕ = n / size in
    let parts = div-add-mod' n size in
    let less = mod_below n size some in
    let sum = add-mul k p size in
    let far : b ≡ x.start +ℤ pos n = off.1 in
    (x.start +ℤ pos (p * size), (p, refl), (k + p, omega (arith, ints, is, sum)), omega (arith, ints, far, parts), omega (arith, ints, far, parts, less))

one_element : (size : ℕ) (x y : Run) (b : ℤ) → 0 < size → AreInStep size x y → x.start ≤ℤ b → y.start ≤ℤ b → HasOneStart size x y b
one_element size x y b some (k, inl is) low_x low_y = starts_after size k x y b some is low_x
one_element size x y b some (k, inr is) low_x low_y = turned size y x b (starts_after size k y x b some is low_y)

size_is_some : (element : Basic) → 0 < basic_size element
size_is_some SignedChar = lit< tt
size_is_some UnsignedChar = lit< tt
size_is_some Short = lit< tt
size_is_some UnsignedShort = lit< tt
size_is_some Int = lit< tt
size_is_some Unsigned = lit< tt
size_is_some Long = lit< tt
size_is_some UnsignedLong = lit< tt
size_is_some LongLong = lit< tt
size_is_some UnsignedLongLong = lit< tt
size_is_some Int8 = lit< tt
size_is_some Int16 = lit< tt
size_is_some Int32 = lit< tt
size_is_some Int64 = lit< tt
size_is_some Uint8 = lit< tt
size_is_some Uint16 = lit< tt
size_is_some Uint32 = lit< tt
size_is_some Uint64 = lit< tt
size_is_some Aint = lit< tt
size_is_some Offset = lit< tt
size_is_some Count = lit< tt
size_is_some Float = lit< tt
size_is_some Double = lit< tt
size_is_some CBool = lit< tt
size_is_some Byte = lit< tt
size_is_some Char = lit< tt

-- an element of a byte is one of the run that has the byte
in_run : (runs : List Run) (size p : ℕ) (start b : ℤ) → IsCanonical runs → p < length runs → IsByteOf (get_or runs p no_run) b → IsInElement runs size start b
    → (k : ℕ) × (start ≡ (get_or runs p no_run).start +ℤ pos (k * size))
in_run runs size p start b good p_in here (run, there, in_it, k, is, low, high) =
    let q = at_index runs run there in
    let in_q : IsByteOf (get_or runs q.0 no_run) b = subst (λ r. IsByteOf r b) (sym q.2) in_it in
    let same : q.0 ≡ p = one_run runs q.0 p b good q.1 p_in in_q here in
    let runs_are : run ≡ get_or runs p no_run = sym q.2 ∙ ap (λ n. get_or runs n no_run) same in
    (k, is ∙ ap (λ (r : Run). r.start +ℤ pos (k * size)) runs_are)

module _ (windows : List Window) (a b : Access) where
  -- where the operations or the datatypes differ, each common byte is one at which the two do not agree
  pub differ : ((element : Basic) → OperationsAgree windows a b × (a.element ≡ Some element) × (b.element ≡ Some element) → ⊥) → ShareByte a.runs b.runs ↔ Disagree windows a b
  unfolding ShareByte Disagree
  differ never = (λ share. (share.0, share.1, share.2, λ both. never both.0.0 (both.1, both.0.2, both.0.3)), λ all. (all.0, all.1, all.2))

  module _ (element : Basic) (agree : OperationsAgree windows a b) (a_is : a.element ≡ Some element) (b_is : b.element ≡ Some element) (good_a : IsCanonical a.runs) (good_b : IsCanonical b.runs) where
    -- elements that agree at a byte leave the runs that have it in step
    agree_in_step : (p q : ℕ) (byte : ℤ) → p < length a.runs → q < length b.runs → IsByteOf (get_or a.runs p no_run) byte → IsByteOf (get_or b.runs q no_run) byte → ElementsAgree a b byte
        → AreInStep (basic_size element) (get_or a.runs p no_run) (get_or b.runs q no_run)
    agree_in_step p q byte p_in q_in in_x in_y both =
        let same : both.0 ≡ element = same_some both.0 element (sym both.2 ∙ a_is) in
        let first = in_run a.runs (basic_size element) p both.1 byte good_a p_in in_x (subst (λ e. IsInElement a.runs (basic_size e) both.1 byte) same both.4) in
        let second = in_run b.runs (basic_size element) q both.1 byte good_b q_in in_y (subst (λ e. IsInElement b.runs (basic_size e) both.1 byte) same both.5) in
        one_start (basic_size element) first.0 second.0 (get_or a.runs p no_run) (get_or b.runs q no_run) (sym first.1 ∙ second.1)

    -- runs that clash have a common byte at which the two do not agree
    clash_differs : Clash (Some (basic_size element)) a.runs b.runs → Disagree windows a b
    unfolding Clash RunsClash Disagree
    clash_differs clash =
        let x : Run = clash.0 in
        let y : Run = clash.1 in
        let byte : ℤ = clash.4.0.0 in
        let p = at_index a.runs x clash.2 in
        let q = at_index b.runs y clash.3 in
        let in_x : IsByteOf (get_or a.runs p.0 no_run) byte = subst (λ r. IsByteOf r byte) (sym p.2) clash.4.0.1 in
        let in_y : IsByteOf (get_or b.runs q.0 no_run) byte = subst (λ r. IsByteOf r byte) (sym q.2) clash.4.0.2 in (
          byte,
          has_at a.runs p.0 no_run byte p.1 in_x,
          has_at b.runs q.0 no_run byte q.1 in_y,
          λ both.
              let step = agree_in_step p.0 q.0 byte p.1 q.1 in_x in_y both.0 in
              clash.4.1 (subst (λ r. AreInStep (basic_size element) r y) p.2 (subst (λ r. AreInStep (basic_size element) (get_or a.runs p.0 no_run) r) q.2 step)),
        )

    differs_clash : Disagree windows a b → Clash (Some (basic_size element)) a.runs b.runs
    unfolding Disagree RunsClash
    differs_clash all =
        let byte : ℤ = all.0 in
        let p = index_of a.runs byte all.1 in
        let q = index_of b.runs byte all.2 in
        let x : Run = get_or a.runs p.0 no_run in
        let y : Run = get_or b.runs q.0 no_run in
        clash_at (Some (basic_size element)) a.runs b.runs p.0 q.0 p.1 q.1 (
          (byte, p.2, q.2),
          λ step.
              let shared = one_element (basic_size element) x y byte (size_is_some element) step p.2.0 q.2.0 in
              all.3 (
                (
                  element,
                  shared.0,
                  a_is,
                  b_is,
                  (x, Contains-get_or a.runs p.0 no_run p.1, p.2, shared.1.0, shared.1.1, shared.3, shared.4),
                  (y, Contains-get_or b.runs q.0 no_run q.1, q.2, shared.2.0, shared.2.1, shared.3, shared.4),
                ),
                agree,
              ),
        )

    pub differ_at_clash : Clash (Some (basic_size element)) a.runs b.runs ↔ Disagree windows a b
    differ_at_clash = (clash_differs, differs_clash)
