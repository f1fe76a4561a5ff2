-- Two cells that become one.
use Rattle.std.proofs.Common.{◌≡◌, ◌≢◌, ℕ, Option, Some, None, sym, refl, ap, ◌∙◌, arith, inl, inr, ◌⊎◌, ⊎_elim}
use Rattle.std.specs.Prelude.{ℤ, pos, ◌-ℤ◌, ◌≤ℤ◌, ◌<ℤ◌}
use Rattle.std.specs.List.{Contains}
use Rattle.std.proofs.lemmas.Int.{ints, by_lt_z}
use Rattle.rma_cells.specs.Cell.{Cell}
use Rattle.rma_cells.specs.Cells.{AreAlike}
use Rattle.rma_cells.specs.inside.Table.{Table, Stands, IsSound, IsBoundary, Puts, StandAlike, Merges}
use Rattle.rma_cells.proofs.TableLemmas.{in_order, same_some, not_none, put_cases, stands_in}
use Rattle.rma_cells.proofs.IdLemmas.{same_ids}
use Rattle.rma_cells.proofs.CutLemmas.{ended}

-- nothing is merged
unmerged : (f : Table) (at : ℤ) → IsSound f → (IsBoundary f at → AreAlike (Stands f) (at -ℤ pos 1) at → ⊥) → Merges f at f
unmerged f at sound apart = record { sound = sound; same = λ id b. (λ x. x, λ x. x); boundaries = λ x bound. bound; apart = apart }

-- an id of a cell stands on its first byte
on_first : (f : Table) → IsSound f → (t : ℤ) (d : Cell) (id : ℕ) → f t ≡ Some d → Contains d.ids id → Stands f id t
on_first f sound t d id is has = let far = sound.filled t d is in (t, d, is, omega (arith, ints), far, has)

-- no cell begins before
pub merge_first : (f : Table) (at : ℤ) → IsSound f → ((start : ℤ) → start <ℤ at → f start ≡ None) → Merges f at f
merge_first f at sound none = unmerged f at sound (λ bound alike. apart bound.0 bound.1 bound.2 bound.3 alike)
  where
    apart : (t : ℤ) (d : Cell) → f t ≡ Some d → (at ≡ t) ⊎ (at ≡ d.end) → AreAlike (Stands f) (at -ℤ pos 1) at → ⊥
    apart t d is or alike =
        ⊎_elim (λ (e : at ≡ t). let some = sound.some t d is in let stands = (alike some.0).1 (rw e (on_first f sound t d some.0 is some.1)) in
        not_none stands.1 (f stands.0) stands.2 (none stands.0 (omega (arith, ints, stands.3))))
        (λ (e : at ≡ d.end). let far = sound.filled t d is in not_none d (f t) is (none t (omega (arith, ints)))) or

module _ (f : Table) (at : ℤ) (sound : IsSound f) (s : ℤ) (c : Cell) (at_s : f s ≡ Some c) (low : s <ℤ at) (last : (start : ℤ) → s <ℤ start → start <ℤ at → f start ≡ None) where
  -- a cell that begins before and ends there or later is the last
  is_last : (u : ℤ) (e : Cell) → f u ≡ Some e → u <ℤ at → at ≤ℤ e.end → u ≡ s
  is_last u e is lt le =
      ⊎_elim (λ (l : u <ℤ s). absurd (let far = sound.apart u e s c is at_s l in omega (arith, ints)))
      (λ more. ⊎_elim (λ (q : u ≡ s). q) (λ (g : s <ℤ u). absurd (not_none e (f u) is (last u g lt))) more) (in_order u s)

  last_end : (u : ℤ) (e : Cell) → f u ≡ Some e → u <ℤ at → at ≤ℤ e.end → e.end ≡ c.end
  last_end u e is lt le = ap (λ k. k.end) (same_some e c (f u) is (ap f (is_last u e is lt le) ∙ at_s))

  -- the last cell ends elsewhere
  pub merge_elsewhere : c.end ≢ at → Merges f at f
  merge_elsewhere other = unmerged f at sound (λ bound alike. apart bound.0 bound.1 bound.2 bound.3 alike)
    where
      apart : (t : ℤ) (d : Cell) → f t ≡ Some d → (at ≡ t) ⊎ (at ≡ d.end) → AreAlike (Stands f) (at -ℤ pos 1) at → ⊥
      apart t d is or alike =
          ⊎_elim (λ (e : at ≡ t). let some = sound.some t d is in let stands = (alike some.0).1 (rw e (on_first f sound t d some.0 is some.1)) in
          let end = last_end stands.0 stands.1 stands.2 (omega (arith, ints, stands.3)) (omega (arith, ints, stands.4)) in
          let far = sound.apart s c t d at_s is (omega (arith, ints)) in
          other (omega (arith, ints, stands.4)))
          (λ (e : at ≡ d.end). let far = sound.filled t d is in other (sym (last_end t d is (omega (arith, ints)) (omega (arith, ints))) ∙ sym e)) or

  -- the two cells have other ids, or there is one alone
  pub merge_unlike : c.end ≡ at → ((cell next : Cell) → f s ≡ Some cell → f at ≡ Some next → next.ids ≢ cell.ids) → Merges f at f
  merge_unlike end unlike = unmerged f at sound (λ _ alike. apart alike (f at) refl)
    where
      apart : AreAlike (Stands f) (at -ℤ pos 1) at → (o : Option Cell) → f at ≡ o → ⊥
      apart alike (Some d) is =
          let far = sound.filled at d is in
          unlike c d at_s is (same_ids d.ids c.ids (sound.ascending at d is) (sound.ascending s c at_s)
          (λ x. (
            λ has. stands_in f sound s c x (at -ℤ pos 1) at_s (omega (arith, ints), omega (arith, ints)) ((alike x).1 (on_first f sound at d x is has)),
            λ has. stands_in f sound at d x at is (omega (arith, ints), far) ((alike x).0 (s, c, at_s, omega (arith, ints), omega (arith, ints), has)),
          )))
      apart alike None is =
          let some = sound.some s c at_s in
          let stands = (alike some.0).0 (s, c, at_s, omega (arith, ints), omega (arith, ints), some.1) in
          ⊎_elim (λ (l : stands.0 <ℤ at). let e = last_end stands.0 stands.1 stands.2 l (omega (arith, ints, stands.4)) in omega (arith, ints, stands.4))
          (λ more. ⊎_elim (λ (q : stands.0 ≡ at). not_none stands.1 (f at) (ap f (sym q) ∙ stands.2) is) (λ (g : at <ℤ stands.0). omega (arith, ints, stands.3)) more) (in_order stands.0 at)

  -- the two cells become one
  module _ (h g : Table) (d : Cell) (meets : c.end ≡ at) (at_at : f at ≡ Some d) (ids : d.ids ≡ c.ids) (first : Puts f at None h) (second : Puts h s (Some (ended c d.end)) g) where
    cases : (t : ℤ) (k : Cell) → g t ≡ Some k → ((t ≡ s) × (k ≡ ended c d.end)) ⊎ ((t ≢ s) × (t ≢ at) × (f t ≡ Some k))
    cases t k is =
        ⊎_elim (λ (one : (t ≡ s) × (Some (ended c d.end) ≡ Some k)). inl (one.0, cc))
        (λ (other : (t ≢ s) × (h t ≡ Some k)). ⊎_elim (λ (two : (t ≡ at) × (None ≡ Some k)). absurd (not_none k None two.1 refl))
        (λ (three : (t ≢ at) × (f t ≡ Some k)). inr (other.0, three.0, three.1)) (put_cases f at None h first t k other.1))
        (put_cases h s (Some (ended c d.end)) g second t k is)

    stays : (t : ℤ) (k : Cell) → f t ≡ Some k → t ≢ s → t ≢ at → g t ≡ Some k
    stays t k is not_s not_at = second.others t not_s ∙ first.others t not_at ∙ is

    long : at <ℤ d.end
    long = sound.filled at d at_at

    merged_apart : (t : ℤ) (k : Cell) (u : ℤ) (l : Cell) → g t ≡ Some k → g u ≡ Some l → t <ℤ u → k.end ≤ℤ u
    merged_apart t k u l is_t is_u lt =
        ⊎_elim (λ (t1 : (t ≡ s) × (k ≡ ended c d.end)). let end : k.end ≡ d.end = ap (λ x. x.end) t1.1 in
        ⊎_elim (λ (u1 : (u ≡ s) × (l ≡ ended c d.end)). absurd (omega (arith, ints, t1.0, u1.0)))
        (λ (u2 : (u ≢ s) × (u ≢ at) × (f u ≡ Some l)). let near = sound.apart s c u l at_s u2.2 (omega (arith, ints, t1.0)) in
        ⊎_elim (λ (x : u <ℤ at). absurd (omega (arith, ints))) (λ more. ⊎_elim (λ (q : u ≡ at). absurd (u2.1 q)) (λ (x : at <ℤ u). let far = sound.apart at d u l at_at u2.2 x in omega (arith, ints)) more) (in_order u at)) (cases u l is_u))
        (λ (t2 : (t ≢ s) × (t ≢ at) × (f t ≡ Some k)).
        ⊎_elim (λ (u1 : (u ≡ s) × (l ≡ ended c d.end)). let far = sound.apart t k s c t2.2 at_s (omega (arith, ints, u1.0)) in omega (arith, ints, u1.0))
        (λ (u2 : (u ≢ s) × (u ≢ at) × (f u ≡ Some l)). sound.apart t k u l t2.2 u2.2 lt) (cases u l is_u))
        (cases t k is_t)

    merged_sound : IsSound g
    merged_sound = record {
      filled = λ t k is. ⊎_elim (λ (t1 : (t ≡ s) × (k ≡ ended c d.end)). let end : k.end ≡ d.end = ap (λ x. x.end) t1.1 in let far = long in omega (arith, ints, t1.0)) (λ (t2 : (t ≢ s) × (t ≢ at) × (f t ≡ Some k)). sound.filled t k t2.2) (cases t k is);
      some = λ t k is. ⊎_elim (λ (t1 : (t ≡ s) × (k ≡ ended c d.end)). rw t1.1 (sound.some s c at_s)) (λ (t2 : (t ≢ s) × (t ≢ at) × (f t ≡ Some k)). sound.some t k t2.2) (cases t k is);
      ascending = λ t k is. ⊎_elim (λ (t1 : (t ≡ s) × (k ≡ ended c d.end)). rw t1.1 (sound.ascending s c at_s)) (λ (t2 : (t ≢ s) × (t ≢ at) × (f t ≡ Some k)). sound.ascending t k t2.2) (cases t k is);
      apart = merged_apart;
    }

    merged_same : StandAlike f g
    merged_same id b = (
      λ in_g. let t = in_g.0 in let k = in_g.1 in
          ⊎_elim (λ (t1 : (t ≡ s) × (k ≡ ended c d.end)). let end : k.end ≡ d.end = ap (λ x. x.end) t1.1 in let has : Contains c.ids id = rw (ap (λ x. x.ids) t1.1) at in_g.5 in
          by_lt_z b at (λ lt. (s, c, at_s, omega (arith, ints, t1.0, in_g.3), omega (arith, ints), has)) (λ ge. (at, d, at_at, ge, omega (arith, ints, in_g.4), rw ids has)))
          (λ (t2 : (t ≢ s) × (t ≢ at) × (f t ≡ Some k)). (t, k, t2.2, in_g.3, in_g.4, in_g.5)) (cases t k in_g.2),
      λ in_f. let t = in_f.0 in let k = in_f.1 in let far = long in
          ⊎_elim (λ (l : t <ℤ s). (t, k, stays t k in_f.2 (λ e. absurd (omega (arith, ints))) (λ e. absurd (omega (arith, ints))), in_f.3, in_f.4, in_f.5))
          (λ more. ⊎_elim (λ (e : t ≡ s). let same = same_some k c (f t) in_f.2 (ap f e ∙ at_s) in let end : k.end ≡ c.end = ap (λ x. x.end) same in
          (s, ended c d.end, second.here, omega (arith, ints, in_f.3), omega (arith, ints, in_f.4), rw (ap (λ x. x.ids) same) at in_f.5))
          (λ (gt : s <ℤ t). ⊎_elim (λ (l : t <ℤ at). absurd (not_none k (f t) in_f.2 (last t gt l)))
          (λ more2. ⊎_elim (λ (e : t ≡ at). let same = same_some k d (f t) in_f.2 (ap f e ∙ at_at) in let end : k.end ≡ d.end = ap (λ x. x.end) same in
          (s, ended c d.end, second.here, omega (arith, ints, in_f.3), omega (arith, ints, in_f.4), rw (ap (λ x. x.ids) same ∙ ids) at in_f.5))
          (λ (g2 : at <ℤ t). (t, k, stays t k in_f.2 (λ e. absurd (omega (arith, ints))) (λ e. absurd (omega (arith, ints))), in_f.3, in_f.4, in_f.5)) more2) (in_order t at)) more) (in_order t s),
    )

    merged_boundaries : (x : ℤ) → IsBoundary g x → IsBoundary f x
    merged_boundaries x bound = let t = bound.0 in let k = bound.1 in
        ⊎_elim (λ (t1 : (t ≡ s) × (k ≡ ended c d.end)). ⊎_elim (λ (e : x ≡ t). (s, c, at_s, inl (e ∙ t1.0))) (λ (e : x ≡ k.end). (at, d, at_at, inr (e ∙ ap (λ y. y.end) t1.1))) bound.3)
        (λ (t2 : (t ≢ s) × (t ≢ at) × (f t ≡ Some k)). (t, k, t2.2, bound.3)) (cases t k bound.2)

    inside : IsBoundary g at → ⊥
    inside bound = let t = bound.0 in let k = bound.1 in let far = long in
        ⊎_elim (λ (t1 : (t ≡ s) × (k ≡ ended c d.end)). let end : k.end ≡ d.end = ap (λ y. y.end) t1.1 in ⊎_elim (λ (e : at ≡ t). omega (arith, ints, t1.0)) (λ (e : at ≡ k.end). omega (arith, ints)) bound.3)
        (λ (t2 : (t ≢ s) × (t ≢ at) × (f t ≡ Some k)). ⊎_elim (λ (e : at ≡ t). t2.1 (sym e))
        (λ (e : at ≡ k.end). let filled = sound.filled t k t2.2 in t2.0 (is_last t k t2.2 (omega (arith, ints)) (omega (arith, ints)))) bound.3) (cases t k bound.2)

    pub merge_two : Merges f at g
    merge_two = record { sound = merged_sound; same = merged_same; boundaries = merged_boundaries; apart = λ bound _. inside bound }
