-- A cell that is cut in two.
use Rattle.std.proofs.Common.{◌≡◌, ◌≢◌, Some, None, ap, ◌∙◌, arith, inl, inr, ◌⊎◌, ⊎_elim}
use Rattle.std.specs.Prelude.{ℤ, ◌≤ℤ◌, ◌<ℤ◌}
use Rattle.std.proofs.lemmas.Int.{ints}
use Rattle.rma_cells.specs.Cell.{Cell}
use Rattle.rma_cells.specs.inside.Table.{Table, IsSound, IsBoundary, IsCut, Puts, StandAlike, Cuts}
use Rattle.rma_cells.proofs.TableLemmas.{in_order, same_some, not_none, put_cases}

abbrev pub ended : Cell → ℤ → Cell
ended c e = record c { end = e }

module _ (f h g : Table) (sound : IsSound f) (s : ℤ) (c : Cell) (at : ℤ) (at_s : f s ≡ Some c) (low : s <ℤ at) (high : at <ℤ c.end) (first : Puts f at (Some c) h) (second : Puts h s (Some (ended c at)) g) where
  -- what stands in the new table
  cases : (t : ℤ) (d : Cell) → g t ≡ Some d → ((t ≡ s) × (d ≡ ended c at)) ⊎ (((t ≡ at) × (d ≡ c)) ⊎ ((t ≢ s) × (t ≢ at) × (f t ≡ Some d)))
  cases t d is =
      ⊎_elim (λ (one : (t ≡ s) × (Some (ended c at) ≡ Some d)). inl (one.0, cc))
      (λ (other : (t ≢ s) × (h t ≡ Some d)). ⊎_elim (λ (two : (t ≡ at) × (Some c ≡ Some d)). inr (inl (two.0, cc)))
      (λ (three : (t ≢ at) × (f t ≡ Some d)). inr (inr (other.0, three.0, three.1))) (put_cases f at (Some c) h first t d other.1))
      (put_cases h s (Some (ended c at)) g second t d is)

  lower : g s ≡ Some (ended c at)
  lower = second.here

  upper : g at ≡ Some c
  upper = second.others at (λ e. absurd (omega (arith, ints))) ∙ first.here

  stays : (t : ℤ) (d : Cell) → f t ≡ Some d → t ≢ s → g t ≡ Some d
  stays t d is apart = second.others t apart ∙ first.others t (λ e. absurd (inside e)) ∙ is
    where
      inside : t ≡ at → ⊥
      inside e = let far = sound.apart s c t d at_s is (omega (arith, ints)) in omega (arith, ints)

  other_apart : (t : ℤ) (d : Cell) → t ≢ s → f t ≡ Some d → (d.end ≤ℤ s) ⊎ (c.end ≤ℤ t)
  other_apart t d apart is = ⊎_elim (λ (lt : t <ℤ s). inl (sound.apart t d s c is at_s lt)) (λ more. ⊎_elim (λ (e : t ≡ s). absurd (apart e)) (λ (gt : s <ℤ t). inr (sound.apart s c t d at_s is gt)) more) (in_order t s)

  cut_apart : (t : ℤ) (d : Cell) (u : ℤ) (e : Cell) → g t ≡ Some d → g u ≡ Some e → t <ℤ u → d.end ≤ℤ u
  cut_apart t d u e is_t is_u lt =
      ⊎_elim (λ (t1 : (t ≡ s) × (d ≡ ended c at)). let end : d.end ≡ at = ap (λ x. x.end) t1.1 in
      ⊎_elim (λ (u1 : (u ≡ s) × (e ≡ ended c at)). absurd (omega (arith, ints, t1.0, u1.0)))
      (λ more_u. ⊎_elim (λ (u2 : (u ≡ at) × (e ≡ c)). omega (arith, ints, u2.0))
      (λ (u3 : (u ≢ s) × (u ≢ at) × (f u ≡ Some e)). let far = sound.apart s c u e at_s u3.2 (omega (arith, ints, t1.0)) in omega (arith, ints)) more_u) (cases u e is_u))
      (λ more_t. ⊎_elim (λ (t2 : (t ≡ at) × (d ≡ c)). let end : d.end ≡ c.end = ap (λ x. x.end) t2.1 in
      ⊎_elim (λ (u1 : (u ≡ s) × (e ≡ ended c at)). absurd (omega (arith, ints, t2.0, u1.0)))
      (λ more_u. ⊎_elim (λ (u2 : (u ≡ at) × (e ≡ c)). absurd (omega (arith, ints, t2.0, u2.0)))
      (λ (u3 : (u ≢ s) × (u ≢ at) × (f u ≡ Some e)). let far = sound.apart s c u e at_s u3.2 (omega (arith, ints, t2.0)) in omega (arith, ints)) more_u) (cases u e is_u))
      (λ (t3 : (t ≢ s) × (t ≢ at) × (f t ≡ Some d)).
      ⊎_elim (λ (u1 : (u ≡ s) × (e ≡ ended c at)). let far = sound.apart t d s c t3.2 at_s (omega (arith, ints, u1.0)) in omega (arith, ints, u1.0))
      (λ more_u. ⊎_elim (λ (u2 : (u ≡ at) × (e ≡ c)). ⊎_elim (λ (l : d.end ≤ℤ s). omega (arith, ints, u2.0)) (λ (g : c.end ≤ℤ t). absurd (omega (arith, ints, u2.0))) (other_apart t d t3.0 t3.2))
      (λ (u3 : (u ≢ s) × (u ≢ at) × (f u ≡ Some e)). sound.apart t d u e t3.2 u3.2 lt) more_u) (cases u e is_u)) more_t)
      (cases t d is_t)

  cut_sound : IsSound g
  cut_sound = record {
    filled = λ t d is. ⊎_elim (λ (t1 : (t ≡ s) × (d ≡ ended c at)). let end : d.end ≡ at = ap (λ x. x.end) t1.1 in omega (arith, ints, t1.0)) (λ more. ⊎_elim (λ (t2 : (t ≡ at) × (d ≡ c)). let end : d.end ≡ c.end = ap (λ x. x.end) t2.1 in omega (arith, ints, t2.0)) (λ (t3 : (t ≢ s) × (t ≢ at) × (f t ≡ Some d)). sound.filled t d t3.2) more) (cases t d is);
    some = λ t d is. ⊎_elim (λ (t1 : (t ≡ s) × (d ≡ ended c at)). rw t1.1 (sound.some s c at_s)) (λ more. ⊎_elim (λ (t2 : (t ≡ at) × (d ≡ c)). rw t2.1 (sound.some s c at_s)) (λ (t3 : (t ≢ s) × (t ≢ at) × (f t ≡ Some d)). sound.some t d t3.2) more) (cases t d is);
    ascending = λ t d is. ⊎_elim (λ (t1 : (t ≡ s) × (d ≡ ended c at)). rw t1.1 (sound.ascending s c at_s)) (λ more. ⊎_elim (λ (t2 : (t ≡ at) × (d ≡ c)). rw t2.1 (sound.ascending s c at_s)) (λ (t3 : (t ≢ s) × (t ≢ at) × (f t ≡ Some d)). sound.ascending t d t3.2) more) (cases t d is);
    apart = cut_apart;
  }

  cut_same : StandAlike f g
  cut_same id b = (
    λ in_g. let t = in_g.0 in let d = in_g.1 in
        ⊎_elim (λ (t1 : (t ≡ s) × (d ≡ ended c at)). let end : d.end ≡ at = ap (λ x. x.end) t1.1 in (s, c, at_s, omega (arith, ints, t1.0, in_g.3), omega (arith, ints, in_g.4), rw (ap (λ x. x.ids) t1.1) at in_g.5))
        (λ more. ⊎_elim (λ (t2 : (t ≡ at) × (d ≡ c)). let end : d.end ≡ c.end = ap (λ x. x.end) t2.1 in (s, c, at_s, omega (arith, ints, t2.0, in_g.3), omega (arith, ints, in_g.4), rw (ap (λ x. x.ids) t2.1) at in_g.5))
        (λ (t3 : (t ≢ s) × (t ≢ at) × (f t ≡ Some d)). (t, d, t3.2, in_g.3, in_g.4, in_g.5)) more) (cases t d in_g.2),
    λ in_f. let t = in_f.0 in let d = in_f.1 in
        ⊎_elim (λ (lt : t <ℤ s). (t, d, stays t d in_f.2 (λ e. absurd (omega (arith, ints))), in_f.3, in_f.4, in_f.5))
        (λ more. ⊎_elim (λ (e : t ≡ s). let same = same_some d c (f t) in_f.2 (ap f e ∙ at_s) in let end : d.end ≡ c.end = ap (λ x. x.end) same in
        ⊎_elim (λ (l : b <ℤ at). (s, ended c at, lower, omega (arith, ints, e, in_f.3), l, rw (ap (λ x. x.ids) same) at in_f.5))
        (λ more. (at, c, upper, ⊎_elim (λ (q : b ≡ at). omega (arith, ints, q)) (λ (q : at <ℤ b). omega (arith, ints, q)) more, omega (arith, ints, in_f.4), rw (ap (λ x. x.ids) same) at in_f.5)) (in_order b at))
        (λ (gt : s <ℤ t). (t, d, stays t d in_f.2 (λ e. absurd (omega (arith, ints))), in_f.3, in_f.4, in_f.5)) more) (in_order t s),
  )

  cut_boundaries : (x : ℤ) → IsBoundary g x → IsBoundary f x ⊎ (x ≡ at)
  cut_boundaries x bound = let t = bound.0 in let d = bound.1 in
      ⊎_elim (λ (t1 : (t ≡ s) × (d ≡ ended c at)). ⊎_elim (λ (e : x ≡ t). inl (s, c, at_s, inl (e ∙ t1.0))) (λ (e : x ≡ d.end). inr (e ∙ ap (λ x. x.end) t1.1)) bound.3)
      (λ more. ⊎_elim (λ (t2 : (t ≡ at) × (d ≡ c)). ⊎_elim (λ (e : x ≡ t). inr (e ∙ t2.0)) (λ (e : x ≡ d.end). inl (s, c, at_s, inr (e ∙ ap (λ x. x.end) t2.1))) bound.3)
      (λ (t3 : (t ≢ s) × (t ≢ at) × (f t ≡ Some d)). inl (t, d, t3.2, bound.3)) more) (cases t d bound.2)

  cut_cuts : (x : ℤ) → IsCut f x → IsCut g x
  cut_cuts x is_cut t d is lt =
      ⊎_elim (λ (t1 : (t ≡ s) × (d ≡ ended c at)). let end : d.end ≡ at = ap (λ x. x.end) t1.1 in let far = is_cut s c at_s (omega (arith, ints, t1.0)) in omega (arith, ints))
      (λ more. ⊎_elim (λ (t2 : (t ≡ at) × (d ≡ c)). let end : d.end ≡ c.end = ap (λ x. x.end) t2.1 in let far = is_cut s c at_s (omega (arith, ints, t2.0)) in omega (arith, ints))
      (λ (t3 : (t ≢ s) × (t ≢ at) × (f t ≡ Some d)). is_cut t d t3.2 lt) more) (cases t d is)

  cut_there : IsCut g at
  cut_there t d is lt =
      ⊎_elim (λ (t1 : (t ≡ s) × (d ≡ ended c at)). let end : d.end ≡ at = ap (λ x. x.end) t1.1 in omega (arith, ints))
      (λ more. ⊎_elim (λ (t2 : (t ≡ at) × (d ≡ c)). absurd (omega (arith, ints, t2.0)))
      (λ (t3 : (t ≢ s) × (t ≢ at) × (f t ≡ Some d)). ⊎_elim (λ (l : d.end ≤ℤ s). omega (arith, ints)) (λ (g : c.end ≤ℤ t). absurd (omega (arith, ints))) (other_apart t d t3.0 t3.2)) more) (cases t d is)

  pub cut_all : Cuts f at g
  cut_all = record { sound = cut_sound; same = cut_same; boundaries = cut_boundaries; cuts = cut_cuts }

  pub cut_at : IsCut g at
  cut_at = cut_there

-- nothing has to be cut
pub cut_none : (f : Table) (at : ℤ) → IsSound f → Cuts f at f
cut_none f at sound = record { sound = sound; same = λ id b. (λ x. x, λ x. x); boundaries = λ x bound. inl bound; cuts = λ x is. is }

-- the last cell that begins before a byte ends there at the latest, so none is to be cut
pub cut_by_last : (f : Table) (at : ℤ) → IsSound f → (s : ℤ) (c : Cell) → f s ≡ Some c → s <ℤ at → ((start : ℤ) → s <ℤ start → start <ℤ at → f start ≡ None) → c.end ≤ℤ at → IsCut f at
cut_by_last f at sound s c at_s low last short t d is lt =
    ⊎_elim (λ (l : t <ℤ s). let far = sound.apart t d s c is at_s l in omega (arith, ints))
    (λ more. ⊎_elim (λ (e : t ≡ s). let same = same_some d c (f t) is (ap f e ∙ at_s) in let end : d.end ≡ c.end = ap (λ x. x.end) same in omega (arith, ints))
    (λ (g : s <ℤ t). absurd (not_none d (f t) is (last t g lt))) more) (in_order t s)
