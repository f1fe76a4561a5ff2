-- Several changes, one after another.
use Rattle.std.proofs.Common.{◌≡◌, ◌≢◌, ℕ, None, sym, refl, ap, ◌∙◌, arith, inl, inr, ◌⊎◌, ◌↔◌, ⊎_elim, subst}
use Rattle.std.specs.Prelude.{ℤ, pos, ◌-ℤ◌, ◌≤ℤ◌, ◌<ℤ◌}
use Rattle.std.proofs.lemmas.Int.{ints, by_lt_z}
use Rattle.rma_cells.specs.Cells.{AreAlike}
use Rattle.rma_cells.specs.inside.Table.{Table, Stands, IsSound, IsBoundary, IsCut, IsMaximal, IsNormal, IsSameTable, IsBetween, StandAlike, Cuts, CutsEnds, Merges, Grows, Clears, ClearsRun}
use Rattle.std.proofs.Math.Path.{fun_ext}
use Rattle.std.proofs.lemmas.Bool.{cases_eq}
use Rattle.rma_cells.proofs.TableLemmas.{in_order, same_some, not_none, stands_in}

-- tables with the same entries are equal
pub same_table : (f g : Table) → IsSameTable f g → f ≡ g
same_table f g same = sym (fun_ext same)

pub stand_alike_by_same : (f g : Table) → IsSameTable f g → StandAlike f g
stand_alike_by_same f g same = subst (λ (x : Table). StandAlike f x) (same_table f g same) (λ id b. (λ x. x, λ x. x))

pub alike_refl : (f : Table) → StandAlike f f
alike_refl f id b = (λ x. x, λ x. x)

pub alike_trans : (f g h : Table) → StandAlike f g → StandAlike g h → StandAlike f h
alike_trans f g h one two id b = (λ x. (one id b).0 ((two id b).0 x), λ x. (two id b).1 ((one id b).1 x))

-- two bytes that are alike in one table are alike in another in which the same ids stand
pub alike_in : (f g : Table) → StandAlike f g → (a b : ℤ) → AreAlike (Stands g) a b → AreAlike (Stands f) a b
alike_in f g same a b alike id = (λ x. (same id b).0 ((alike id).0 ((same id a).1 x)), λ x. (same id a).0 ((alike id).1 ((same id b).1 x)))

-- no cell has a byte where one begins or ends and the byte before
pub boundary_cut : (f : Table) → IsSound f → (x : ℤ) → IsBoundary f x → IsCut f x
boundary_cut f sound x bound u e is lt =
    let t = bound.0 in let d = bound.1 in
    ⊎_elim (λ (q : x ≡ t). let far = sound.apart u e t d is bound.2 (omega (arith, ints)) in omega (arith, ints))
    (λ (q : x ≡ d.end). ⊎_elim (λ (l : u <ℤ t). let far = sound.apart u e t d is bound.2 l in let filled = sound.filled t d bound.2 in omega (arith, ints))
    (λ more. ⊎_elim (λ (p : u ≡ t). let end : e.end ≡ d.end = ap (λ k. k.end) (same_some e d (f u) is (ap f p ∙ bound.2)) in omega (arith, ints))
    (λ (g : t <ℤ u). absurd (let far = sound.apart t d u e bound.2 is g in omega (arith, ints))) more) (in_order u t)) bound.3

-- nothing stands where no cell begins
pub nothing_there : (f : Table) (from to : ℤ) → IsCut f from → ((q : ℤ) → from ≤ℤ q → q <ℤ to → f q ≡ None) → (id : ℕ) (b : ℤ) → Stands f id b → IsBetween from to b → ⊥
nothing_there f from to is_cut none id b stands within =
    by_lt_z stands.0 from (λ lt. let far = is_cut stands.0 stands.1 stands.2 lt in omega (arith, ints, stands.4, within.0))
    (λ ge. not_none stands.1 (f stands.0) stands.2 (none stands.0 ge (omega (arith, ints, stands.3, within.1))))

-- ---- both ends are cut
pub ends_fail : (f f₁ g : Table) (start : ℤ) → IsNormal f → Cuts f start f₁ → Merges f₁ start g → StandAlike f g × IsNormal g
ends_fail f f₁ g start normal cuts merges =
    let same = alike_trans f f₁ g cuts.same merges.same in (
      same,
      record {
        sound = merges.sound;
        maximal = λ x bound alike.
            ⊎_elim (λ (old : IsBoundary f x). normal.maximal x old (alike_in f g same _ _ alike))
            (λ (e : x ≡ start). merges.apart (rw e at bound) (rw e at alike)) (cuts.boundaries x (merges.boundaries x bound));
      },
    )

pub ends_cut : (f f₁ g : Table) (start end : ℤ) → Cuts f start f₁ → IsCut f₁ start → Cuts f₁ end g → IsCut g end → CutsEnds f start end g
ends_cut f f₁ g start end one cut_start two cut_end = record {
  sound = two.sound;
  boundaries = λ x bound. ⊎_elim (λ (old : IsBoundary f₁ x). ⊎_elim (λ (older : IsBoundary f x). inl older) (λ (e : x ≡ start). inr (inl e)) (one.boundaries x old)) (λ (e : x ≡ end). inr (inr e)) (two.boundaries x bound);
  cut = two.cuts start cut_start;
  cut_end = cut_end;
}

-- ---- an id comes
pub grows_none : (f : Table) (id : ℕ) (at before : ℤ) → IsSound f → at ≤ℤ before → Grows f id at at before f
grows_none f id at before sound within = record {
  sound = sound;
  up = omega (arith, ints);
  within = within;
  stands = λ other b. (λ x. inl x, λ or. ⊎_elim (λ (x : Stands f other b). x) (λ (new : (other ≡ id) × IsBetween at at b). absurd (omega (arith, ints, new.1.0, new.1.1))) or);
  boundaries = λ x bound. inl bound;
  cuts = λ x is _. is;
}

pub grows_more : (f h g : Table) (id : ℕ) (from at to before : ℤ) → Grows f id from at before h → Grows h id at to before g → (from ≡ at) ⊎ IsBoundary h at → Grows f id from to before g
grows_more f h g id from at to before one two edge = record {
  sound = two.sound;
  up = omega (arith, ints, one.up, two.up);
  within = two.within;
  stands = λ other b. (
    λ in_g. ⊎_elim (λ (in_h : Stands h other b). ⊎_elim (λ (in_f : Stands f other b). inl in_f) (λ (new : (other ≡ id) × IsBetween from at b). inr (new.0, (new.1.0, omega (arith, ints, new.1.1, two.up)))) ((one.stands other b).0 in_h))
        (λ (new : (other ≡ id) × IsBetween at to b). inr (new.0, (omega (arith, ints, new.1.0, one.up), new.1.1))) ((two.stands other b).0 in_g),
    λ or. ⊎_elim (λ (in_f : Stands f other b). (two.stands other b).1 (inl ((one.stands other b).1 (inl in_f))))
        (λ (new : (other ≡ id) × IsBetween from to b). by_lt_z b at (λ lt. (two.stands other b).1 (inl ((one.stands other b).1 (inr (new.0, (new.1.0, lt))))))
        (λ ge. (two.stands other b).1 (inr (new.0, (ge, new.1.1))))) or,
  );
  boundaries = λ x bound. ⊎_elim (λ (in_h : IsBoundary h x). one.boundaries x in_h)
      (λ more. ⊎_elim (λ (e : x ≡ at). ⊎_elim (λ (s : from ≡ at). inr (inl (e ∙ sym s))) (λ (there : IsBoundary h at). one.boundaries x (rw e there)) edge) (λ (e : x ≡ before). inr (inr e)) more) (two.boundaries x bound);
  cuts = λ x is out. two.cuts x (one.cuts x is (⊎_elim (λ (l : x ≤ℤ from). inl l) (λ (r : to ≤ℤ x). inr (omega (arith, ints, two.up))) out)) (⊎_elim (λ (l : x ≤ℤ from). inl (omega (arith, ints, one.up))) (λ (r : to ≤ℤ x). inr r) out);
}

-- ---- an id goes
pub clears_none : (f : Table) (id : ℕ) (from to : ℤ) → IsSound f → IsCut f from → ((q : ℤ) → from ≤ℤ q → q <ℤ to → f q ≡ None) → Clears f id from to f
clears_none f id from to sound is_cut none = record {
  sound = sound;
  stands = λ other b. (λ x. (x, λ _ within. nothing_there f from to is_cut none other b x within), λ both. both.0);
  boundaries = λ x bound. bound;
  cuts = λ x is. is;
}

pub clears_empty : (f : Table) (id : ℕ) (at : ℤ) → IsSound f → Clears f id at at f
clears_empty f id at sound = record {
  sound = sound;
  stands = λ other b. (λ x. (x, λ _ within. absurd (omega (arith, ints, within.0, within.1))), λ both. both.0);
  boundaries = λ x bound. bound;
  cuts = λ x is. is;
}

pub clears_more : (f h g : Table) (id : ℕ) (from at to : ℤ) → Clears f id from at h → Clears h id at to g → from ≤ℤ at → at ≤ℤ to → Clears f id from to g
clears_more f h g id from at to one two up down = record {
  sound = two.sound;
  stands = λ other b. (
    λ in_g. let h_and = (two.stands other b).0 in_g in let f_and = (one.stands other b).0 h_and.0 in
        (f_and.0, λ e within. by_lt_z b at (λ lt. f_and.1 e (within.0, lt)) (λ ge. h_and.1 e (ge, within.1))),
    λ both. (two.stands other b).1 ((one.stands other b).1 (both.0, λ e within. both.1 e (within.0, omega (arith, ints, within.1))), λ e within. both.1 e (omega (arith, ints, within.0), within.1)),
  );
  boundaries = λ x bound. one.boundaries x (two.boundaries x bound);
  cuts = λ x is. two.cuts x (one.cuts x is);
}

pub clears_run : (f h₁ h₂ g : Table) (id : ℕ) (from to : ℤ) → Clears f id from to h₁ → Merges h₁ from h₂ → Merges h₂ to g → ClearsRun f id from to g
clears_run f h₁ h₂ g id from to clears first second =
    let same = alike_trans h₁ h₂ g first.same second.same in
    record {
      sound = second.sound;
      stands = λ other b. (λ in_g. (clears.stands other b).0 ((same other b).0 in_g), λ both. (same other b).1 ((clears.stands other b).1 both));
      boundaries = λ x bound. clears.boundaries x (first.boundaries x (second.boundaries x bound));
      apart = λ x bound or alike. ⊎_elim (λ (e : x ≡ from). first.apart (second.boundaries from (rw e at bound)) (alike_in h₂ g second.same _ _ (rw e at alike))) (λ (e : x ≡ to). second.apart (rw e at bound) (rw e at alike)) or;
    }

-- ---- a run of an id
-- an id that stands neither on the bytes of a run nor beside them has come to stand on them
module _ (f f₁ : Table) (id : ℕ) (start end : ℤ) (normal : IsNormal f) (some : start <ℤ end) (away : (b : ℤ) → (start -ℤ pos 1) ≤ℤ b → b ≤ℤ end → Stands f id b → ⊥) (same : StandAlike f f₁) (cuts : CutsEnds f start end f₁) where
  added : (g : Table) → Grows f₁ id start end end g → (other : ℕ) (b : ℤ) → Stands g other b ↔ (Stands f other b ⊎ ((other ≡ id) × IsBetween start end b))
  added g grows other b = (
    λ in_g. ⊎_elim (λ (in_f₁ : Stands f₁ other b). inl ((same other b).0 in_f₁)) (λ (new : (other ≡ id) × IsBetween start end b). inr new) ((grows.stands other b).0 in_g),
    λ or. (grows.stands other b).1 (⊎_elim (λ (in_f : Stands f other b). inl ((same other b).1 in_f)) (λ (new : (other ≡ id) × IsBetween start end b). inr new) or),
  )

  -- two bytes that are alike then, both in the run or both outside, were alike
  were_alike : (g : Table) → Grows f₁ id start end end g → (x : ℤ) → x ≢ start → x ≢ end → AreAlike (Stands g) (x -ℤ pos 1) x → AreAlike (Stands f) (x -ℤ pos 1) x
  were_alike g grows x not_start not_end alike other = (
    λ before. ⊎_elim (λ (in_f : Stands f other x). in_f) (λ (new : (other ≡ id) × IsBetween start end x). absurd (away (x -ℤ pos 1) (omega (arith, ints, new.1.0)) (omega (arith, ints, new.1.1)) (rw (← new.0) before)))
        ((added g grows other x).0 ((alike other).0 ((added g grows other (x -ℤ pos 1)).1 (inl before)))),
    λ here. ⊎_elim (λ (in_f : Stands f other (x -ℤ pos 1)). in_f) (λ (new : (other ≡ id) × IsBetween start end (x -ℤ pos 1)). absurd (away x (omega (arith, ints, new.1.0)) (omega (arith, ints, new.1.1)) (rw (← new.0) here)))
        ((added g grows other (x -ℤ pos 1)).0 ((alike other).1 ((added g grows other x).1 (inl here)))),
  )

  starts_apart : (g : Table) → Grows f₁ id start end end g → AreAlike (Stands g) (start -ℤ pos 1) start → ⊥
  starts_apart g grows alike =
      ⊎_elim (λ (in_f : Stands f id (start -ℤ pos 1)). away (start -ℤ pos 1) (omega (arith, ints)) (omega (arith, ints)) in_f) (λ (new : (id ≡ id) × IsBetween start end (start -ℤ pos 1)). omega (arith, ints, new.1.0))
      ((added g grows id (start -ℤ pos 1)).0 ((alike id).1 ((added g grows id start).1 (inr (refl, (omega (arith, ints), some))))))

  ends_apart : (g : Table) → Grows f₁ id start end end g → AreAlike (Stands g) (end -ℤ pos 1) end → ⊥
  ends_apart g grows alike =
      ⊎_elim (λ (in_f : Stands f id end). away end (omega (arith, ints)) (omega (arith, ints)) in_f) (λ (new : (id ≡ id) × IsBetween start end end). omega (arith, ints, new.1.1))
      ((added g grows id end).0 ((alike id).0 ((added g grows id (end -ℤ pos 1)).1 (inr (refl, (omega (arith, ints), omega (arith, ints)))))))

  pub run_added : (g : Table) → Grows f₁ id start end end g → IsNormal g × ((other : ℕ) (b : ℤ) → Stands g other b ↔ (Stands f other b ⊎ ((other ≡ id) × IsBetween start end b)))
  run_added g grows = (record { sound = grows.sound; maximal = λ x bound alike. apart x bound alike }, added g grows)
    where
      old : (x : ℤ) → IsBoundary g x → IsBoundary f x ⊎ ((x ≡ start) ⊎ (x ≡ end))
      old x bound = ⊎_elim (λ (in_f₁ : IsBoundary f₁ x). cuts.boundaries x in_f₁) (λ or. inr or) (grows.boundaries x bound)

      apart : (x : ℤ) → IsBoundary g x → AreAlike (Stands g) (x -ℤ pos 1) x → ⊥
      apart x bound alike = at_start (in_order x start)
        where
          neither : x ≢ start → x ≢ end → ⊥
          neither not_start not_end = ⊎_elim (λ (b : IsBoundary f x). normal.maximal x b (were_alike g grows x not_start not_end alike)) (λ or. ⊎_elim (λ (e : x ≡ start). not_start e) (λ (e : x ≡ end). not_end e) or) (old x bound)

          at_end : x ≢ start → (x <ℤ end) ⊎ ((x ≡ end) ⊎ (end <ℤ x)) → ⊥
          at_end not_start (inl lt) = neither not_start (λ e. omega (arith, ints))
          at_end not_start (inr (inl e)) = ends_apart g grows (rw e at alike)
          at_end not_start (inr (inr gt)) = neither not_start (λ e. omega (arith, ints))

          at_start : (x <ℤ start) ⊎ ((x ≡ start) ⊎ (start <ℤ x)) → ⊥
          at_start (inl lt) = at_end (λ e. omega (arith, ints)) (in_order x end)
          at_start (inr (inl e)) = starts_apart g grows (rw e at alike)
          at_start (inr (inr gt)) = at_end (λ e. omega (arith, ints)) (in_order x end)

  -- it had come to stand on some first bytes of the run, and is gone again
  pub run_undone : (h g : Table) (to : ℤ) → Grows f₁ id start to end h → ClearsRun h id start end g → IsNormal g × StandAlike f g
  run_undone h g to grows clears = (record { sound = clears.sound; maximal = apart }, alike)
    where
      alike : StandAlike f g
      alike other b = (
        λ in_g. let both = (clears.stands other b).0 in_g in
            ⊎_elim (λ (in_f₁ : Stands f₁ other b). (same other b).0 in_f₁) (λ (new : (other ≡ id) × IsBetween start to b). absurd (both.1 new.0 (new.1.0, omega (arith, ints, new.1.1, grows.within)))) ((grows.stands other b).0 both.0),
        λ in_f. (clears.stands other b).1 ((grows.stands other b).1 (inl ((same other b).1 in_f)), λ e within. away b (omega (arith, ints, within.0)) (omega (arith, ints, within.1)) (rw (← e) in_f)),
      )

      apart : IsMaximal g
      apart x bound are_alike =
          ⊎_elim (λ (in_f₁ : IsBoundary f₁ x). ⊎_elim (λ (in_f : IsBoundary f x). normal.maximal x in_f (alike_in f g alike _ _ are_alike)) (λ or. clears.apart x bound or are_alike) (cuts.boundaries x in_f₁))
          (λ or. clears.apart x bound or are_alike) (grows.boundaries x (clears.boundaries x bound))

-- an id that stands on the bytes of a run and not beside them
module _ (f : Table) (id : ℕ) (start end : ℤ) (normal : IsNormal f) (some : start <ℤ end) (there : (b : ℤ) → IsBetween start end b → Stands f id b) (first : Stands f id (start -ℤ pos 1) → ⊥) (last : Stands f id end → ⊥) where
  pub run_cut : IsCut f start
  run_cut u e is lt = by_lt_z start e.end (λ over. absurd (first (u, e, is, omega (arith, ints), omega (arith, ints), stands_in f normal.sound u e id start is (omega (arith, ints), over) (there start (omega (arith, ints), some))))) (λ le. le)

  pub run_cut_end : IsCut f end
  run_cut_end u e is lt = by_lt_z end e.end (λ over. absurd (last (u, e, is, omega (arith, ints), over, stands_in f normal.sound u e id (end -ℤ pos 1) is (omega (arith, ints), omega (arith, ints)) (there (end -ℤ pos 1) (omega (arith, ints), omega (arith, ints)))))) (λ le. le)

  pub run_removed : (g : Table) → ClearsRun f id start end g → IsNormal g
  run_removed g clears = record { sound = clears.sound; maximal = λ x bound alike. at_start x bound alike (in_order x start) }
    where
      were_alike : (x : ℤ) → x ≢ start → x ≢ end → AreAlike (Stands g) (x -ℤ pos 1) x → AreAlike (Stands f) (x -ℤ pos 1) x
      were_alike x not_start not_end alike other = (
        λ before. by_id (λ (is : (other ≡ id) × IsBetween start end (x -ℤ pos 1)). rw is.0 (there x (omega (arith, ints, is.1.0), omega (arith, ints, is.1.1))))
            (λ out. ((clears.stands other x).0 ((alike other).0 ((clears.stands other (x -ℤ pos 1)).1 (before, out)))).0),
        λ here. by_id (λ (is : (other ≡ id) × IsBetween start end x). rw is.0 (there (x -ℤ pos 1) (omega (arith, ints, is.1.0), omega (arith, ints, is.1.1))))
            (λ out. ((clears.stands other (x -ℤ pos 1)).0 ((alike other).1 ((clears.stands other x).1 (here, out)))).0),
      )
        where
          by_id : {P : Type 0} {b : ℤ} → ((other ≡ id) × IsBetween start end b → P) → ((other ≡ id → IsBetween start end b → ⊥) → P) → P
          by_id {P} {b} inside outside = ⊎_elim (λ (e : other ≡ id). by_lt_z b start (λ lt. outside (λ _ w. omega (arith, ints, w.0))) (λ ge. by_lt_z b end (λ lt. inside (e, (ge, lt))) (λ far. outside (λ _ w. omega (arith, ints, w.1))))) (λ (ne : other ≢ id). outside (λ e _. ne e)) (cases_eq other id)

      neither : (x : ℤ) → IsBoundary g x → AreAlike (Stands g) (x -ℤ pos 1) x → x ≢ start → x ≢ end → ⊥
      neither x bound alike not_start not_end = normal.maximal x (clears.boundaries x bound) (were_alike x not_start not_end alike)

      at_end : (x : ℤ) → IsBoundary g x → AreAlike (Stands g) (x -ℤ pos 1) x → x ≢ start → (x <ℤ end) ⊎ ((x ≡ end) ⊎ (end <ℤ x)) → ⊥
      at_end x bound alike not_start (inl lt) = neither x bound alike not_start (λ e. omega (arith, ints))
      at_end x bound alike not_start (inr (inl e)) = clears.apart x bound (inr e) alike
      at_end x bound alike not_start (inr (inr gt)) = neither x bound alike not_start (λ e. omega (arith, ints))

      at_start : (x : ℤ) → IsBoundary g x → AreAlike (Stands g) (x -ℤ pos 1) x → (x <ℤ start) ⊎ ((x ≡ start) ⊎ (start <ℤ x)) → ⊥
      at_start x bound alike (inl lt) = at_end x bound alike (λ e. omega (arith, ints)) (in_order x end)
      at_start x bound alike (inr (inl e)) = clears.apart x bound (inl e) alike
      at_start x bound alike (inr (inr gt)) = at_end x bound alike (λ e. omega (arith, ints)) (in_order x end)
