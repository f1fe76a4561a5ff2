-- A cell whose ids change, one that comes into a gap, and one that goes.
use Rattle.std.proofs.Common.{◌≡◌, ◌≢◌, ℕ, [], ◌∷◌, Option, Some, None, sym, refl, ap, ◌∙◌, arith, inl, inr, ◌⊎◌, ⊎_elim}
use Rattle.std.specs.Prelude.{ℤ, ◌≤ℤ◌, ◌<ℤ◌}
use Rattle.std.specs.List.{Contains}
use Rattle.std.specs.List.Sorted.{IsStrictlyIncreasing}
use Rattle.std.proofs.lemmas.Int.{ints, by_lt_z}
use Rattle.rma_cells.specs.Cell.{Cell}
use Rattle.rma_cells.specs.inside.Table.{Table, Stands, IsSound, IsBoundary, IsCut, Puts, IsBetween, Grows, Clears}
use Rattle.rma_cells.specs.inside.Table.{Inserts, Removes}
use Rattle.rma_cells.proofs.TableLemmas.{same_some, not_none, put_cases, one_start, stands_in}
use Rattle.rma_cells.proofs.IdLemmas.{contains_nil, contains_cons, contains_head}

-- the ids of a cell change
module _ (f g : Table) (sound : IsSound f) (s : ℤ) (c d : Cell) (at_s : f s ≡ Some c) (puts : Puts f s (Some d) g) (same_end : d.end ≡ c.end) where
  here_or_there : (t : ℤ) (e : Cell) → g t ≡ Some e → ((t ≡ s) × (e ≡ d)) ⊎ ((t ≢ s) × (f t ≡ Some e))
  here_or_there t e is = ⊎_elim (λ (one : (t ≡ s) × (Some d ≡ Some e)). inl (one.0, cc)) (λ (two : (t ≢ s) × (f t ≡ Some e)). inr two) (put_cases f s (Some d) g puts t e is)

  -- each cell of the new table is one of the old, up to its ids
  was : (t : ℤ) (e : Cell) → g t ≡ Some e → (o : Cell) × (f t ≡ Some o) × (o.end ≡ e.end)
  was t e is =
      ⊎_elim (λ (one : (t ≡ s) × (e ≡ d)). (c, ap f one.0 ∙ at_s, sym same_end ∙ sym (ap (λ x. x.end) one.1))) (λ (two : (t ≢ s) × (f t ≡ Some e)). (e, two.1, refl)) (here_or_there t e is)

  pub set_sound : IsStrictlyIncreasing d.ids → (id : ℕ) × Contains d.ids id → IsSound g
  set_sound up some = record {
    filled = λ t e is. let o = was t e is in let far = sound.filled t o.0 o.1 in omega (arith, ints, far, o.2);
    some = λ t e is. ⊎_elim (λ (one : (t ≡ s) × (e ≡ d)). rw one.1 some) (λ (two : (t ≢ s) × (f t ≡ Some e)). sound.some t e two.1) (here_or_there t e is);
    ascending = λ t e is. ⊎_elim (λ (one : (t ≡ s) × (e ≡ d)). rw one.1 up) (λ (two : (t ≢ s) × (f t ≡ Some e)). sound.ascending t e two.1) (here_or_there t e is);
    apart = λ t e u k is_t is_u lt. let o = was t e is_t in let p = was u k is_u in let far = sound.apart t o.0 u p.0 o.1 p.1 lt in omega (arith, ints, far, o.2);
  }

  pub set_boundaries : (x : ℤ) → IsBoundary g x → IsBoundary f x
  set_boundaries x bound = let o = was bound.0 bound.1 bound.2 in
      (bound.0, o.0, o.1, ⊎_elim (λ (e : x ≡ bound.0). inl e) (λ (e : x ≡ bound.1.end). inr (e ∙ sym o.2)) bound.3)

  pub set_cuts : (x : ℤ) → IsCut f x → IsCut g x
  set_cuts x is_cut t e is lt = let o = was t e is in let far = is_cut t o.0 o.1 lt in omega (arith, ints, far, o.2)

  -- what stands in the new table
  pub set_to : (id : ℕ) (b : ℤ) → Stands g id b → (IsBetween s c.end b × Contains d.ids id) ⊎ ((IsBetween s c.end b → ⊥) × Stands f id b)
  set_to id b stands = let t = stands.0 in let e = stands.1 in
      ⊎_elim (λ (one : (t ≡ s) × (e ≡ d)). let end : e.end ≡ d.end = ap (λ x. x.end) one.1 in inl ((omega (arith, ints, one.0, stands.3), omega (arith, ints, stands.4)), rw (ap (λ x. x.ids) one.1) at stands.5))
      (λ (two : (t ≢ s) × (f t ≡ Some e)). inr (λ within. absurd (two.0 (one_start f sound t e s c b two.1 at_s (stands.3, stands.4) within)), (t, e, two.1, stands.3, stands.4, stands.5))) (here_or_there t e stands.2)

  pub set_from_here : (id : ℕ) (b : ℤ) → IsBetween s c.end b → Contains d.ids id → Stands g id b
  set_from_here id b within has = (s, d, puts.here, within.0, omega (arith, ints, within.1), has)

  pub set_from_there : (id : ℕ) (b : ℤ) → (IsBetween s c.end b → ⊥) → Stands f id b → Stands g id b
  set_from_there id b out stands = let t = stands.0 in let e = stands.1 in
      let apart : t ≢ s = λ q. out (let same = same_some e c (f t) stands.2 (ap f q ∙ at_s) in let end : e.end ≡ c.end = ap (λ x. x.end) same in (omega (arith, ints, q, stands.3), omega (arith, ints, stands.4))) in
      (t, e, puts.others t apart ∙ stands.2, stands.3, stands.4, stands.5)

-- a cell goes
module _ (f g : Table) (sound : IsSound f) (s : ℤ) (c : Cell) (at_s : f s ≡ Some c) (puts : Puts f s None g) where
  kept : (t : ℤ) (e : Cell) → g t ≡ Some e → (t ≢ s) × (f t ≡ Some e)
  kept t e is = ⊎_elim (λ (one : (t ≡ s) × (None ≡ Some e)). absurd (not_none e None one.1 refl)) (λ (two : (t ≢ s) × (f t ≡ Some e)). two) (put_cases f s None g puts t e is)

  pub take_sound : IsSound g
  take_sound = record {
    filled = λ t e is. sound.filled t e (kept t e is).1;
    some = λ t e is. sound.some t e (kept t e is).1;
    ascending = λ t e is. sound.ascending t e (kept t e is).1;
    apart = λ t e u k is_t is_u lt. sound.apart t e u k (kept t e is_t).1 (kept u k is_u).1 lt;
  }

  pub take_boundaries : (x : ℤ) → IsBoundary g x → IsBoundary f x
  take_boundaries x bound = (bound.0, bound.1, (kept bound.0 bound.1 bound.2).1, bound.3)

  pub take_cuts : (x : ℤ) → IsCut f x → IsCut g x
  take_cuts x is_cut t e is lt = is_cut t e (kept t e is).1 lt

  pub take_to : (id : ℕ) (b : ℤ) → Stands g id b → (IsBetween s c.end b → ⊥) × Stands f id b
  take_to id b stands = let two = kept stands.0 stands.1 stands.2 in
      (λ within. two.0 (one_start f sound stands.0 stands.1 s c b two.1 at_s (stands.3, stands.4) within), (stands.0, stands.1, two.1, stands.3, stands.4, stands.5))

  pub take_from : (id : ℕ) (b : ℤ) → (IsBetween s c.end b → ⊥) → Stands f id b → Stands g id b
  take_from id b out stands = let t = stands.0 in let e = stands.1 in
      let apart : t ≢ s = λ q. out (let same = same_some e c (f t) stands.2 (ap f q ∙ at_s) in let end : e.end ≡ c.end = ap (λ x. x.end) same in (omega (arith, ints, q, stands.3), omega (arith, ints, stands.4))) in
      (t, e, puts.others t apart ∙ stands.2, stands.3, stands.4, stands.5)

-- an id is put on the bytes of a cell
pub grows_by_insert : (f g : Table) (id : ℕ) (s : ℤ) (c d : Cell) (before : ℤ) → IsSound f → f s ≡ Some c → Puts f s (Some d) g → Inserts c id d → c.end ≤ℤ before → Grows f id s c.end before g
grows_by_insert f g id s c d before sound at_s puts more within = record {
  sound = set_sound f g sound s c d at_s puts more.end more.ascending (let some = sound.some s c at_s in (some.0, (more.ids some.0).1 (inl some.1)));
  up = let far = sound.filled s c at_s in omega (arith, ints);
  within = within;
  stands = λ other b. (
    λ in_g. ⊎_elim (λ (here : IsBetween s c.end b × Contains d.ids other). ⊎_elim (λ (h : Contains c.ids other). inl (s, c, at_s, here.0.0, here.0.1, h)) (λ (e : other ≡ id). inr (e, here.0)) ((more.ids other).0 here.1))
        (λ (there : (IsBetween s c.end b → ⊥) × Stands f other b). inl there.1) (set_to f g sound s c d at_s puts more.end other b in_g),
    λ or. ⊎_elim (λ (stands : Stands f other b). by_lt_z b s (λ lt. set_from_there f g sound s c d at_s puts more.end other b (λ w. absurd (omega (arith, ints, w.0))) stands)
        (λ ge. by_lt_z b c.end (λ lt. set_from_here f g sound s c d at_s puts more.end other b (ge, lt) ((more.ids other).1 (inl (stands_in f sound s c other b at_s (ge, lt) stands))))
        (λ far. set_from_there f g sound s c d at_s puts more.end other b (λ w. absurd (omega (arith, ints, w.1))) stands)))
        (λ (new : (other ≡ id) × IsBetween s c.end b). set_from_here f g sound s c d at_s puts more.end other b new.1 ((more.ids other).1 (inr new.0))) or,
  );
  boundaries = λ x bound. inl (set_boundaries f g sound s c d at_s puts more.end x bound);
  cuts = λ x is_cut _. set_cuts f g sound s c d at_s puts more.end x is_cut;
}

-- an id is taken off a cell on which others stand
pub clears_by_remove : (f g : Table) (id : ℕ) (s : ℤ) (c d : Cell) → IsSound f → f s ≡ Some c → Puts f s (Some d) g → Removes c id d → (other : ℕ) × Contains d.ids other → Clears f id s c.end g
clears_by_remove f g id s c d sound at_s puts less some = record {
  sound = set_sound f g sound s c d at_s puts less.end less.ascending some;
  stands = λ other b. (
    λ in_g. ⊎_elim (λ (here : IsBetween s c.end b × Contains d.ids other). let was = (less.ids other).0 here.1 in ((s, c, at_s, here.0.0, here.0.1, was.0), λ e _. was.1 e))
        (λ (there : (IsBetween s c.end b → ⊥) × Stands f other b). (there.1, λ _ within. there.0 within)) (set_to f g sound s c d at_s puts less.end other b in_g),
    λ both. by_lt_z b s (λ lt. set_from_there f g sound s c d at_s puts less.end other b (λ w. absurd (omega (arith, ints, w.0))) both.0)
        (λ ge. by_lt_z b c.end (λ lt. set_from_here f g sound s c d at_s puts less.end other b (ge, lt) ((less.ids other).1 (stands_in f sound s c other b at_s (ge, lt) both.0, λ e. both.1 e (ge, lt))))
        (λ far. set_from_there f g sound s c d at_s puts less.end other b (λ w. absurd (omega (arith, ints, w.1))) both.0)),
  );
  boundaries = set_boundaries f g sound s c d at_s puts less.end;
  cuts = set_cuts f g sound s c d at_s puts less.end;
}

-- an id is taken off a cell on which no other stands, and the cell with it
pub clears_by_take : (f g : Table) (id : ℕ) (s : ℤ) (c d : Cell) → IsSound f → f s ≡ Some c → Puts f s None g → Removes c id d → d.ids ≡ [] → Clears f id s c.end g
clears_by_take f g id s c d sound at_s puts less none = record {
  sound = take_sound f g sound s c at_s puts;
  stands = λ other b. (
    λ in_g. let was = take_to f g sound s c at_s puts other b in_g in (was.1, λ _ within. was.0 within),
    λ both. take_from f g sound s c at_s puts other b (λ within. only other b both.1 within (stands_in f sound s c other b at_s within both.0)) both.0,
  );
  boundaries = take_boundaries f g sound s c at_s puts;
  cuts = take_cuts f g sound s c at_s puts;
}
  where
    only : (other : ℕ) (b : ℤ) → (other ≡ id → IsBetween s c.end b → ⊥) → IsBetween s c.end b → Contains c.ids other → ⊥
    only other b not_id within has = contains_nil other (rw none at ((less.ids other).1 (has, λ e. not_id e within)))

-- two changes of one place
pub puts_twice : (f h g : Table) (s : ℤ) (x y : Option Cell) → Puts f s x h → Puts h s y g → Puts f s y g
puts_twice f h g s x y one two = record { here = two.here; others = λ t apart. two.others t apart ∙ one.others t apart }

-- a cell with one id comes into a gap
module _ (f g : Table) (sound : IsSound f) (id : ℕ) (at end before : ℤ) (is_cut : IsCut f at) (some : at <ℤ end) (within : end ≤ℤ before) (gap : (start : ℤ) → at ≤ℤ start → start <ℤ end → f start ≡ None) (next : end <ℤ before → (cell : Cell) × (f end ≡ Some cell)) (d : Cell) (d_end : d.end ≡ end) (d_ids : d.ids ≡ id ∷ []) (puts : Puts f at (Some d) g) where
  new_or_old : (t : ℤ) (e : Cell) → g t ≡ Some e → ((t ≡ at) × (e ≡ d)) ⊎ ((t ≢ at) × (f t ≡ Some e))
  new_or_old t e is = ⊎_elim (λ (one : (t ≡ at) × (Some d ≡ Some e)). inl (one.0, cc)) (λ (two : (t ≢ at) × (f t ≡ Some e)). inr two) (put_cases f at (Some d) g puts t e is)

  -- an old cell lies before the gap or after it
  beside : (t : ℤ) (e : Cell) → f t ≡ Some e → (e.end ≤ℤ at) ⊎ (end ≤ℤ t)
  beside t e is = by_lt_z t at (λ lt. inl (is_cut t e is lt)) (λ ge. by_lt_z t end (λ lt. absurd (not_none e (f t) is (gap t ge lt))) (λ far. inr far))

  not_at : (t : ℤ) (e : Cell) → f t ≡ Some e → t ≢ at
  not_at t e is q = not_none e (f t) is (gap t (omega (arith, ints)) (omega (arith, ints)))

  gap_apart : (t : ℤ) (e : Cell) (u : ℤ) (k : Cell) → g t ≡ Some e → g u ≡ Some k → t <ℤ u → e.end ≤ℤ u
  gap_apart t e u k is_t is_u lt =
      ⊎_elim (λ (t1 : (t ≡ at) × (e ≡ d)). let e_end : e.end ≡ d.end = ap (λ x. x.end) t1.1 in
      ⊎_elim (λ (u1 : (u ≡ at) × (k ≡ d)). absurd (omega (arith, ints, t1.0, u1.0)))
      (λ (u2 : (u ≢ at) × (f u ≡ Some k)). ⊎_elim (λ (l : k.end ≤ℤ at). absurd (let far = sound.filled u k u2.1 in omega (arith, ints, t1.0))) (λ (r : end ≤ℤ u). omega (arith, ints)) (beside u k u2.1)) (new_or_old u k is_u))
      (λ (t2 : (t ≢ at) × (f t ≡ Some e)).
      ⊎_elim (λ (u1 : (u ≡ at) × (k ≡ d)). ⊎_elim (λ (l : e.end ≤ℤ at). omega (arith, ints, u1.0)) (λ (r : end ≤ℤ t). absurd (omega (arith, ints, u1.0))) (beside t e t2.1))
      (λ (u2 : (u ≢ at) × (f u ≡ Some k)). sound.apart t e u k t2.1 u2.1 lt) (new_or_old u k is_u))
      (new_or_old t e is_t)

  gap_sound : IsSound g
  gap_sound = record {
    filled = λ t e is. ⊎_elim (λ (one : (t ≡ at) × (e ≡ d)). let e_end : e.end ≡ d.end = ap (λ x. x.end) one.1 in omega (arith, ints, one.0)) (λ (two : (t ≢ at) × (f t ≡ Some e)). sound.filled t e two.1) (new_or_old t e is);
    some = λ t e is. ⊎_elim (λ (one : (t ≡ at) × (e ≡ d)). (id, rw (ap (λ x. x.ids) one.1 ∙ d_ids) (contains_head id []))) (λ (two : (t ≢ at) × (f t ≡ Some e)). sound.some t e two.1) (new_or_old t e is);
    ascending = λ t e is. ⊎_elim (λ (one : (t ≡ at) × (e ≡ d)). rw (ap (λ x. x.ids) one.1 ∙ d_ids) (λ k lt. absurd (omega arith))) (λ (two : (t ≢ at) × (f t ≡ Some e)). sound.ascending t e two.1) (new_or_old t e is);
    apart = gap_apart;
  }

  pub grows_by_gap : Grows f id at end before g
  grows_by_gap = record {
    sound = gap_sound;
    up = omega (arith, ints);
    within = within;
    stands = λ other b. (
      λ in_g. let t = in_g.0 in let e = in_g.1 in
          ⊎_elim (λ (one : (t ≡ at) × (e ≡ d)). let e_end : e.end ≡ d.end = ap (λ x. x.end) one.1 in
          inr (⊎_elim (λ (q : other ≡ id). q) (λ (h : Contains [] other). absurd (contains_nil other h)) (contains_cons id [] other (rw (ap (λ x. x.ids) one.1 ∙ d_ids) at in_g.5)), (omega (arith, ints, one.0, in_g.3), omega (arith, ints, in_g.4))))
          (λ (two : (t ≢ at) × (f t ≡ Some e)). inl (t, e, two.1, in_g.3, in_g.4, in_g.5)) (new_or_old t e in_g.2),
      λ or. ⊎_elim (λ (old : Stands f other b). (old.0, old.1, puts.others old.0 (not_at old.0 old.1 old.2) ∙ old.2, old.3, old.4, old.5))
          (λ (new : (other ≡ id) × IsBetween at end b). (at, d, puts.here, new.1.0, omega (arith, ints, new.1.1), rw d_ids (rw new.0 (contains_head id [])))) or,
    );
    boundaries = λ x bound. let t = bound.0 in let e = bound.1 in
        ⊎_elim (λ (one : (t ≡ at) × (e ≡ d)). ⊎_elim (λ (q : x ≡ t). inr (inl (q ∙ one.0))) (λ (q : x ≡ e.end). ends x (q ∙ ap (λ k. k.end) one.1 ∙ d_end)) bound.3)
        (λ (two : (t ≢ at) × (f t ≡ Some e)). inl (t, e, two.1, bound.3)) (new_or_old t e bound.2);
    cuts = λ x is_there out t e is lt.
        ⊎_elim (λ (one : (t ≡ at) × (e ≡ d)). let e_end : e.end ≡ d.end = ap (λ k. k.end) one.1 in ⊎_elim (λ (l : x ≤ℤ at). absurd (omega (arith, ints, one.0))) (λ (r : end ≤ℤ x). omega (arith, ints)) out)
        (λ (two : (t ≢ at) × (f t ≡ Some e)). is_there t e two.1 lt) (new_or_old t e is);
  }
    where
      ends : (x : ℤ) → x ≡ end → IsBoundary f x ⊎ ((x ≡ at) ⊎ (x ≡ before))
      ends x q = by_lt_z end before (λ lt. let there = next lt in inl (end, there.0, there.1, inl q)) (λ ge. inr (inr (omega (arith, ints))))

-- the cell ends where it did
pub inserted_ends : (f g : Table) (id : ℕ) (s : ℤ) (c d : Cell) → Puts f s (Some d) g → Inserts c id d → IsBoundary g c.end
inserted_ends f g id s c d puts more = (s, d, puts.here, inr (sym more.end))
