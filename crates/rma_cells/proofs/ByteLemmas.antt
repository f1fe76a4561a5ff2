-- The runs of a set, one after another.
use Rattle.std.proofs.Common.{◌≡◌, ℕ, zero, suc, ◌+◌, ◌<◌, ◌≤◌, List, [], ◌∷◌, length, get_or, take, sym, refl, arith, inl, inr, ◌⊎◌, ◌↔◌, ◌≢◌, Some, slice_get, subst, ⊎_elim}
use Rattle.std.specs.Prelude.{ℤ, pos, ◌+ℤ◌, ◌-ℤ◌, ◌≤ℤ◌, ◌<ℤ◌}
use Rattle.std.proofs.lemmas.Int.{ints}
use Rattle.std.specs.List.{Contains}
use Rattle.std.specs.Prelude.{count_by}
use Rattle.std.proofs.lemmas.List.Sums.{sum_by_more, sum_by_more_le}
use Rattle.rma_cells.specs.Cell.{Cell}
use Rattle.rma_cells.specs.Looks.{is_met, looks}
use Rattle.std.proofs.lemmas.Option.{slice_get_within, get_or_from_slice_get}
use Rattle.rma_cells.specs.inside.Table.{Table, Stands, StandAlike, IsBetween}
use Rattle.rma_bytes.specs.declared.run.Run.{Run}
use Rattle.rma_bytes.specs.Runs.{end_of, IsByteOf, HasByte, IsCanonical, IsInBounds}
use Rattle.rma_bytes.proofs.RunLemmas.{byte_after, start_is_byte, has_at, canonical_at}

-- one run more
pub take_more_has : (runs : List Run) (i : ℕ) (d : Run) (b : ℤ) → i < length runs → HasByte (take (i + 1) runs) b ↔ (HasByte (take i runs) b ⊎ IsByteOf (get_or runs i d) b)
take_more_has [] i d b lt = absurd (omega arith)
take_more_has (x ∷ xs) zero d b lt = (
  λ has. ⊎_elim (λ (here : IsByteOf x b). inr here) (λ (none : ⊥). absurd none) has,
  λ or. ⊎_elim (λ (none : ⊥). absurd none) (λ (here : IsByteOf x b). inl here) or,
)
take_more_has (x ∷ xs) (suc i) d b lt =
    let e : suc i + 1 ≡ suc (i + 1) = omega arith in
    let more = take_more_has xs i d b (omega arith) in
    rw e (
      λ has. ⊎_elim (λ (here : IsByteOf x b). inl (inl here)) (λ (there : HasByte (take (i + 1) xs) b). ⊎_elim (λ (h : HasByte (take i xs) b). inl (inr h)) (λ (h : IsByteOf (get_or xs i d) b). inr h) (more.0 there)) has,
      λ or. ⊎_elim (λ (old : HasByte (take (suc i) (x ∷ xs)) b). ⊎_elim (λ (here : IsByteOf x b). inl here) (λ (there : HasByte (take i xs) b). inr (more.1 (inl there))) old) (λ (h : IsByteOf (get_or xs i d) b). inr (more.1 (inr h))) or,
    )

pub take_has : (runs : List Run) (n : ℕ) (b : ℤ) → HasByte (take n runs) b → HasByte runs b
take_has [] zero b has = has
take_has [] (suc n) b has = has
take_has (x ∷ xs) zero b has = absurd has
take_has (x ∷ xs) (suc n) b (inl here) = inl here
take_has (x ∷ xs) (suc n) b (inr there) = inr (take_has xs n b there)

pub take_all : (runs : List Run) (n : ℕ) (b : ℤ) → length runs ≤ n → HasByte runs b → HasByte (take n runs) b
take_all [] zero b le has = has
take_all [] (suc n) b le has = has
take_all (x ∷ xs) zero b le has = absurd (omega arith)
take_all (x ∷ xs) (suc n) b le (inl here) = inl here
take_all (x ∷ xs) (suc n) b le (inr there) = inr (take_all xs n b (omega arith) there)

pub take_in : (runs : List Run) (i n : ℕ) (d : Run) (b : ℤ) → i < length runs → i < n → IsByteOf (get_or runs i d) b → HasByte (take n runs) b
take_in [] i n d b within lt is = absurd (omega arith)
take_in (x ∷ xs) i zero d b within lt is = absurd (omega arith)
take_in (x ∷ xs) zero (suc n) d b within lt is = inl is
take_in (x ∷ xs) (suc i) (suc n) d b within lt is = inr (take_in xs i n d b (omega arith) (omega arith) is)

-- the first byte of a later run comes after the end of the first, and another number before it
starts_after : (x : Run) (xs : List Run) (i : ℕ) (d : Run) → IsCanonical (x ∷ xs) → i < length xs → end_of x <ℤ (get_or xs i d).start
starts_after x xs i d good lt = let start = (get_or xs i d).start in byte_after (end_of x) xs start good.2 good.3 (has_at xs i d start lt (start_is_byte (get_or xs i d) (canonical_at xs i d good.3 lt).1))

-- a byte of an earlier run lies before a run, with a number between
pub before_run : (runs : List Run) (i : ℕ) (d : Run) → IsCanonical runs → i < length runs → (b : ℤ) → HasByte (take i runs) b → (b +ℤ pos 1) <ℤ (get_or runs i d).start
before_run [] i d good lt b has = absurd (omega arith)
before_run (x ∷ xs) zero d good lt b has = absurd has
before_run (x ∷ xs) (suc i) d good lt b (inl here) = let far = starts_after x xs i d good (omega arith) in omega (arith, ints, here.1)
before_run (x ∷ xs) (suc i) d good lt b (inr there) = before_run xs i d good.3 (omega arith) b there

-- a byte of the set lies before a run, in it, or after it, with a number between
pub beside_run : (runs : List Run) (i : ℕ) (d : Run) → IsCanonical runs → i < length runs → (b : ℤ) → HasByte runs b → ((b +ℤ pos 1) <ℤ (get_or runs i d).start) ⊎ (IsByteOf (get_or runs i d) b ⊎ (end_of (get_or runs i d) <ℤ b))
beside_run [] i d good lt b has = absurd (omega arith)
beside_run (x ∷ xs) zero d good lt b (inl here) = inr (inl here)
beside_run (x ∷ xs) zero d good lt b (inr there) = inr (inr (byte_after (end_of x) xs b good.2 good.3 there))
beside_run (x ∷ xs) (suc i) d good lt b (inl here) = let far = starts_after x xs i d good (omega arith) in inl (omega (arith, ints, here.1))
beside_run (x ∷ xs) (suc i) d good lt b (inr there) = beside_run xs i d good.3 (omega arith) b there

-- no byte of the set stands right before a run or right after it
pub none_before : (runs : List Run) (i : ℕ) (d : Run) → IsCanonical runs → i < length runs → HasByte runs ((get_or runs i d).start -ℤ pos 1) → ⊥
none_before runs i d good lt has =
    ⊎_elim (λ (l : (((get_or runs i d).start -ℤ pos 1) +ℤ pos 1) <ℤ (get_or runs i d).start). omega (arith, ints))
    (λ more. ⊎_elim (λ (m : IsByteOf (get_or runs i d) ((get_or runs i d).start -ℤ pos 1)). omega (arith, ints, m.0)) (λ (g : end_of (get_or runs i d) <ℤ ((get_or runs i d).start -ℤ pos 1)). omega (arith, ints)) more)
    (beside_run runs i d good lt ((get_or runs i d).start -ℤ pos 1) has)

pub none_after : (runs : List Run) (i : ℕ) (d : Run) → IsCanonical runs → i < length runs → HasByte runs (end_of (get_or runs i d)) → ⊥
none_after runs i d good lt has =
    ⊎_elim (λ (l : (end_of (get_or runs i d) +ℤ pos 1) <ℤ (get_or runs i d).start). omega (arith, ints))
    (λ more. ⊎_elim (λ (m : IsByteOf (get_or runs i d) (end_of (get_or runs i d))). omega (arith, ints, m.1)) (λ (g : end_of (get_or runs i d) <ℤ end_of (get_or runs i d)). omega (arith, ints)) more)
    (beside_run runs i d good lt (end_of (get_or runs i d)) has)

-- the run at an index
module _ (runs : List Run) (i : ℕ) (run : Run) (good : IsCanonical runs) (there : slice_get runs i ≡ Some run) where
  within : i < length runs
  within = slice_get_within runs i run there

  is : get_or runs i run ≡ run
  is = get_or_from_slice_get runs i run run there

  pub at_bounds : IsInBounds run
  at_bounds = subst (λ (x : Run). IsInBounds x) is (canonical_at runs i run good within).0

  pub at_some : run.start <ℤ end_of run
  at_some = let some : 0 < run.len = subst (λ (x : Run). 0 < x.len) is (canonical_at runs i run good within).1 in omega (arith, ints)

  pub at_more : (b : ℤ) → HasByte (take (i + 1) runs) b ↔ (HasByte (take i runs) b ⊎ IsByteOf run b)
  at_more b = subst (λ (x : Run). HasByte (take (i + 1) runs) b ↔ (HasByte (take i runs) b ⊎ IsByteOf x b)) is (take_more_has runs i run b within)

  pub at_before : (b : ℤ) → HasByte (take i runs) b → (b +ℤ pos 1) <ℤ run.start
  at_before b has = subst (λ (x : Run). (b +ℤ pos 1) <ℤ x.start) is (before_run runs i run good within b has)

  pub at_none_before : HasByte runs (run.start -ℤ pos 1) → ⊥
  at_none_before = subst (λ (x : Run). HasByte runs (x.start -ℤ pos 1) → ⊥) is (none_before runs i run good within)

  pub at_none_after : HasByte runs (end_of run) → ⊥
  at_none_after = subst (λ (x : Run). HasByte runs (end_of x) → ⊥) is (none_after runs i run good within)

  pub at_in : (n : ℕ) (b : ℤ) → i < n → IsByteOf run b → HasByte (take n runs) b
  at_in n b lt on = take_in runs i n run b within lt (subst (λ (x : Run). IsByteOf x b) (sym is) on)

  -- one run more of an id that comes
  pub add_step : (f₀ f g : Table) (id : ℕ) → ((other : ℕ) (b : ℤ) → Stands f other b ↔ (Stands f₀ other b ⊎ ((other ≡ id) × HasByte (take i runs) b)))
      → ((other : ℕ) (b : ℤ) → Stands g other b ↔ (Stands f other b ⊎ ((other ≡ id) × IsBetween run.start (end_of run) b)))
      → (other : ℕ) (b : ℤ) → Stands g other b ↔ (Stands f₀ other b ⊎ ((other ≡ id) × HasByte (take (i + 1) runs) b))
  add_step f₀ f g id before told other b = (
    λ in_g. ⊎_elim (λ (in_f : Stands f other b). ⊎_elim (λ (old : Stands f₀ other b). inl old) (λ (new : (other ≡ id) × HasByte (take i runs) b). inr (new.0, (at_more b).1 (inl new.1))) ((before other b).0 in_f))
        (λ (new : (other ≡ id) × IsBetween run.start (end_of run) b). inr (new.0, (at_more b).1 (inr new.1))) ((told other b).0 in_g),
    λ or. (told other b).1 (⊎_elim (λ (old : Stands f₀ other b). inl ((before other b).1 (inl old)))
        (λ (new : (other ≡ id) × HasByte (take (i + 1) runs) b). ⊎_elim (λ (h : HasByte (take i runs) b). inl ((before other b).1 (inr (new.0, h)))) (λ (h : IsByteOf run b). inr (new.0, h)) ((at_more b).0 new.1)) or),
  )

  -- the id does not stand on the next run or beside it
  pub add_away : (f₀ f : Table) (id : ℕ) → ((b : ℤ) → Stands f₀ id b → ⊥) → ((other : ℕ) (b : ℤ) → Stands f other b ↔ (Stands f₀ other b ⊎ ((other ≡ id) × HasByte (take i runs) b)))
      → (b : ℤ) → (run.start -ℤ pos 1) ≤ℤ b → b ≤ℤ end_of run → Stands f id b → ⊥
  add_away f₀ f id absent before b low high in_f =
      ⊎_elim (λ (old : Stands f₀ id b). absent b old) (λ (new : (id ≡ id) × HasByte (take i runs) b). let far = at_before b new.1 in omega (arith, ints)) ((before id b).0 in_f)

  -- one run more of an id that goes
  pub remove_step : (f₀ f g : Table) (id : ℕ) → ((other : ℕ) (b : ℤ) → Stands f other b ↔ (Stands f₀ other b × ((other ≡ id) → HasByte (take i runs) b → ⊥)))
      → ((other : ℕ) (b : ℤ) → Stands g other b ↔ (Stands f other b × ((other ≡ id) → IsBetween run.start (end_of run) b → ⊥)))
      → (other : ℕ) (b : ℤ) → Stands g other b ↔ (Stands f₀ other b × ((other ≡ id) → HasByte (take (i + 1) runs) b → ⊥))
  remove_step f₀ f g id before told other b = (
    λ in_g. let one = (told other b).0 in_g in let two = (before other b).0 one.0 in
        (two.0, λ e has. ⊎_elim (λ (h : HasByte (take i runs) b). two.1 e h) (λ (h : IsByteOf run b). one.1 e h) ((at_more b).0 has)),
    λ both. (told other b).1 ((before other b).1 (both.0, λ e has. both.1 e ((at_more b).1 (inl has))), λ e on. both.1 e ((at_more b).1 (inr on))),
  )

  -- one run more is looked at
  pub look_step : (f : Table) (start out next : List ℕ) → ((id : ℕ) → Contains out id ↔ (Contains start id ⊎ ((b : ℤ) × Stands f id b × HasByte (take i runs) b)))
      → ((id : ℕ) → Contains next id ↔ (Contains out id ⊎ ((b : ℤ) × Stands f id b × IsBetween run.start (end_of run) b)))
      → (id : ℕ) → Contains next id ↔ (Contains start id ⊎ ((b : ℤ) × Stands f id b × HasByte (take (i + 1) runs) b))
  look_step f start out next before told id = (
    λ has. ⊎_elim (λ (h : Contains out id). ⊎_elim (λ (old : Contains start id). inl old) (λ (new : (b : ℤ) × Stands f id b × HasByte (take i runs) b). inr (new.0, new.1, (at_more new.0).1 (inl new.2))) ((before id).0 h))
        (λ (new : (b : ℤ) × Stands f id b × IsBetween run.start (end_of run) b). inr (new.0, new.1, (at_more new.0).1 (inr new.2))) ((told id).0 has),
    λ or. (told id).1 (⊎_elim (λ (old : Contains start id). inl ((before id).1 (inl old)))
        (λ (new : (b : ℤ) × Stands f id b × HasByte (take (i + 1) runs) b). ⊎_elim (λ (h : HasByte (take i runs) new.0). inl ((before id).1 (inr (new.0, new.1, h)))) (λ (h : IsByteOf run new.0). inr (new.0, new.1, h)) ((at_more new.0).0 new.2)) or),
  )

  -- and the looks at it
  pub looks_step : (cells : List (ℤ × Cell)) → looks cells (take (i + 1) runs) ≡ looks cells (take i runs) + (count_by (is_met run) cells + 1)
  looks_step cells = subst (λ (x : Run). looks cells (take (i + 1) runs) ≡ looks cells (take i runs) + (count_by (is_met x) cells + 1)) is (sum_by_more (λ (r : Run). count_by (is_met r) cells + 1) runs i run within)

  pub looks_within : (cells : List (ℤ × Cell)) → looks cells (take i runs) + (count_by (is_met run) cells + 1) ≤ looks cells runs
  looks_within cells = subst (λ (x : Run). looks cells (take i runs) + (count_by (is_met x) cells + 1) ≤ looks cells runs) is (sum_by_more_le (λ (r : Run). count_by (is_met r) cells + 1) runs i run within)

  -- the id stands on the next run, and not beside it
  module _ (f₀ f : Table) (id : ℕ) (n : ℕ) (lt : i < n) (all : (b : ℤ) → Stands f₀ id b ↔ HasByte (take n runs) b) (before : (other : ℕ) (b : ℤ) → Stands f other b ↔ (Stands f₀ other b × ((other ≡ id) → HasByte (take i runs) b → ⊥))) where
    pub remove_there : (b : ℤ) → IsBetween run.start (end_of run) b → Stands f id b
    remove_there b on = (before id b).1 ((all b).1 (at_in n b lt on), λ _ has. let far = at_before b has in omega (arith, ints, on.0))

    pub remove_first : Stands f id (run.start -ℤ pos 1) → ⊥
    remove_first in_f = at_none_before (take_has runs n (run.start -ℤ pos 1) ((all (run.start -ℤ pos 1)).0 ((before id (run.start -ℤ pos 1)).0 in_f).0))

    pub remove_last : Stands f id (end_of run) → ⊥
    remove_last in_f = at_none_after (take_has runs n (end_of run) ((all (end_of run)).0 ((before id (end_of run)).0 in_f).0))

-- no byte is looked at yet
pub look_none : (f : Table) (runs : List Run) (out : List ℕ) (id : ℕ) → Contains out id ↔ (Contains out id ⊎ ((b : ℤ) × Stands f id b × HasByte (take 0 runs) b))
look_none f runs out id = (λ x. inl x, λ or. ⊎_elim (λ (x : Contains out id). x) (λ (none : (b : ℤ) × Stands f id b × HasByte (take 0 runs) b). absurd (before_first runs none.0 none.2)) or)
  where
    before_first : (xs : List Run) (b : ℤ) → HasByte (take 0 xs) b → ⊥
    before_first [] b has = has
    before_first (x ∷ xs) b has = has

-- all runs are looked at
pub looked_all : (f : Table) (runs : List Run) (n : ℕ) (start out : List ℕ) → length runs ≤ n → ((id : ℕ) → Contains out id ↔ (Contains start id ⊎ ((b : ℤ) × Stands f id b × HasByte (take n runs) b)))
    → (id : ℕ) → Contains out id ↔ (Contains start id ⊎ ((b : ℤ) × Stands f id b × HasByte runs b))
looked_all f runs n start out le before id = (
  λ has. ⊎_elim (λ (old : Contains start id). inl old) (λ (new : (b : ℤ) × Stands f id b × HasByte (take n runs) b). inr (new.0, new.1, take_has runs n new.0 new.2)) ((before id).0 has),
  λ or. (before id).1 (⊎_elim (λ (old : Contains start id). inl old) (λ (new : (b : ℤ) × Stands f id b × HasByte runs b). inr (new.0, new.1, take_all runs n new.0 le new.2)) or),
)

-- all first runs of an id are gone, and so is the id
pub removed_all : (runs : List Run) (f₀ f : Table) (id n : ℕ) → ((b : ℤ) → Stands f₀ id b ↔ HasByte (take n runs) b) → ((other : ℕ) (b : ℤ) → Stands f other b ↔ (Stands f₀ other b × ((other ≡ id) → HasByte (take n runs) b → ⊥)))
    → (other : ℕ) (b : ℤ) → Stands f other b ↔ (Stands f₀ other b × (other ≢ id))
removed_all runs f₀ f id n all gone other b = (
  λ in_f. let both = (gone other b).0 in_f in (both.0, λ e. both.1 e ((all b).0 (subst (λ (x : ℕ). Stands f₀ x b) e both.0))),
  λ both. (gone other b).1 (both.0, λ e _. both.1 e),
)

-- an id that was put on some first runs is gone again
pub undone : (runs : List Run) (f₀ f₁ g : Table) (id i : ℕ) → ((b : ℤ) → Stands f₀ id b → ⊥) → ((other : ℕ) (b : ℤ) → Stands f₁ other b ↔ (Stands f₀ other b ⊎ ((other ≡ id) × HasByte (take i runs) b)))
    → ((other : ℕ) (b : ℤ) → Stands g other b ↔ (Stands f₁ other b × (other ≢ id))) → StandAlike f₀ g
undone runs f₀ f₁ g id i absent added gone other b = (
  λ in_g. let both = (gone other b).0 in_g in ⊎_elim (λ (old : Stands f₀ other b). old) (λ (new : (other ≡ id) × HasByte (take i runs) b). absurd (both.1 new.0)) ((added other b).0 both.0),
  λ old. (gone other b).1 ((added other b).1 (inl old), λ e. absent b (subst (λ (x : ℕ). Stands f₀ x b) e old)),
)

-- the id alone stands on these first runs
pub stands_on_first : (runs : List Run) (f₀ f₁ : Table) (id i : ℕ) → ((b : ℤ) → Stands f₀ id b → ⊥) → ((other : ℕ) (b : ℤ) → Stands f₁ other b ↔ (Stands f₀ other b ⊎ ((other ≡ id) × HasByte (take i runs) b)))
    → (b : ℤ) → Stands f₁ id b ↔ HasByte (take i runs) b
stands_on_first runs f₀ f₁ id i absent added b = (
  λ in_f. ⊎_elim (λ (old : Stands f₀ id b). absurd (absent b old)) (λ (new : (id ≡ id) × HasByte (take i runs) b). new.1) ((added id b).0 in_f),
  λ has. (added id b).1 (inr (refl, has)),
)

-- all runs
pub added_all : (runs : List Run) (f₀ f : Table) (id i : ℕ) → length runs ≤ i → ((other : ℕ) (b : ℤ) → Stands f other b ↔ (Stands f₀ other b ⊎ ((other ≡ id) × HasByte (take i runs) b)))
    → (other : ℕ) (b : ℤ) → Stands f other b ↔ (Stands f₀ other b ⊎ ((other ≡ id) × HasByte runs b))
added_all runs f₀ f id i le added other b = (
  λ in_f. ⊎_elim (λ (old : Stands f₀ other b). inl old) (λ (new : (other ≡ id) × HasByte (take i runs) b). inr (new.0, take_has runs i b new.1)) ((added other b).0 in_f),
  λ or. (added other b).1 (⊎_elim (λ (old : Stands f₀ other b). inl old) (λ (new : (other ≡ id) × HasByte runs b). inr (new.0, take_all runs i b le new.1)) or),
)
