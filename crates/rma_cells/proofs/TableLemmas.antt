-- Tables of cells.
use Rattle.rma_cells.proofs.IdLemmas.{contains_head}
use Rattle.std.specs.Int.RustNames.{FitsSigned}
use Rattle.std.proofs.Common.{w64, to_z, of_z, IsSome, [], ◌∷◌, ◌≡◌, ◌≢◌, ℕ, List, Option, Some, None, sym, refl, ap, ◌∙◌, arith, inl, inr, ◌⊎◌, ⊎_elim, rules}
use Rattle.std.specs.Prelude.{ℤ, ◌<ℤ◌}
use Rattle.std.specs.List.{Contains}
use Rattle.std.proofs.lemmas.Int.{ints, by_lt_z, to_z-of_z}
use Rattle.std.proofs.lemmas.Bool.{false≢true}
use Rattle.rma_cells.specs.Cell.{Cell}
use Rattle.rma_cells.specs.inside.Table.{Table, Stands, IsSound, Puts, IsBetween}

-- two numbers are in one of three orders
pub in_order : (a b : ℤ) → (a <ℤ b) ⊎ ((a ≡ b) ⊎ (b <ℤ a))
in_order a b = by_lt_z a b (λ lt. inl lt) (λ le. by_lt_z b a (λ gt. inr (inr gt)) (λ ge. inr (inl (omega (arith, ints)))))

-- what has two values at one place
pub same_some : (x y : Cell) (o : Option Cell) → o ≡ Some x → o ≡ Some y → x ≡ y
same_some x y o p q = cc

pub not_none : (x : Cell) (o : Option Cell) → o ≡ Some x → o ≡ None → ⊥
not_none x o p q = cc

-- a table with one entry changed has the entry, or one that the other has
pub put_cases : (f : Table) (at : ℤ) (entry : Option Cell) (g : Table) → Puts f at entry g → (t : ℤ) (d : Cell) → g t ≡ Some d → ((t ≡ at) × (entry ≡ Some d)) ⊎ ((t ≢ at) × (f t ≡ Some d))
put_cases f at entry g puts t d is =
    ⊎_elim (λ (lt : t <ℤ at). inr (λ e. absurd (omega (arith, ints)), sym (puts.others t (λ e. absurd (omega (arith, ints)))) ∙ is))
    (λ more. ⊎_elim (λ (e : t ≡ at). inl (e, let here : g at ≡ entry = puts.here in sym here ∙ ap g (sym e) ∙ is))
    (λ (gt : at <ℤ t). inr (λ e. absurd (omega (arith, ints)), sym (puts.others t (λ e. absurd (omega (arith, ints)))) ∙ is)) more)
    (in_order t at)

-- a byte of two cells tells that they are one
pub one_start : (f : Table) → IsSound f → (s : ℤ) (c : Cell) (t : ℤ) (d : Cell) (b : ℤ) → f s ≡ Some c → f t ≡ Some d → IsBetween s c.end b → IsBetween t d.end b → s ≡ t
one_start f sound s c t d b at_s at_t in_s in_t =
    ⊎_elim (λ (lt : s <ℤ t). absurd (let far = sound.apart s c t d at_s at_t lt in omega (arith, ints)))
    (λ more. ⊎_elim (λ (e : s ≡ t). e) (λ (gt : t <ℤ s). absurd (let far = sound.apart t d s c at_t at_s gt in omega (arith, ints))) more)
    (in_order s t)

pub one_cell : (f : Table) → IsSound f → (s : ℤ) (c : Cell) (t : ℤ) (d : Cell) (b : ℤ) → f s ≡ Some c → f t ≡ Some d → IsBetween s c.end b → IsBetween t d.end b → c ≡ d
one_cell f sound s c t d b at_s at_t in_s in_t =
    let e = one_start f sound s c t d b at_s at_t in_s in_t in
    same_some c d (f s) at_s (ap f e ∙ at_t)

-- what stands on a byte of a cell is among the ids of the cell
pub stands_in : (f : Table) → IsSound f → (s : ℤ) (c : Cell) (id : ℕ) (b : ℤ) → f s ≡ Some c → IsBetween s c.end b → Stands f id b → Contains c.ids id
stands_in f sound s c id b at_s in_s stands =
    let e = one_cell f sound s c stands.0 stands.1 b at_s stands.2 in_s (stands.3, stands.4) in
    rw e stands.5

pub is_some_from : (o : Option Cell) (x : Cell) → o ≡ Some x → IsSome o
is_some_from o x e = rw e (search rules)

-- a list that is not empty has an id
pub some_id : (xs : List ℕ) → (xs ≡ [] → ⊥) → (id : ℕ) × Contains xs id
some_id [] never = absurd (never refl)
some_id (x ∷ xs) never = (x, contains_head x xs)

-- numbers with the same bits are equal
pub same_bits : (a b : ℤ) → FitsSigned w64 a → FitsSigned w64 b → of_z w64 a ≡ of_z w64 b → a ≡ b
same_bits a b fits_a fits_b e = sym (to_z-of_z w64 a fits_a) ∙ ap (to_z w64) e ∙ to_z-of_z w64 b fits_b

pub some_cell : (o : Option Cell) → IsSome o → (x : Cell) × (o ≡ Some x)
some_cell (Some x) there = (x, refl)
some_cell None there = absurd (false≢true there)
