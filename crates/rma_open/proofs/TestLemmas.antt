-- Tests, and what they tell of lists and options.
use Rattle.std.proofs.Common.{◌≡◌, ℕ, suc, Bool, true, false, ◌||◌, ◌∷◌, List, [], Option, Some, None, slice_get, refl, sym}
use Rattle.std.proofs.lemmas.Bool.{true≢false}
use Rattle.std.specs.Prelude.{is_some}
use Rattle.std.specs.List.{list_any}

-- two tests are one where each is false where the other is
pub same_test : (a b : Bool) → (b ≡ false → a ≡ false) → (a ≡ false → b ≡ false) → a ≡ b
same_test true true f g = refl
same_test false false f g = refl
same_test true false f g = f refl
same_test false true f g = sym (g refl)

pub or_left : (a b : Bool) → (a || b) ≡ false → a ≡ false
or_left false b h = refl
or_left true b h = h

pub or_right : (a b : Bool) → (a || b) ≡ false → b ≡ false
or_right false b h = h
or_right true b h = absurd (true≢false h)

-- a test that fails at each place fails
pub none_at : {X : Type 0} (p : X → Bool) (xs : List X) → ((i : ℕ) (x : X) → slice_get xs i ≡ Some x → p x ≡ false) → list_any p xs ≡ false
none_at p [] none = refl
none_at p (x ∷ xs) none = rw (none 0 x refl) (none_at p xs (λ i y there. none (suc i) y there))

-- a test that fails for all fails
pub all_false : {X : Type 0} (p : X → Bool) (xs : List X) → ((x : X) → p x ≡ false) → list_any p xs ≡ false
all_false p [] none = refl
all_false p (x ∷ xs) none = rw (none x) (all_false p xs none)

-- nothing where nothing is
pub is_nothing : {X : Type 0} (o : Option X) → is_some o ≡ false → o ≡ None
is_nothing None none = refl
is_nothing (Some x) none = absurd (true≢false none)
