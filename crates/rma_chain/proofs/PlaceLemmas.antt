-- What a list has at an index.
use Rattle.std.proofs.Common.{◌≡◌, ℕ, ◌<◌, List, length, get_or, Contains, Some, slice_get, refl, sym}
use Rattle.std.proofs.lemmas.Option.{get_or_from_slice_get, slice_get_read, slice_get_within}

module _ {X : Type 0} (xs : List X) (i : ℕ) (x : X) where
  -- what is read there
  pub read : i < length xs → x ≡ get_or xs i x → slice_get xs i ≡ Some x
  read less at = slice_get_read xs (length xs) i x refl less at

  -- what stands there is contained
  pub contained : slice_get xs i ≡ Some x → Contains xs x
  contained at = (i, slice_get_within xs i x at, get_or_from_slice_get xs i x x at)

-- what a list contains stands somewhere
pub placed : {X : Type 0} (xs : List X) (x : X) → Contains xs x → (i : ℕ) × (slice_get xs i ≡ Some x)
placed xs x (i, less, at) = (i, read xs i x less (sym at))
