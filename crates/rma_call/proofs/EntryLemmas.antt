-- Calls by their numbers, in two columns.
use Rattle.std.proofs.Common.{◌≡◌, ℕ, zero, suc, List, [], ◌∷◌, ◌++◌, length, slice_get, Some, refl, ap, arith}
use Rattle.std.specs.Prelude.{option_map}
use Rattle.rma_call.specs.declared.entries.Detail.{Detail}
use Rattle.rma_call.specs.inside.Entries.{entry_of, joined}

-- there are as many as each column has
pub as_many : (whats : List ℕ) (details : List Detail) → length whats ≡ length details → length (joined whats details) ≡ length whats
as_many [] details same = refl
as_many (what ∷ whats) [] same = absurd (omega (arith, same))
as_many (what ∷ whats) (detail ∷ details) same = ap suc (as_many whats details (omega (arith, same)))

-- each is made of what the columns have there
pub joined_at : (whats : List ℕ) (details : List Detail) (i : ℕ) (what : ℕ) (detail : Detail) → slice_get whats i ≡ Some what → slice_get details i ≡ Some detail
    → slice_get (joined whats details) i ≡ Some (entry_of (what, detail))
joined_at [] details i what detail first second = absurd (cc)
joined_at (w ∷ whats) [] i what detail first second = absurd (cc)
joined_at (w ∷ whats) (d ∷ details) zero what detail first second =
    let one : w ≡ what = cc in
    let two : d ≡ detail = cc in
    rw (one, two) refl
joined_at (w ∷ whats) (d ∷ details) (suc i) what detail first second = joined_at whats details i what detail first second

-- one more
pub joined_more : (whats : List ℕ) (details : List Detail) (what : ℕ) (detail : Detail) → length whats ≡ length details
    → joined (whats ++ what ∷ []) (details ++ detail ∷ []) ≡ joined whats details ++ entry_of (what, detail) ∷ []
joined_more [] [] what detail same = refl
joined_more [] (d ∷ details) what detail same = absurd (omega (arith, same))
joined_more (w ∷ whats) [] what detail same = absurd (omega (arith, same))
joined_more (w ∷ whats) (d ∷ details) what detail same = ap (λ rest. entry_of (w, d) ∷ rest) (joined_more whats details what detail (omega (arith, same)))

-- so what it does stands in the first column
pub what_there : (whats : List ℕ) (details : List Detail) (i : ℕ) (what : ℕ) → length whats ≡ length details → slice_get whats i ≡ Some what
    → option_map (λ entry. entry.what) (slice_get (joined whats details) i) ≡ Some what
what_there [] details i what same at = absurd (cc)
what_there (w ∷ whats) [] i what same at = absurd (omega (arith, same))
what_there (w ∷ whats) (d ∷ details) zero what same at = at
what_there (w ∷ whats) (d ∷ details) (suc i) what same at = what_there whats details i what (omega (arith, same)) at
