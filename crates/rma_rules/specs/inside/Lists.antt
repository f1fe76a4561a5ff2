-- How a call is put at the end of a list.
use Rattle.std.specs.Prelude.{ℕ, zero, suc, List, [], ◌∷◌, ◌++◌}
use Rattle.rma_rules.specs.declared.span.Owner.{Owner}

-- the lists with one more call at the end of the one at a place
abbrev pub with_call_at : List (Owner × List ℕ) → ℕ → ℕ → List (Owner × List ℕ)
with_call_at [] place call = []
with_call_at (e ∷ es) zero call = (e.0, e.1 ++ call ∷ []) ∷ es
with_call_at (e ∷ es) (suc place) call = e ∷ with_call_at es place call
