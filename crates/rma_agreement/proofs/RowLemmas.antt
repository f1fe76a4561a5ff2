-- The ranks that have calls on a name, and the names that calls are on.
use Rattle.std.proofs.Common.{◌≡◌, ℕ, ◌<◌, Bool, true, false, List, length, Some, nat_eq, slice_get, refl, sym, ◌∙◌}
use Rattle.std.specs.Prelude.{Contains}
use Rattle.std.specs.List.{list_any}
use Rattle.std.specs.Cmp.Lexicographic.{pointwise, nat_list_eq_equiv, same_text}
use Rattle.std.proofs.lemmas.Map.Views.{list_any-from_Contains, Contains-from_any}
use Rattle.std.proofs.lemmas.Option.{slice_get_read}
use Rattle.rma_call.specs.Call.{Call}
use Rattle.rma_round.specs.declared.kind.Kind.{Kind}
use Rattle.rma_round.specs.Kind.{named}

-- no call of the kind is on the name
abbrev pub IsUnused : Kind → (ℕ → List Call) → List ℕ → Type 0
IsUnused kind calls name = (rank number : ℕ) (call : Call) → slice_get (calls rank) number ≡ Some call → named kind call.what ≡ Some name → ⊥

-- what is so of each name that is listed and of each that no call is on is so of every name
pub every_name : (kind : Kind) (calls : ℕ → List Call) (names : List (List ℕ)) (P : List ℕ → Type 0) →
    ((rank number : ℕ) (call : Call) (name : List ℕ) → slice_get (calls rank) number ≡ Some call → named kind call.what ≡ Some name → Contains names name) →
    ((j : ℕ) (name : List ℕ) → j < length names → slice_get names j ≡ Some name → P name) → ((name : List ℕ) → IsUnused kind calls name → P name) → (name : List ℕ) → P name
every_name kind calls names P each on unused name = by (list_any (pointwise nat_eq name) names) refl
  where
    by : (b : Bool) → list_any (pointwise nat_eq name) names ≡ b → P name
    by true found =
        let has = Contains-from_any (λ x y same. same_text x y (sym same)) name names found in
        on has.0 name has.1 (slice_get_read names (length names) has.0 name refl has.1 (sym has.2))
    by false lost =
        unused name
        (λ rank number call there is. (let wrong : true ≡ false = sym (list_any-from_Contains nat_list_eq_equiv name names (each rank number call name there is)) ∙ lost in let no : ⊥ = cc in no))
