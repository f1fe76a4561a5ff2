-- What calls declare.
use Rattle.std.proofs.Common.{◌≡◌, ◌<◌, ℕ, zero, suc, arith, length, List, [], ◌∷◌, Option, Some, None, slice_get, refl, ap, ◌∙◌}
use Rattle.std.specs.Prelude.{option_map}
use Rattle.std.specs.List.{cons_option}
use Rattle.rma_base.specs.declared.rank.Rank.{Rank}
use Rattle.rma_call.specs.Call.{Call}
use Rattle.rma_call.specs.declared.what.What.{What}
use Rattle.rma_member.specs.Declaration.{declarations_of}

-- calls of which none declares a thing of the kind
pub none_declared : {T : Type 0} (stated : What → Option (List ℕ × T)) (rank : Rank) (calls : List Call)
    → ((i : ℕ) (call : Call) → slice_get calls i ≡ Some call → stated call.what ≡ None) → declarations_of stated rank calls ≡ []
none_declared stated rank [] none = refl
none_declared stated rank (call ∷ calls) none =
    ap (λ found. cons_option (option_map (λ s. record { rank = rank; line = call.line; name = s.0; attributes = s.1 }) found) (declarations_of stated rank calls)) (none 0 call refl)
    ∙ none_declared stated rank calls (λ i own at. none (suc i) own at)

-- a list has a call at each index within
pub call_there : (calls : List Call) (i : ℕ) → i < length calls → (call : Call) × (slice_get calls i ≡ Some call)
call_there [] i below = absurd (omega arith)
call_there (call ∷ calls) zero below = (call, refl)
call_there (call ∷ calls) (suc i) below = call_there calls i (omega arith)
