-- How many calls of a kind are on a name.
use Rattle.std.proofs.Common.{◌≡◌, ℕ, ◌+◌, false, cond, List, [], ◌∷◌, ◌++◌, Option, Some, None, nat_eq, ap, ◌∙◌, arith}
use Rattle.std.specs.Option.{option_map_or}
use Rattle.std.specs.Cmp.Lexicographic.{pointwise}
use Rattle.std.proofs.lemmas.List.Sums.{sum_by-append, sum_by-cons}
use Rattle.rma_call.specs.Call.{Call}
use Rattle.rma_round.specs.declared.kind.Kind.{Kind}
use Rattle.rma_round.specs.Kind.{named, is_on, count_of}

-- one more call
pub count_of_push : (kind : Kind) (name : List ℕ) (before : List Call) (call : Call) →
    count_of kind name (before ++ call ∷ []) ≡ count_of kind name before + cond (is_on kind name call) 1 0
count_of_push kind name before call =
    let one = λ (c : Call). cond (is_on kind name c) 1 0 in
    sum_by-append one before (call ∷ []) ∙ ap (λ n. count_of kind name before + n) (sum_by-cons one call [] ∙ omega arith)

-- the name that a call is on
pub is_on_none : (kind : Kind) (name : List ℕ) (call : Call) → named kind call.what ≡ None → is_on kind name call ≡ false
is_on_none kind name call none = ap (λ (o : Option (List ℕ)). option_map_or (λ own. pointwise nat_eq own name) o false) none

pub is_on_some : (kind : Kind) (name other : List ℕ) (call : Call) → named kind call.what ≡ Some other → is_on kind name call ≡ pointwise nat_eq other name
is_on_some kind name other call some = ap (λ (o : Option (List ℕ)). option_map_or (λ own. pointwise nat_eq own name) o false) some
