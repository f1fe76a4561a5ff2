-- The numbers of the calls on each name, with one more call.
use Rattle.std.proofs.Common.{◌≡◌, ℕ, ◌+◌, cond, List, [], ◌∷◌, ◌++◌, take, slice_get, Some, sym, ap, ◌∙◌}
use Rattle.rma_call.specs.Call.{Call}
use Rattle.rma_round.specs.declared.kind.Kind.{Kind}
use Rattle.rma_round.specs.Kind.{is_on, count_of}
use Rattle.rma_agreement.proofs.CountLemmas.{count_of_push}
use Rattle.rma_agreement.proofs.WalkLemmas.{taken_there}
use Rattle.rma_missing.specs.inside.NameCount.{AreCounts, IsCounted}

-- the numbers with one more call
pub AreCounts_push : (kind : Kind) (before : List Call) (call : Call) (old new : List (List ℕ × ℕ)) →
    AreCounts kind before old → IsCounted kind old new call → AreCounts kind (before ++ call ∷ []) new
AreCounts_push kind before call old new are counted = λ name.
    counted name ∙ ap (λ n. n + cond (is_on kind name call) 1 0) (are name) ∙ sym (count_of_push kind name before call)

-- the numbers with the next call
pub AreCounts_counted : (kind : Kind) (calls : List Call) (i : ℕ) (call : Call) (old new : List (List ℕ × ℕ)) → slice_get calls i ≡ Some call →
    AreCounts kind (take i calls) old → IsCounted kind old new call → AreCounts kind (take (i + 1) calls) new
AreCounts_counted kind calls i call old new there are counted = λ name.
    AreCounts_push kind (take i calls) call old new are counted name ∙ ap (count_of kind name) (sym (taken_there calls i call there))
