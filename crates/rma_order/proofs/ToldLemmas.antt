-- Calls that are told, rank by rank.
use Rattle.std.proofs.Common.{◌≡◌, ℕ, zero, suc, ◌+◌, ◌<◌, List, [], ◌∷◌, ◌++◌, length, take, drop, get_or, map, replicate, Option, Some, None, slice_get, refl, sym, ap, ◌∙◌, arith}
use Rattle.std.proofs.lemmas.List.{map-append, take_more}
use Rattle.std.specs.List.{cons_option}
use Rattle.std.specs.Option.{option_and_then}
use Rattle.rma_call.specs.Call.{RankCalls}
use Rattle.rma_run.specs.Run.{lens_of}
use Rattle.rma_order.specs.declared.impossible.ImpossibleCall.{ImpossibleCall}
use Rattle.rma_order.specs.Impossible.{first_at, told, told_all}

-- what is told of one rank
abbrev told_of : RankCalls → Option ℕ → Option ImpossibleCall
told_of own first = option_and_then (told own) first

pub at_next : (firsts : List (Option ℕ)) (i : ℕ) → first_at (drop 1 firsts) i ≡ first_at firsts (suc i)
at_next [] zero = refl
at_next [] (suc i) = refl
at_next (first ∷ firsts) i = refl

joined : {X : Type 0} (o : Option X) (xs ys : List X) → cons_option o (xs ++ ys) ≡ cons_option o xs ++ ys
joined None xs ys = refl
joined (Some x) xs ys = refl

-- what one more rank adds
pub told_more : (ranks : List RankCalls) (firsts : List (Option ℕ)) (i : ℕ) (own : RankCalls) → slice_get ranks i ≡ Some own
    → told_all (take i ranks) firsts ++ cons_option (told_of own (first_at firsts i)) [] ≡ told_all (take (i + 1) ranks) firsts
told_more [] firsts i own at = absurd (let no : ⊥ = cc in no)
told_more (r ∷ ranks) firsts zero own at =
    let is : r ≡ own = cc in
    ap (λ (own : RankCalls). cons_option (told_of own (first_at firsts 0)) []) (sym is)
told_more (r ∷ ranks) firsts (suc i) own at =
    ap (λ o. cons_option (told_of r (first_at firsts 0)) (told_all (take i ranks) (drop 1 firsts)) ++ cons_option (told_of own o) []) (sym (at_next firsts i))
    ∙ sym (joined (told_of r (first_at firsts 0)) (told_all (take i ranks) (drop 1 firsts)) (cons_option (told_of own (first_at (drop 1 firsts) i)) []))
    ∙ ap (cons_option (told_of r (first_at firsts 0))) (told_more ranks (drop 1 firsts) i own at)
    ∙ ap (λ n. told_all (take n (r ∷ ranks)) firsts) (let more : suc (i + 1) ≡ suc i + 1 = omega arith in more)

-- where no rank has a call, none is told
pub told_none : (ranks : List RankCalls) (firsts : List (Option ℕ)) → ((i : ℕ) → first_at firsts i ≡ None) → told_all ranks firsts ≡ []
told_none [] firsts none = refl
told_none (r ∷ ranks) firsts none = rw (none 0) (told_none ranks (drop 1 firsts) (λ i. at_next firsts i ∙ none (suc i)))

pub first_at_none : (n i : ℕ) → first_at (replicate n None) i ≡ None
first_at_none zero i = refl
first_at_none (suc n) zero = refl
first_at_none (suc n) (suc i) = first_at_none n i

-- the number of the calls of one more rank
pub lens_more : (ranks : List RankCalls) (i : ℕ) (own : RankCalls) → i < length ranks → own ≡ get_or ranks i own → lens_of (take i ranks) ++ length own.calls ∷ [] ≡ lens_of (take (i + 1) ranks)
lens_more ranks i own below is =
    let calls : RankCalls → ℕ = λ r. length r.calls in
    ap (λ (r : RankCalls). lens_of (take i ranks) ++ length r.calls ∷ []) is
    ∙ sym (map-append calls (take i ranks) (get_or ranks i own ∷ []))
    ∙ ap (map calls) (sym (take_more ranks i own below))
