-- One more element at a loop's step.
use Rattle.std.proofs.Common.{◌≡◌, ℕ, ◌+◌, ◌<◌, List, [], ◌∷◌, ◌++◌, length, get_or, take, Option, Some, None, slice_get, refl, sym, ap, ◌∙◌}
use Rattle.rma_base.specs.declared.rank.Rank.{Rank}
use Rattle.rma_call.specs.Call.{Call}
use Rattle.rma_agreement.specs.Collective.{walked}
use Rattle.std.specs.List.{flat_map, cons_option}
use Rattle.std.proofs.lemmas.List.{take_more, append_assoc, append-nil, flat_map_more}
use Rattle.std.proofs.lemmas.Option.{slice_get_within, get_or_from_slice_get}

-- the prefix with the element after it
pub taken : {X : Type 0} (xs : List X) (i : ℕ) (x : X) → i < length xs → x ≡ get_or xs i x → take (i + 1) xs ≡ take i xs ++ x ∷ []
taken xs i x lt is = take_more xs i x lt ∙ ap (λ y. take i xs ++ y ∷ []) (sym is)

-- the same of the element that stands there
pub taken_there : {X : Type 0} (xs : List X) (i : ℕ) (x : X) → slice_get xs i ≡ Some x → take (i + 1) xs ≡ take i xs ++ x ∷ []
taken_there xs i x there = taken xs i x (slice_get_within xs i x there) (sym (get_or_from_slice_get xs i x x there))

module _ {X Y : Type 0} where
  -- what a map to lists makes of one more element
  pub flat_map_taken : (f : X → List Y) (xs : List X) (i : ℕ) (x : X) → i < length xs → x ≡ get_or xs i x →
      flat_map f (take i xs) ++ f x ≡ flat_map f (take (i + 1) xs)
  flat_map_taken f xs i x lt is = flat_map_more f [] (take i xs) x ∙ ap (flat_map f) (sym (taken xs i x lt is))

cons_option_append : {Y : Type 0} (o : Option Y) (xs ys : List Y) → cons_option o (xs ++ ys) ≡ cons_option o xs ++ ys
cons_option_append None xs ys = refl
cons_option_append (Some x) xs ys = refl

pub walked_push : {Y : Type 0} (f : Rank → List Call → Call → Option Y) (rank : Rank) (before xs : List Call) (x : Call) →
    walked f rank before (xs ++ x ∷ []) ≡ walked f rank before xs ++ cons_option (f rank (before ++ xs) x) []
walked_push f rank before [] x = ap (λ l. cons_option (f rank l x) []) (sym (append-nil before))
walked_push f rank before (y ∷ ys) x =
    ap (cons_option (f rank before y)) (walked_push f rank (before ++ y ∷ []) ys x)
    ∙ cons_option_append (f rank before y) (walked f rank (before ++ y ∷ []) ys) (cons_option (f rank ((before ++ y ∷ []) ++ ys) x) [])
    ∙ ap (λ l. cons_option (f rank before y) (walked f rank (before ++ y ∷ []) ys) ++ cons_option (f rank l x) []) (append_assoc before (y ∷ []) ys)

-- what is had of the calls so far, with the next one
pub walked_next : {Y : Type 0} (f : Rank → List Call → Call → Option Y) (rank : Rank) (calls : List Call) (i : ℕ) (call : Call) (start old new : List Y) →
    slice_get calls i ≡ Some call → old ≡ start ++ walked f rank [] (take i calls) → new ≡ old ++ cons_option (f rank (take i calls) call) [] →
    new ≡ start ++ walked f rank [] (take (i + 1) calls)
walked_next f rank calls i call start old new there so_far is =
    let own = cons_option (f rank (take i calls) call) [] in
    is
    ∙ ap (λ l. l ++ own) so_far
    ∙ append_assoc start (walked f rank [] (take i calls)) own
    ∙ ap (λ l. start ++ l) (sym (walked_push f rank [] (take i calls) call) ∙ ap (walked f rank []) (sym (taken_there calls i call there)))
