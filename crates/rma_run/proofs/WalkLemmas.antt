-- One more element at a loop's step.
use Rattle.std.proofs.Common.{◌≡◌, ℕ, ◌+◌, suc, List, [], ◌∷◌, ◌++◌, length, take, Option, Some, slice_get, sym, ap, ◌∙◌, arith, append_assoc, append-nil}
use Rattle.std.specs.List.{filter_map, flat_map, cons_option}
use Rattle.std.proofs.lemmas.List.{take_more, length-take, flat_map_more}
use Rattle.std.proofs.lemmas.List.Elements.{filter_map-append}
use Rattle.std.proofs.lemmas.Option.{slice_get_within, get_or_from_slice_get}
use Rattle.rma_call.specs.Call.{Call}
use Rattle.rma_run.specs.Run.{by_number}

-- the prefix with the element that stands after it
pub taken_there : {X : Type 0} (xs : List X) (i : ℕ) (x : X) → slice_get xs i ≡ Some x → take (i + 1) xs ≡ take i xs ++ x ∷ []
taken_there xs i x there = take_more xs i x (slice_get_within xs i x there) ∙ ap (λ y. take i xs ++ y ∷ []) (get_or_from_slice_get xs i x x there)

pub taken_length : {X : Type 0} (xs : List X) (i : ℕ) (x : X) → slice_get xs i ≡ Some x → length (take i xs) ≡ i
taken_length xs i x there = let lt = slice_get_within xs i x there in simp length-take (omega arith)

-- what a map to lists makes of one more element
pub flat_map_taken : {X Y : Type 0} (f : X → List Y) (xs : List X) (i : ℕ) (x : X) → slice_get xs i ≡ Some x → flat_map f (take i xs) ++ f x ≡ flat_map f (take (i + 1) xs)
flat_map_taken f xs i x there = flat_map_more f [] (take i xs) x ∙ ap (flat_map f) (sym (taken_there xs i x there))

-- what a map that may skip makes of one more element
pub filter_map_taken : {X Y : Type 0} (f : X → Option Y) (xs : List X) (i : ℕ) (x : X) (before : List Y) → slice_get xs i ≡ Some x →
    (before ++ filter_map f (take i xs)) ++ cons_option (f x) [] ≡ before ++ filter_map f (take (i + 1) xs)
filter_map_taken f xs i x before there =
    append_assoc before (filter_map f (take i xs)) (cons_option (f x) [])
    ∙ ap (λ l. before ++ l) (sym (filter_map-append f (take i xs) (x ∷ [])) ∙ ap (filter_map f) (sym (taken_there xs i x there)))

-- what is had of the calls with one more
pub by_number_push : {Y : Type 0} (f : ℕ → Call → List Y) (n : ℕ) (xs : List Call) (x : Call) → by_number f n (xs ++ x ∷ []) ≡ by_number f n xs ++ f (n + length xs) x
by_number_push f n [] x = append-nil (f n x) ∙ ap (λ k. f k x) (let e : n ≡ n + 0 = omega arith in e)
by_number_push f n (y ∷ ys) x =
    ap (λ l. f n y ++ l) (by_number_push f (n + 1) ys x)
    ∙ sym (append_assoc (f n y) (by_number f (n + 1) ys) (f (n + 1 + length ys) x))
    ∙ ap (λ k. by_number f n (y ∷ ys) ++ f k x) (let e : n + 1 + length ys ≡ n + suc (length ys) = omega arith in e)

-- what is had of the calls up to one more
pub by_number_taken : {Y : Type 0} (f : ℕ → Call → List Y) (calls : List Call) (i : ℕ) (call : Call) (before : List Y) → slice_get calls i ≡ Some call →
    (before ++ by_number f 0 (take i calls)) ++ f i call ≡ before ++ by_number f 0 (take (i + 1) calls)
by_number_taken f calls i call before there =
    append_assoc before (by_number f 0 (take i calls)) (f i call)
    ∙ ap (λ k. before ++ (by_number f 0 (take i calls) ++ f k call)) (let long = taken_length calls i call there in let e : i ≡ 0 + length (take i calls) = omega arith in e)
    ∙ ap (λ l. before ++ l) (sym (by_number_push f 0 (take i calls) call) ∙ ap (by_number f 0) (sym (taken_there calls i call there)))
