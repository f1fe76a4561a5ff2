-- Lists of basic datatypes of which one begins with another.
use Rattle.std.proofs.Common.{◌≡◌, ◌≤◌, List, [], ◌∷◌, ◌++◌, length, Bool, true, false, IsTrue, ◌↔◌, refl, sym, ap, ◌∙◌, arith}
use Rattle.std.proofs.lemmas.Bool.{and_parts, false≢true}
use Rattle.std.proofs.lemmas.List.{length-append}
use Rattle.rma_buffer.specs.Rules.{begins_with}
use Rattle.rma_buffer.proofs.Words.{Basic, BeginsWith, is_same}
use Rattle.rma_buffer.proofs.BasicLemmas.{same_is_equal, same_itself}

pub begins_from : (whole part : List Basic) → BeginsWith whole part → begins_with whole part ≡ true
begins_from [] [] h = refl
begins_from (first ∷ whole) [] h = refl
begins_from [] (b ∷ bs) h = let e = h.1 in absurd (cc)
begins_from (first ∷ whole) (b ∷ bs) h =
    let e = h.1 in
    let head : first ≡ b = cc in
    let tail : whole ≡ bs ++ h.0 = cc in
    let same : is_same first b ≡ true = rw head (same_itself b) in
    rw (same, begins_from whole bs (h.0, tail))

pub begins_to : (whole part : List Basic) → begins_with whole part ≡ true → BeginsWith whole part
begins_to whole [] h = (whole, refl)
begins_to [] (b ∷ bs) h = absurd (false≢true h)
begins_to (first ∷ whole) (b ∷ bs) h =
    let parts = and_parts (is_same first b) (begins_with whole bs) h in
    let head = same_is_equal first b parts.0 in
    let tail = begins_to whole bs parts.1 in
    (tail.0, ap (λ x. x ∷ whole) head ∙ ap (λ xs. b ∷ xs) tail.1)

pub begins_long : (whole part : List Basic) → begins_with whole part ≡ true → length part ≤ length whole
begins_long whole part h =
    let b = begins_to whole part h in
    let long = ap length b.1 ∙ length-append part b.0 in
    omega (arith, long)

one_answer : (r t : Bool) → (r ≡ true → t ≡ true) → (t ≡ true → r ≡ true) → r ≡ t
one_answer true t to from = sym (to refl)
one_answer false true to from = from refl
one_answer false false to from = refl

pub begins_answer : (r : Bool) (whole part : List Basic) → (IsTrue r ↔ BeginsWith whole part) → r ≡ begins_with whole part
begins_answer r whole part h = one_answer r (begins_with whole part) (λ e. begins_from whole part (h.0 e)) (λ e. h.1 (begins_to whole part e))
