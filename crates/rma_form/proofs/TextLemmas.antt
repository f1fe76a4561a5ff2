-- Parts of a list of texts.
use Rattle.std.proofs.Common.{◌≡◌, ℕ, zero, suc, ◌-◌, ◌≤◌, List, [], ◌∷◌, ◌++◌, length, take, drop, refl, sym, ap, ◌∙◌, arith}
use Rattle.std.specs.Borrow.{Bor}
use Rattle.std.proofs.Math.ListN.{get_or}
use Rattle.std.proofs.lemmas.List.{drop-map, length-drop, take-map}
use Rattle.std.proofs.Math.Seq.{take-length}
use Rattle.rma_field.specs.Texts.{texts_at}
use Rattle.rma_form.specs.inside.Places.{from_place}

take_all : {A : Type 0} (from : ℕ) (xs : List A) → take (length xs - from) (drop from xs) ≡ drop from xs
take_all from xs = ap (λ n. take n (drop from xs)) (sym (length-drop from xs)) ∙ take-length (drop from xs)

-- the texts from an index on, and up to one
pub texts_behind : (from : ℕ) (items : List (Bor (List ℕ))) → texts_at (take (length items - from) (drop from items)) ≡ drop from (texts_at items)
texts_behind from items = ap texts_at (take_all from items) ∙ sym (drop-map (λ text. text.now) from items)

pub texts_front : (to : ℕ) (items : List (Bor (List ℕ))) → texts_at (take to items) ≡ take to (texts_at items)
texts_front to items = sym (take-map (λ text. text.now) to items)

from_place_behind : (item : Bor (List ℕ)) (items : List (Bor (List ℕ))) (other : Bor (List ℕ)) (place n : ℕ) → from_place (item ∷ items) other (suc place) n ≡ from_place items other place n
from_place_behind item items other place zero = refl
from_place_behind item items other place (suc n) = ap (λ them. (get_or items place other).now ∷ them) (from_place_behind item items other (suc place) n)

-- texts are those at their first places, and the rest
pub texts_each : (n : ℕ) (items : List (Bor (List ℕ))) (other : Bor (List ℕ)) → n ≤ length items → texts_at items ≡ from_place items other 0 n ++ drop n (texts_at items)
texts_each zero items other enough = refl
texts_each (suc n) [] other enough = absurd (omega arith)
texts_each (suc n) (item ∷ items) other enough =
    ap (λ them. item.now ∷ them)
    (texts_each n items other (omega arith) ∙ ap (λ them. them ++ drop n (texts_at items)) (sym (from_place_behind item items other 0 n)))
