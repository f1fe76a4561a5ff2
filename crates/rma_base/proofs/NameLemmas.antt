-- A name is ASCII, so it is text.
use Rattle.std.proofs.Common.{◌≡◌, ℕ, ◌<◌, ◌&&◌, Bool, true, false, List, [], ◌∷◌, refl, arith}
use Rattle.std.specs.List.{list_all}
use Rattle.std.specs.Str.{IsAscii, IsUtf8}
use Rattle.std.proofs.lemmas.Str.{IsUtf8-from_ascii}
use Rattle.std.proofs.lemmas.Str.Ascii.{IsAscii-nil, IsAscii-cons}
use Rattle.std.proofs.lemmas.Bool.Decides.{nat_tests}
use Rattle.std.proofs.lemmas.Bool.{false≢true}
use Rattle.rma_base.specs.Name.{is_name, begins_name, continues_name}

begins_below : (b : ℕ) → begins_name b ≡ true → b < 128
begins_below b h = grind (arith, nat_tests)

continues_below : (b : ℕ) → continues_name b ≡ true → b < 128
continues_below b h = grind (arith, nat_tests)

pub and_left : (a b : Bool) → (a && b) ≡ true → a ≡ true
and_left true b h = refl
and_left false b h = h

pub and_right : (a b : Bool) → (a && b) ≡ true → b ≡ true
and_right true b h = h
and_right false b h = absurd (false≢true h)

IsAscii_continues : (bs : List ℕ) → list_all continues_name bs ≡ true → IsAscii bs
IsAscii_continues [] h = IsAscii-nil
IsAscii_continues (b ∷ bs) h =
    IsAscii-cons b bs (continues_below b (and_left (continues_name b) _ h)) (IsAscii_continues bs (and_right (continues_name b) _ h))

pub IsUtf8_name : (bs : List ℕ) → is_name bs ≡ true → IsUtf8 bs
IsUtf8_name [] h = absurd (false≢true h)
IsUtf8_name (b ∷ bs) h =
    let front = and_left (begins_name b && list_all continues_name bs) _ h in
    IsUtf8-from_ascii (b ∷ bs) (IsAscii-cons b bs (begins_below b (and_left (begins_name b) _ front)) (IsAscii_continues bs (and_right (begins_name b) _ front)))
