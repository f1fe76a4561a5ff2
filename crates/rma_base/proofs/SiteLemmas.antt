-- A site is ASCII, so it is text.
use Rattle.std.proofs.Common.{◌≡◌, ℕ, ◌<◌, true, List, [], ◌∷◌, arith}
use Rattle.std.specs.List.{list_all}
use Rattle.std.specs.Str.{IsAscii, IsUtf8}
use Rattle.std.proofs.lemmas.Str.{IsUtf8-from_ascii}
use Rattle.std.proofs.lemmas.Str.Ascii.{IsAscii-nil, IsAscii-cons}
use Rattle.std.proofs.lemmas.Bool.Decides.{nat_tests}
use Rattle.rma_base.specs.Site.{is_site, is_site_byte}
use Rattle.rma_base.proofs.NameLemmas.{and_left, and_right}

site_byte_below : (b : ℕ) → is_site_byte b ≡ true → b < 128
site_byte_below b h = grind (arith, nat_tests)

IsAscii_site_bytes : (bs : List ℕ) → list_all is_site_byte bs ≡ true → IsAscii bs
IsAscii_site_bytes [] h = IsAscii-nil
IsAscii_site_bytes (b ∷ bs) h =
    IsAscii-cons b bs (site_byte_below b (and_left (is_site_byte b) _ h)) (IsAscii_site_bytes bs (and_right (is_site_byte b) _ h))

pub IsUtf8_site : (bs : List ℕ) → is_site bs ≡ true → IsUtf8 bs
IsUtf8_site bs h = IsUtf8-from_ascii bs (IsAscii_site_bytes bs (and_right _ (list_all is_site_byte bs) h))
