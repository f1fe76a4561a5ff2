-- Words without a blank and without `@`.
use Rattle.std.proofs.Common.{◌≡◌, ℕ, ℤ, suc, ◌^◌, ◌<◌, ◌≤◌, ◌&&◌, not, Bool, true, false, List, [], ◌∷◌, length, map, refl, ◌∙◌, arith, eqb}
use Rattle.std.specs.Prelude.{decimal, pos, negsuc}
use Rattle.std.specs.Fmt.{signed_decimal}
use Rattle.std.specs.List.{list_all, join_with_byte}
use Rattle.std.proofs.lemmas.Bool.{false≢true}
use Rattle.std.proofs.lemmas.Bool.Decides.{nat_tests}
use Rattle.std.proofs.lemmas.List.Folds.{list_all-append}
use Rattle.rma_base.proofs.NameLemmas.{and_left, and_right}
use Rattle.rma_base.specs.Name.{is_name, begins_name, continues_name}
use Rattle.rma_base.specs.Site.{is_site, is_site_byte}
use Rattle.rma_lex.specs.Field.{is_field}
use Rattle.rma_field.specs.Integers.{IsBetween}
use Rattle.rma_field.specs.Ranks.{ranks_text}
use Rattle.rma_form.specs.Lines.{begins_with}
use Rattle.rma_field.proofs.DecimalLemmas.{is_decimal, some_decimal, decimal_decimal}
use Rattle.rma_field.proofs.RankTextLemmas.{decimals, small}
use Rattle.rma_field.proofs.RisingLemmas.{Rises, not_true_lem}
use Rattle.rma_form.proofs.WordLemmas.{is_unbroken}

-- neither a blank nor `@`
abbrev pub is_plain_byte : ℕ → Bool
is_plain_byte byte = is_field byte && not (eqb byte 64)

-- one or more such bytes
abbrev pub is_plain : List ℕ → Bool
is_plain [] = false
is_plain (byte ∷ bytes) = list_all is_plain_byte (byte ∷ bytes)

plain_digit : (byte : ℕ) → is_decimal byte ≡ true → is_plain_byte byte ≡ true
plain_digit byte digit = grind (arith, nat_tests)

plain_begins : (byte : ℕ) → begins_name byte ≡ true → is_plain_byte byte ≡ true
plain_begins byte begins = grind (arith, nat_tests)

plain_continues : (byte : ℕ) → continues_name byte ≡ true → is_plain_byte byte ≡ true
plain_continues byte continues = grind (arith, nat_tests)

field_site : (byte : ℕ) → is_site_byte byte ≡ true → is_field byte ≡ true
field_site byte printable = grind (arith, nat_tests)

each : (p q : ℕ → Bool) → ((byte : ℕ) → p byte ≡ true → q byte ≡ true) → (bytes : List ℕ) → list_all p bytes ≡ true → list_all q bytes ≡ true
each p q gives [] all = refl
each p q gives (byte ∷ bytes) all = rw (gives byte (and_left (p byte) _ all)) (each p q gives bytes (and_right (p byte) _ all))

plain_some : (bytes : List ℕ) → 0 < length bytes → list_all is_plain_byte bytes ≡ true → is_plain bytes ≡ true
plain_some [] some all = absurd (omega arith)
plain_some (byte ∷ bytes) some all = all

pub plain_name : (text : List ℕ) → is_name text ≡ true → is_plain text ≡ true
plain_name [] good = absurd (false≢true good)
plain_name (byte ∷ bytes) good =
    let front = and_left (begins_name byte && list_all continues_name bytes) _ good in
    rw (plain_begins byte (and_left (begins_name byte) _ front)) (each continues_name is_plain_byte plain_continues bytes (and_right (begins_name byte) _ front))

pub plain_decimal : (n : ℕ) → n < 2 ^ 64 → is_plain (decimal n) ≡ true
plain_decimal n low = plain_some (decimal n) (some_decimal n low) (each is_decimal is_plain_byte plain_digit (decimal n) (decimal_decimal n low))

pub plain_signed : (low high : ℕ) (z : ℤ) → low < 2 ^ 64 → high < 2 ^ 64 → IsBetween low high z → is_plain (signed_decimal z) ≡ true
plain_signed low high (pos n) small large to = plain_decimal n (omega arith)
plain_signed low high (negsuc n) small large from =
    each is_decimal is_plain_byte plain_digit (decimal (suc n)) (decimal_decimal (suc n) (omega arith))

plain_join : (first : List ℕ) (more : List (List ℕ)) → list_all (list_all is_decimal) (first ∷ more) ≡ true → list_all is_plain_byte (join_with_byte 44 (first ∷ more)) ≡ true
plain_join first [] all = each is_decimal is_plain_byte plain_digit first (and_left (list_all is_decimal first) _ all)
plain_join first (next ∷ more) all =
    list_all-append is_plain_byte first (44 ∷ join_with_byte 44 (next ∷ more))
    ∙ rw (each is_decimal is_plain_byte plain_digit first (and_left (list_all is_decimal first) _ all)) (plain_join next more (and_right (list_all is_decimal first) _ all))

some_join : (first : List ℕ) (more : List (List ℕ)) → 0 < length first → 0 < length (join_with_byte 44 (first ∷ more))
some_join first [] some = some
some_join [] (next ∷ more) some = omega arith
some_join (byte ∷ first) (next ∷ more) some = omega arith

pub plain_ranks : (last : ℕ) (ns : List ℕ) → last ≤ 1023 → Rises last 0 ns → is_plain (ranks_text ns) ≡ true
plain_ranks last [] few up = refl
plain_ranks last (n ∷ ns) few up =
    plain_some (ranks_text (n ∷ ns)) (some_join (decimal n) (map decimal ns) (some_decimal n (small last n few up.1))) (plain_join (decimal n) (map decimal ns) (decimals last 0 (n ∷ ns) few up))

plain_field : (byte : ℕ) → is_plain_byte byte ≡ true → is_field byte ≡ true
plain_field byte plain = and_left (is_field byte) _ plain

-- a plain word is unbroken, and does not begin as a site
unbroken_plain : (word : List ℕ) → is_plain word ≡ true → is_unbroken word ≡ true
unbroken_plain [] plain = absurd (false≢true plain)
unbroken_plain (byte ∷ bytes) plain =
    rw (plain_field byte (and_left (is_plain_byte byte) _ plain)) (each is_plain_byte is_field plain_field bytes (and_right (is_plain_byte byte) _ plain))

pub unbroken_words : (words : List (List ℕ)) → list_all is_plain words ≡ true → list_all is_unbroken words ≡ true
unbroken_words [] plain = refl
unbroken_words (word ∷ words) plain = rw (unbroken_plain word (and_left (is_plain word) _ plain)) (unbroken_words words (and_right (is_plain word) _ plain))

pub no_site : (word : List ℕ) → is_plain word ≡ true → begins_with 64 word ≡ false
no_site [] plain = refl
no_site (byte ∷ bytes) plain = not_true_lem (eqb byte 64) (and_right (is_field byte) _ (and_left (is_plain_byte byte) _ plain))

pub unbroken_site : (site : List ℕ) → is_site site ≡ true → is_unbroken (64 ∷ site) ≡ true
unbroken_site site good = each is_site_byte is_field field_site site (and_right _ (list_all is_site_byte site) good)
