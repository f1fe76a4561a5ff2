-- The strict audit that words ask for.
use Rattle.std.proofs.Common.{◌≡◌, ℕ, List, ◌∷◌, ◌++◌, codes, Some, None, Option, option_map, refl, ap, subst}
use Rattle.std.specs.Option.{option_and_then}
use Rattle.std.proofs.lemmas.Option.{none-some}
use Rattle.rma_command.specs.Words.{Strict, AuditsStrictly, AreLimit, IsStrict}
use Rattle.rma_command.specs.inside.Words.{limit_from, names_from, strict_behind, command_of}
use Rattle.rma_command.proofs.LimitLemmas.{limit_read}
use Rattle.rma_command.proofs.NameLemmas.{AreRead, names_are_read, read_are_names}

abbrev Words : Type 0
Words = List (List ℕ)

-- the strict audit with a limit and names
abbrev with : Option ℕ → List (List ℕ) → Strict
with limit names = record { limit = limit; names = names }

behind : (limits rest names : Words) (limit : Option ℕ) → AreLimit limits limit → AreRead rest names → strict_behind (limits ++ rest) ≡ Some (with limit names)
behind limits rest names None none read = rw (none, read.no_limit, read.names_are) refl
behind limits rest names (Some limit) (word, some, number) read = rw (some, number, read.names_are) refl

pub strict_is_read : (words : Words) (strict : Strict) → IsStrict words strict → command_of words ≡ Some (AuditsStrictly strict)
strict_is_read words strict h =
    rw h.words_are (ap (option_map AuditsStrictly) (behind h.limits h.rest strict.names strict.limit h.limit_is (names_are_read h.rest strict.names h.names_are)))

pub strict_read : (words : Words) (strict : Strict) → strict_behind words ≡ Some strict → IsStrict (codes "strict" ∷ words) strict
strict_read words strict h = at (limit_from words) refl h
  where
    at : (found : Option (Option ℕ × Words)) → limit_from words ≡ found → option_and_then (λ f. option_map (with f.0) (names_from f.1)) found ≡ Some strict → IsStrict (codes "strict" ∷ words) strict
    at None is_none none = absurd (none-some strict none)
    at (Some found) is_some some = by (names_from found.1) refl some
      where
        limit : (limits : Words) × AreLimit limits found.0 × (words ≡ limits ++ found.1)
        limit = limit_read words found is_some

        by : (names : Option Words) → names_from found.1 ≡ names → option_map (with found.0) names ≡ Some strict → IsStrict (codes "strict" ∷ words) strict
        by None named none = absurd (none-some strict none)
        by (Some names) named all =
            let same : with found.0 names ≡ strict = cc in
            subst (λ s. IsStrict (codes "strict" ∷ words) s) same
            (record { limits = limit.0; rest = found.1; words_are = ap (λ them. codes "strict" ∷ them) limit.2; limit_is = limit.1; names_are = read_are_names found.1 names named })
