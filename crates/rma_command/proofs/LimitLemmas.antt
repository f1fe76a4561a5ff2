-- The limit among the words.
use Rattle.std.proofs.Common.{◌≡◌, ℕ, Bool, true, false, cond, List, [], ◌∷◌, ◌++◌, codes, Some, None, Option, option_map, refl, ap, subst, ◌∙◌}
use Rattle.std.proofs.lemmas.Option.{none-some}
use Rattle.std.proofs.lemmas.Slice.Eq.{bytes_eq-Decides}
use Rattle.rma_command.specs.Words.{number_of, AreLimit}
use Rattle.rma_command.specs.inside.Words.{is, limit_behind, limit_from}

abbrev Words : Type 0
Words = List (List ℕ)

-- the words of the limit that is read
pub limit_read : (words : Words) (found : Option ℕ × Words) → limit_from words ≡ Some found → (limits : Words) × AreLimit limits found.0 × (words ≡ limits ++ found.1)
limit_read [] found h = let same : (None, []) ≡ found = cc in subst (λ f. (limits : Words) × AreLimit limits f.0 × ([] ≡ limits ++ f.1)) same ([], refl, refl)
limit_read (word ∷ words) found h = by (is word (codes "--limit")) refl h
  where
    from : (rest : Words) → limit_behind rest ≡ Some found → (limits : Words) × AreLimit limits found.0 × (codes "--limit" ∷ rest ≡ limits ++ found.1)
    from [] none = absurd (none-some found none)
    from (number ∷ rest) some = at (number_of number) refl some
      where
        at : (value : Option ℕ) → number_of number ≡ value → option_map (λ limit. (Some limit, rest)) value ≡ Some found →
            (limits : Words) × AreLimit limits found.0 × (codes "--limit" ∷ number ∷ rest ≡ limits ++ found.1)
        at None same none = absurd (none-some found none)
        at (Some limit) same some =
            let found_is : (Some limit, rest) ≡ found = cc in
            subst (λ f. (limits : Words) × AreLimit limits f.0 × (codes "--limit" ∷ number ∷ rest ≡ limits ++ f.1)) found_is (codes "--limit" ∷ number ∷ [], (number, refl, same), refl)

    by : (b : Bool) → is word (codes "--limit") ≡ b → cond b (limit_behind words) (Some (None, word ∷ words)) ≡ Some found →
        (limits : Words) × AreLimit limits found.0 × (word ∷ words ≡ limits ++ found.1)
    by false fails other =
        let same : (None, word ∷ words) ≡ found = cc in
        subst (λ f. (limits : Words) × AreLimit limits f.0 × (word ∷ words ≡ limits ++ f.1)) same ([], refl, refl)
    by true holds some =
        let first : word ≡ codes "--limit" = (bytes_eq-Decides word (codes "--limit")).0 holds in
        let read = from words some in (read.0, read.1, ap (λ w. w ∷ words) first ∙ read.2)
