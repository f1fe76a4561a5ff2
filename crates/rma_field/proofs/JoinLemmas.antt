-- Words joined by a byte.
use Rattle.std.proofs.Common.{◌≡◌, ℕ, ◌+◌, ◌<◌, List, [], ◌∷◌, ◌++◌, length, take, map, get_or, refl, sym, ap, ◌∙◌, append_assoc}
use Rattle.std.specs.List.{join_with_byte}
use Rattle.std.proofs.lemmas.List.{take_more, map-append}

-- one word more behind some others
pub join_push : (byte : ℕ) (first : List ℕ) (words : List (List ℕ)) (last : List ℕ)
    → join_with_byte byte (first ∷ (words ++ last ∷ [])) ≡ join_with_byte byte (first ∷ words) ++ byte ∷ last
join_push byte first [] last = refl
join_push byte first (next ∷ words) last =
    ap (λ them. first ++ byte ∷ them) (join_push byte next words last) ∙ sym (append_assoc first (byte ∷ join_with_byte byte (next ∷ words)) (byte ∷ last))

-- one number more in a loop
pub join_more : (byte : ℕ) (write : ℕ → List ℕ) (first : ℕ) (more : List ℕ) (i : ℕ) → i < length more
    → join_with_byte byte (map write (first ∷ take (i + 1) more)) ≡ join_with_byte byte (map write (first ∷ take i more)) ++ byte ∷ write (get_or more i 0)
join_more byte write first more i within =
    ap (λ them. join_with_byte byte (map write (first ∷ them))) (take_more more i 0 within)
    ∙ ap (λ them. join_with_byte byte (write first ∷ them)) (map-append write (take i more) (get_or more i 0 ∷ []))
    ∙ join_push byte (write first) (map write (take i more)) (write (get_or more i 0))
