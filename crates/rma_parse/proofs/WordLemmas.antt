-- The words behind a verb: the site, which is the last of them, and those before it.
use Rattle.std.proofs.Common.{◌≡◌, ℕ, ◌-◌, true, false, List, [], ◌∷◌, ◌++◌, length, take, drop, Some, None, refl, sym, ap, ◌∙◌, arith}
use Rattle.std.specs.Prelude.{is_some}
use Rattle.std.specs.Borrow.{Bor}
use Rattle.std.proofs.lemmas.List.{length-append}
use Rattle.std.proofs.Math.Seq.{take-append_seam, take-length}
use Rattle.rma_form.specs.Lines.{begins_with, behind_at, fields_of, site_text}
use Rattle.rma_form.proofs.CanonicalLemmas.{last_word}
use Rattle.rma_field.specs.Texts.{texts_at}

texts_last : (fields : List (Bor (List ℕ))) (word : Bor (List ℕ)) → texts_at (fields ++ word ∷ []) ≡ texts_at fields ++ word.now ∷ []
texts_last [] word = refl
texts_last (field ∷ fields) word = ap (λ them. field.now ∷ them) (texts_last fields word)

rest_whole : (text : List ℕ) → take (length text - 1) (drop 1 text) ≡ drop 1 text
rest_whole [] = refl
rest_whole (byte ∷ text) = let long : length (byte ∷ text) - 1 ≡ length text = omega arith in rw long (take-length text)

behind_first : (text : List ℕ) → begins_with 64 text ≡ true → behind_at (Some text) ≡ Some (take (length text - 1) (drop 1 text))
behind_first text at = rw at (ap Some (sym (rest_whole text)))

module _ (words fields : List (Bor (List ℕ))) (word : Bor (List ℕ)) (is : words ≡ fields ++ word ∷ []) where
  whole : texts_at words ≡ texts_at fields ++ word.now ∷ []
  whole = ap texts_at is ∙ texts_last fields word

  site_last : site_text (texts_at words) ≡ behind_at (Some word.now)
  site_last = ap site_text whole ∙ ap behind_at (last_word None (texts_at fields) word.now)

  -- the last word is the site
  pub site_found : begins_with 64 word.now ≡ true → site_text (texts_at words) ≡ Some (take (length word.now - 1) (drop 1 word.now))
  site_found at = site_last ∙ behind_first word.now at

  pub fields_found : begins_with 64 word.now ≡ true → fields_of (texts_at words) ≡ texts_at fields
  fields_found at =
      let sited : is_some (site_text (texts_at words)) ≡ true = ap is_some (site_found at) in
      let long : length (texts_at fields ++ word.now ∷ []) - 1 ≡ length (texts_at fields) = omega (arith, length-append (texts_at fields) (word.now ∷ [])) in
      rw sited
      (ap (λ them. take (length them - 1) them) whole
      ∙ ap (λ n. take n (texts_at fields ++ word.now ∷ [])) long
      ∙ take-append_seam (texts_at fields) (word.now ∷ []))

  -- the last word is no site
  pub site_missed : begins_with 64 word.now ≡ false → site_text (texts_at words) ≡ None
  site_missed other = site_last ∙ rw other refl

-- there is no word
pub site_of_none : (words : List (Bor (List ℕ))) → length words ≡ 0 → site_text (texts_at words) ≡ None
site_of_none [] none = refl
site_of_none (word ∷ words) none = absurd (omega arith)

-- without a site, all words are fields
pub fields_all : (words : List (List ℕ)) → site_text words ≡ None → fields_of words ≡ words
fields_all words none = rw none refl
