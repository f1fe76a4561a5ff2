-- The form of a line whose verb has forms with words of their kind, and the number of its fields.
use Rattle.std.proofs.Common.{◌≡◌, ℕ, ◌+◌, true, false, List, [], ◌∷◌, length, drop, Option, Result, Ok, Err, Bor, refl, sym, ap, subst, ◌∙◌, ⊎_elim}
use Rattle.std.specs.Prelude.{is_some, find, not, nat_lt, IsNone, IfSome, MatchOption, Some, None, if◌then◌else◌}
use Rattle.std.proofs.lemmas.Bool.{cases_Bool}
use Rattle.std.proofs.lemmas.List.{drop-drop}
use Rattle.rma_base.specs.declared.form_reason.FormReason.TheVariants.{WrongCount}
use Rattle.rma_base.specs.declared.version.Version.{Version}
use Rattle.rma_field.specs.declared.parse_error.ParseError.{ParseError}
use Rattle.rma_field.specs.Steps.{Gives}
use Rattle.rma_form.specs.declared.form.LineForm.{LineForm}
use Rattle.rma_form.specs.Forms.{form_at, form_of, form_of_kind, form_of_verb, forms, has_verb, kind_words}
use Rattle.rma_form.specs.Lines.{counted}
use Rattle.rma_form.specs.Tails.{tail_counted}

kind_form_some : (v : Version) (verb : List ℕ) (fields : List (List ℕ)) (form : LineForm) (kind : Option (Bor (List ℕ))) (result : Result LineForm ParseError)
    → true ≡ is_some (form_at form).kind_word
    → MatchOption kind (fields ≡ []) (λ word. (rest : List (List ℕ)) × (fields ≡ word.now ∷ rest))
    → (IsNone kind → Gives result (form_of_kind v verb [])) → IfSome kind (λ word. (rest : List (List ℕ)) → Gives result (form_of_kind v verb (word.now ∷ rest)))
    → Gives result (form_of_verb v verb (Some form) fields)
kind_form_some v verb fields form None result has is none some =
    subst (λ b. Gives result (if not b then Ok form else form_of_kind v verb fields)) has (subst (λ f. Gives result (form_of_kind v verb f)) (sym is) (none refl))
kind_form_some v verb fields form (Some word) result has is none some =
    subst (λ b. Gives result (if not b then Ok form else form_of_kind v verb fields)) has (subst (λ f. Gives result (form_of_kind v verb f)) (sym is.1) (some is.0))

-- the form of a line whose verb has forms with words of their kind
pub kind_form : (v : Version) (verb : List ℕ) (fields : List (List ℕ)) (form : LineForm) (kind : Option (Bor (List ℕ))) (result : Result LineForm ParseError)
    → Some form ≡ find (has_verb v verb) forms → true ≡ is_some (form_at form).kind_word
    → MatchOption kind (fields ≡ []) (λ word. (rest : List (List ℕ)) × (fields ≡ word.now ∷ rest))
    → (IsNone kind → Gives result (form_of_kind v verb [])) → IfSome kind (λ word. (rest : List (List ℕ)) → Gives result (form_of_kind v verb (word.now ∷ rest)))
    → Gives result (form_of v verb fields)
kind_form v verb fields form kind result found has is none some =
    subst (λ o. Gives result (form_of_verb v verb o fields)) found (kind_form_some v verb fields form kind result has is none some)

-- too few fields, and enough of them
pub counted_few : (v : Version) (form : LineForm) (words : List (List ℕ)) (least : ℕ) → least ≡ kind_words form + length (form_at form).kinds
    → nat_lt (length words) least ≡ true → counted v form words ≡ Err WrongCount
counted_few v form words least is few = let less = rw is at few in rw less refl

pub counted_enough : (v : Version) (form : LineForm) (words : List (List ℕ)) (least : ℕ) → least ≡ kind_words form + length (form_at form).kinds
    → nat_lt (length words) least ≡ false → counted v form words ≡ tail_counted v (form_at form).tail (drop least words)
counted_enough v form words least is enough =
    let more : nat_lt (length words) (kind_words form + length (form_at form).kinds) ≡ false = rw is at enough in
    rw (more, is) refl

-- what stands behind as many fields as the form has was counted
pub counted_behind : (v : Version) (form : LineForm) (words : List (List ℕ)) → counted v form words ≡ Ok tt
    → tail_counted v (form_at form).tail (drop (length (form_at form).kinds) (drop (kind_words form) words)) ≡ Ok tt
counted_behind v form words is =
    let least = kind_words form + length (form_at form).kinds in
    ⊎_elim
    (λ (few : nat_lt (length words) least ≡ true). absurd (let bad = rw (counted_few v form words least refl few) at is in cc bad))
    (λ (enough : nat_lt (length words) least ≡ false).
    ap (tail_counted v (form_at form).tail) (drop-drop (length (form_at form).kinds) (kind_words form) words) ∙ sym (counted_enough v form words least refl enough) ∙ is)
    (cases_Bool (nat_lt (length words) least))
