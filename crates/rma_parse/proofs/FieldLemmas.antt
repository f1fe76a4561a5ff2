-- The further fields of a form, each by its place.
use Rattle.std.proofs.Common.{◌≡◌, ℕ, ◌+◌, ◌≤◌, List, [], ◌∷◌, ◌++◌, length, drop, get_or, None, Result, Ok, Err, Bor, refl, sym, subst, arith}
use Rattle.std.proofs.lemmas.Bool.{le-ltb}
use Rattle.std.proofs.lemmas.List.{length-map}
use Rattle.rma_base.specs.declared.version.Version.{Version}
use Rattle.rma_field.specs.declared.parse_error.ParseError.{ParseError}
use Rattle.rma_field.specs.Steps.{Gives}
use Rattle.rma_field.specs.Texts.{texts_at}
use Rattle.rma_base.specs.declared.form_reason.FormReason.TheVariants.{WrongCount}
use Rattle.rma_form.specs.Forms.{event_of, form_at, kind_words}
use Rattle.rma_form.specs.Lines.{counted}
use Rattle.rma_form.specs.Tails.{received, tail_counted, tail_of}
use Rattle.rma_form.specs.declared.event.Event.{Event}
use Rattle.rma_form.specs.declared.form.LineForm.{LineForm}
use Rattle.rma_form.specs.inside.Places.{from_place}
use Rattle.rma_form.proofs.LineLemmas.{counted_enough}
use Rattle.rma_form.proofs.TextLemmas.{texts_each}

-- enough fields are counted by what stands behind them
pub counted_fields : (v : Version) (form : LineForm) (fields : List (Bor (List ℕ))) (least : ℕ) → least ≡ kind_words form + length (form_at form).kinds → least ≤ length fields
    → counted v form (texts_at fields) ≡ tail_counted v (form_at form).tail (drop least (texts_at fields))
counted_fields v form fields least is enough =
    let long : length (texts_at fields) ≡ length fields = length-map fields (λ text. text.now) in
    counted_enough v form (texts_at fields) least is (le-ltb (length (texts_at fields)) least (rw long enough))

-- what was read of the fields at their places, and of the rest, is what the fields of the form state
pub read_rest : (v : Version) (form at : LineForm) (fields : List (Bor (List ℕ))) (other : Bor (List ℕ)) (rest : List (List ℕ)) (result : Result Event ParseError)
    → form ≡ at → length (form_at form).kinds ≤ length fields → rest ≡ drop (length (form_at at).kinds) (texts_at fields)
    → Gives result (event_of v at (from_place fields other 0 (length (form_at at).kinds) ++ rest)) → Gives result (event_of v form (texts_at fields))
read_rest v form at fields other rest result is enough behind given =
    let texts = texts_each (length (form_at at).kinds) fields other (subst (λ (f : LineForm). length (form_at f).kinds ≤ length fields) is enough) in
    subst (λ f. Gives result (event_of v f (texts_at fields))) (sym is)
    (subst (λ them. Gives result (event_of v at them)) (sym texts) (subst (λ them. Gives result (event_of v at (from_place fields other 0 (length (form_at at).kinds) ++ them))) behind given))

-- the same, where the form has no rest
pub read_as : (v : Version) (form at : LineForm) (fields : List (Bor (List ℕ))) (other : Bor (List ℕ)) (result : Result Event ParseError)
    → form ≡ at → length (form_at form).kinds ≤ length fields
    → Gives result (event_of v at (from_place fields other 0 (length (form_at at).kinds) ++ drop (length (form_at at).kinds) (texts_at fields))) → Gives result (event_of v form (texts_at fields))
read_as v form at fields other result is enough given = read_rest v form at fields other (drop (length (form_at at).kinds) (texts_at fields)) result is enough refl given

-- nothing, a source and a tag, or another number of words
pub received_none : (v : Version) (rest : List (Bor (List ℕ))) → length rest ≡ 0 → tail_of v received (texts_at rest) ≡ Ok None
received_none v [] is = refl
received_none v (word ∷ rest) is = absurd (omega arith)

pub received_two : (v : Version) (rest : List (Bor (List ℕ))) (other : Bor (List ℕ)) → length rest ≡ 2 → texts_at rest ≡ (get_or rest 0 other).now ∷ (get_or rest 1 other).now ∷ []
received_two v [] other is = absurd (omega arith)
received_two v (from ∷ []) other is = absurd (omega arith)
received_two v (from ∷ tag ∷ []) other is = refl
received_two v (from ∷ tag ∷ more ∷ rest) other is = absurd (omega arith)

pub received_other : (v : Version) (rest : List (Bor (List ℕ))) → (length rest ≡ 0 → ⊥) → (length rest ≡ 2 → ⊥) → tail_of v received (texts_at rest) ≡ Err WrongCount
received_other v [] some two = absurd (some refl)
received_other v (from ∷ []) some two = refl
received_other v (from ∷ tag ∷ []) some two = absurd (two refl)
received_other v (from ∷ tag ∷ more ∷ rest) some two = refl
