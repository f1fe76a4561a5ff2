-- What a line states (the log format of this product).
use Rattle.std.specs.Prelude.{◌≡◌, ℕ, ◌+◌, ◌-◌, Bool, false, List, [], ◌∷◌, length, take, drop, nat_lt, Option, Some, None, is_some, Result, Ok, Err, ◌==◌, if◌then◌else◌}
use Rattle.rma_base.specs.declared.form_reason.FormReason.{FormReason}
use Rattle.rma_base.specs.declared.form_reason.FormReason.TheVariants.{WrongCount}
use Rattle.rma_base.specs.declared.version.Version.{Version}
use Rattle.rma_field.specs.Sites.{site}
use Rattle.rma_field.specs.Steps.{◌>>=◌}
use Rattle.rma_lex.specs.Field.{fields, texts}
use Rattle.rma_form.specs.declared.event.Stated.{Stated}
use Rattle.rma_form.specs.declared.form.LineForm.{LineForm}
use Rattle.rma_form.specs.Forms.{form_at, form_of, event_of, kind_words}
use Rattle.rma_form.specs.Tails.{tail_counted}

-- the text begins with that byte
abbrev pub begins_with : ℕ → List ℕ → Bool
begins_with byte [] = false
begins_with byte (first ∷ rest) = first == byte

-- the last of the words, or what came before where there is none
abbrev pub last_or : Option (List ℕ) → List (List ℕ) → Option (List ℕ)
last_or before [] = before
last_or before (word ∷ rest) = last_or (Some word) rest

-- what stands behind `@`, where the word begins so
abbrev pub behind_at : Option (List ℕ) → Option (List ℕ)
behind_at None = None
behind_at (Some word) = if begins_with 64 word then Some (drop 1 word) else None

-- the site of a line, of which these are the words behind the verb: the last of them, where it begins with `@`
abbrev pub site_text : List (List ℕ) → Option (List ℕ)
site_text rest = behind_at (last_or None rest)

-- the words behind the verb without the site
abbrev pub fields_of : List (List ℕ) → List (List ℕ)
fields_of rest = if is_some (site_text rest) then take (length rest - 1) rest else rest

-- the number of fields fits the form in a log of this version, and so do words of assertions
abbrev pub counted : Version → LineForm → List (List ℕ) → Result (Unit {0}) FormReason
counted v form texts =
    let least = kind_words form + length (form_at form).kinds in
    if nat_lt (length texts) least then Err WrongCount else tail_counted v (form_at form).tail (drop least texts)

-- a site, where there is one, has to be a good one
abbrev pub site_of : Option (List ℕ) → Result (Option (List ℕ)) FormReason
site_of None = Ok None
site_of (Some text) = site text >>= λ it. Ok (Some it)

-- What a line of a form states that has these fields and perhaps this site; or the reason that the first step finds. The
-- steps are: the number of fields, with words of assertions; the site; and the fields from left to right.
abbrev pub stated_in : Version → LineForm → List (List ℕ) → Option (List ℕ) → Result Stated FormReason
stated_in v form texts text =
    counted v form texts >>= λ _.
    site_of text >>= λ site.
    event_of v form (drop (kind_words form) texts) >>= λ event.
    Ok (record { event = event; site = site })

-- What the words of a line state, the verb and the rest. The verb, and the word of its kind behind some verbs, come before
-- the other steps.
abbrev pub stated_by : Version → List ℕ → List (List ℕ) → Result Stated FormReason
stated_by v verb rest = form_of v verb (fields_of rest) >>= λ form. stated_in v form (fields_of rest) (site_text rest)

-- a line without a word is blank, and one whose first word begins with `#` is a comment: they state nothing
abbrev pub read_words : Version → List (List ℕ) → Result (Option Stated) FormReason
read_words v [] = Ok None
read_words v (verb ∷ rest) = if begins_with 35 verb then Ok None else (stated_by v verb rest >>= λ stated. Ok (Some stated))

-- what a line of a log of this version says: nothing, or what it states, or why it is bad
abbrev pub reading : Version → List ℕ → Result (Option Stated) FormReason
reading v text = read_words v (texts (fields text))

-- the line states this
abbrev pub states : Version → List ℕ → Stated → Type 0
states v text stated = reading v text ≡ Ok (Some stated)
