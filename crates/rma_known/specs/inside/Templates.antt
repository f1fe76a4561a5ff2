-- What is kept of calls that came before, and may come again elsewhere.
use Rattle.std.specs.Prelude.{◌≡◌, ◌+◌, ◌<◌, ◌≤◌, ⊤, ℕ, Bool, is_some, true, false, List, [], ◌∷◌, ◌++◌, Ok, Option, None, Some, drop, length, map, option_map, slice_get, take}
use Rattle.std.specs.List.{list_all}
use Rattle.rma_base.specs.Limits.{address_limit}
use Rattle.rma_base.specs.declared.version.Version.{Version}
use Rattle.rma_lex.specs.Field.{begins_field, fields, is_blank, is_field, texts}
use Rattle.rma_form.specs.Forms.{form_of}
use Rattle.rma_known.specs.declared.call_form.CallForm.{CallForm}
use Rattle.rma_known.specs.declared.call_form.Part.{Part}
use Rattle.rma_known.specs.declared.call_form.Part.TheVariants.{Number, Name, Request}
use Rattle.rma_known.specs.declared.call_form.Place.{Place}
use Rattle.rma_known.specs.declared.call_form.Place.TheVariants.{Same}
use Rattle.rma_known.specs.declared.part_at.NextWord.{NextWord}
use Rattle.rma_known.specs.declared.part_at.PartAt.{PartAt}
use Rattle.rma_known.specs.Elsewhere.{Details, IsElsewhere, Says, form_of_call, joined, no_details, part_of, places_of}
use Rattle.rma_known.specs.Known.{Known, IsAmong}

-- a call that came before, with its form and its particulars
pub record Placed : Type 0 where
  pub known : Known
  pub form : CallForm
  pub from : Details

-- it stands among these
abbrev pub IsPlacedAmong : List (Option Placed) → Placed → Type 0
IsPlacedAmong them placed = (at : ℕ) × (slice_get them at ≡ Some (Some placed))

-- words are those of this call elsewhere: what it does, whether it has a request, the numbers among its particulars, and those of the words
pub record IsMadeAs (placed : Placed) (v : Version) (words : List ℕ) (what : ℕ) (requests : Bool) (from : List ℕ) (to : Details) : Type 0 where
  pub version : placed.known.version ≡ v
  pub does : placed.known.what ≡ what
  pub request : is_some placed.known.request ≡ requests
  pub here : IsElsewhere v placed.form placed.known.words placed.known.words (record { numbers = from; name = placed.from.name; request = placed.known.request })
  pub there : IsElsewhere v placed.form placed.known.words words to

-- the same of one of these calls
abbrev pub IsMadeAmong : List (Option Placed) → Version → List ℕ → ℕ → Bool → List ℕ → Details → Type 0
IsMadeAmong them v words what requests from to = (placed : Placed) × IsPlacedAmong them placed × IsMadeAs placed v words what requests from to

-- the texts of the fields of a text
abbrev pub words_in : List ℕ → List (List ℕ)
words_in text = texts (fields text)

-- the text is a word that says a particular
pub record IsPartWord (part : Part) (text : List ℕ) (said : Details) : Type 0 where
  pub says : Says part text said
  pub is_word : words_in text ≡ text ∷ []

-- a text begins with this word, behind so many blanks, and no field goes on behind it
pub record IsNextWord (text : List ℕ) (word : NextWord) : Type 0 where
  pub blanks : List ℕ
  pub here : List ℕ
  pub rest : List ℕ
  pub parted : text ≡ blanks ++ (here ++ rest)
  pub gap : length blanks ≡ word.gap
  pub len : length here ≡ word.len
  pub some : 0 < word.len
  pub are_blank : list_all is_blank blanks ≡ true
  pub is_word : list_all is_field here ≡ true
  pub apart : begins_field rest ≡ false

-- where a word stands is noted, if it is a particular; so many bytes stand behind the last particular before and then
abbrev pub IsNoted : Option Part → ℕ → NextWord → List PartAt → List PartAt → ℕ → Type 0
IsNoted None before word old new next = (new ≡ old) × (next ≡ before + word.gap + word.len)
IsNoted (Some part) before word old new next = (new ≡ old ++ record { before = before + word.gap; len = word.len; part = part } ∷ []) × (next ≡ 0)

-- a text ends with a blank
pub record EndsBlank (text : List ℕ) : Type 0 where
  pub front : List ℕ
  pub blank : ℕ
  pub is : is_blank blank ≡ true
  pub parted : text ≡ front ++ blank ∷ []

-- a particular stands where this says, and the words of the text say this up to it; this comes behind it, and says more
pub record Begins (v : Version) (part : PartAt) (text : List ℕ) (places : List Place) (rest : List ℕ) (more : List Place) : Type 0 where
  pub front : List ℕ
  pub word : List ℕ
  pub place : Place
  pub parted : text ≡ front ++ (word ++ rest)
  pub before : length front ≡ part.before
  pub len : length word ≡ part.len
  pub blank : EndsBlank front
  pub is_word : words_in word ≡ word ∷ []
  pub apart : begins_field rest ≡ false
  pub particular : part_of v place ≡ Some part.part
  pub says : places ≡ map (λ _. Same) (words_in front) ++ place ∷ more

-- particulars stand where these say in a text, whose first words say this
abbrev pub Stand : Version → List PartAt → List ℕ → List Place → Type 0
Stand v [] text places = (first more : List (List ℕ)) × (words_in text ≡ first ++ more) × (places ≡ map (λ _. Same) first)
Stand v (part ∷ parts) text places = (rest : List ℕ) × (more : List Place) × Begins v part text places rest more × Stand v parts rest more

-- so many words of a line were gone over: particulars stand where these say, so many bytes stand behind the last, then comes the
-- rest, whose words are to say what is left
pub record AreGoneOver (v : Version) (words : List ℕ) (places : List Place) (parts : List PartAt) (before : ℕ) (rest : List ℕ) (left : List Place) : Type 0 where
  pub front : List ℕ
  pub long : length front ≡ before
  pub within : length front + length rest ≤ length words
  pub apart : begins_field rest ≡ false
  pub then : (more : List PartAt) → Stand v more (front ++ rest) (map (λ _. Same) (words_in front) ++ left) → Stand v (parts ++ more) words places

-- a number that is a particular is an address at most
abbrev pub IsLow : Part → Type 0
IsLow (Number limit) = limit ≤ address_limit
IsLow Name = ⊤
IsLow Request = ⊤

-- the text has room for particulars where these say, and their numbers are those of addresses or less
abbrev pub Fit : List PartAt → List ℕ → Type 0
Fit [] text = ⊤
Fit (part ∷ parts) text = (part.before + part.len ≤ length text) × IsLow part.part × Fit parts (drop (part.before + part.len) text)

-- a text begins as one that is known, up to this particular, which is another there; this comes behind it
pub record HasPart (part : PartAt) (known text : List ℕ) (said : Details) (rest : List ℕ) : Type 0 where
  pub word : List ℕ
  pub parted : text ≡ take part.before known ++ (word ++ rest)
  pub is : IsPartWord part.part word said

-- a text is one that is known, but for the particulars that stand where these say, which are these there
abbrev pub AreAlike : List PartAt → List ℕ → List ℕ → Details → Type 0
AreAlike [] known text found = (text ≡ known) × (found ≡ no_details)
AreAlike (part ∷ parts) known text found =
    (rest : List ℕ) × (said more : Details) × HasPart part known text said rest × AreAlike parts (drop (part.before + part.len) known) rest more × (found ≡ joined said more)

-- particulars stand in the words where these say, the words have the form, and the particulars are these
pub record IsOfParts (v : Version) (words : List ℕ) (parts : List PartAt) (form : CallForm) (from : Details) : Type 0 where
  pub verb : List ℕ
  pub own : List (List ℕ)
  pub words_are : words_in words ≡ verb ∷ own
  pub has_form : form_of v verb own ≡ Ok (form_of_call form)
  pub says : Stand v parts words (Same ∷ places_of form)
  pub alike : AreAlike parts words words from

-- what is known of some calls
abbrev pub known_of : List (Option Placed) → List (Option Known)
known_of them = map (option_map (λ placed. placed.known)) them

-- it is known of one of these calls
abbrev pub IsKnownAmong : List (Option Placed) → Known → Type 0
IsKnownAmong them known = IsAmong (known_of them) known
