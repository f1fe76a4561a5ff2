-- Lines whose words are those of another, but for numbers.
use Rattle.std.proofs.Common.{◌≡◌, ℕ, suc, ◌+◌, ◌<◌, ◌≤◌, true, false, List, [], ◌∷◌, ◌++◌, map, take, drop, length, length-append, get_or, slice_index_or, Bool, IfSome, Ok, Option, None, Some, ⊎_elim, refl, sym, ap, subst, ◌∙◌, arith}
use Rattle.std.proofs.lemmas.Bool.{cases_Bool, le-leb}
use Rattle.std.proofs.lemmas.Bool.Decides.{nat_tests}
use Rattle.std.proofs.lemmas.List.{append-nil, append_assoc, drop-drop, length-take-le, take-append-drop}
use Rattle.std.proofs.Math.ListN.{drop_of_length-le}
use Rattle.std.proofs.Math.Seq.{drop-append_seam, drop-cons, take-append_seam}
use Rattle.std.specs.Char.{digit_value}
use Rattle.std.specs.List.{list_all}
use Rattle.std.specs.Str.Parse.{AllDigits, digits_value}
use Rattle.std.specs.Option.{option_or}
use Rattle.rma_base.specs.Limits.{address_limit}
use Rattle.rma_base.specs.declared.version.Version.{Version}
use Rattle.rma_base.specs.declared.version.Version.TheVariants.{One, Two}
use Rattle.rma_base.specs.Name.{is_name}
use Rattle.rma_field.specs.Kinds.{last_rank, name_of}
use Rattle.rma_field.specs.Numbers.{natural}
use Rattle.rma_field.proofs.DecimalLemmas.{number_digits}
use Rattle.rma_form.specs.Forms.{form_of}
use Rattle.rma_lex.specs.Field.{begins_field, is_blank, is_field}
use Rattle.rma_known.specs.Elsewhere.{AreElsewhere, Details, IsElsewhere, Says, SaysAt, form_of_call, joined, no_details, number_alone, part_of}
use Rattle.rma_known.specs.declared.call_form.CallForm.{CallForm}
use Rattle.rma_known.specs.declared.call_form.Part.{Part}
use Rattle.rma_known.specs.declared.call_form.Part.TheVariants as part
use Rattle.rma_known.specs.declared.call_form.Place.{Place}
use Rattle.rma_known.specs.declared.call_form.Place.TheVariants.{Same, Rank, Address, Tag, Name, Request}
use Rattle.rma_known.specs.declared.part_at.NextWord.{NextWord}
use Rattle.rma_known.specs.declared.part_at.PartAt.{PartAt}
use Rattle.rma_known.specs.inside.Templates.{AreAlike, AreGoneOver, Begins, Fit, HasPart, IsLow, IsNextWord, IsNoted, IsOfParts, IsPartWord, Stand, words_in}
use Rattle.rma_known.proofs.SlotLemmas.{some_is}
use Rattle.rma_known.proofs.WordLemmas.{begins_front, ends_blank, runs, runs_before, runs_behind, runs_blanks, runs_then_blanks, runs_word, some_blanks, texts_fields_from, words_round}

-- ---- words that are particulars

none_said : (part : Part) (said : Details) → Says part [] said → ⊥
none_said (part.Number limit) said says = let bad = says.1 in cc bad
none_said part.Name said says = let bad = says.0 in cc bad
none_said part.Request said says = let bad = says.0 in cc bad

-- bytes without a blank that say a particular are a word
pub part_word : (part : Part) (said : Details) (word : List ℕ) → list_all is_field word ≡ true → Says part word said → IsPartWord part word said
part_word part said [] all says = absurd (none_said part said says)
part_word part said (byte ∷ word) all says = record { says = says; is_word = texts_fields_from 0 (byte ∷ word) ∙ runs_word byte word all }

field_digit : (byte : ℕ) → digit_value byte < 10 → is_field byte ≡ true
field_digit byte low = grind (arith, nat_tests)

field_digits : (digits : List ℕ) → AllDigits 10 digits → list_all is_field digits ≡ true
field_digits [] all = refl
field_digits (byte ∷ digits) all = rw (field_digit byte all.0, field_digits digits all.1)

-- decimal digits are a word that is a number
pub number_word : (limit : ℕ) (digits : List ℕ) → 0 < length digits → AllDigits 10 digits → digits_value 10 digits ≤ limit
    → IsPartWord (part.Number limit) digits (number_alone (digits_value 10 digits))
number_word limit digits some all within =
    let n = digits_value 10 digits in
    let reads : natural 0 limit digits ≡ Ok n = rw (number_digits digits (some, all), le-leb 0 n (omega arith), le-leb n limit within) refl in
    part_word (part.Number limit) (number_alone n) digits (field_digits digits all) (n, reads, refl)

-- a name is itself
pub named : (word name : List ℕ) → name_of word ≡ Ok name → (name_of word ≡ Ok word) × (word ≡ name)
named word name is =
    ⊎_elim
    (λ (good : is_name word ≡ true). let same = rw good at is in (rw good refl, cc same))
    (λ (bad : is_name word ≡ false). let wrong = rw bad at is in absurd (cc wrong))
    (cases_Bool (is_name word))

-- what holds of what is there
pub some_has : (P : ℕ → Type 0) (found : Option ℕ) (n : ℕ) → found ≡ Some n → IfSome found P → P n
some_has P found n is holds = subst (λ o. IfSome o P) is holds

-- a word was taken, if there was room
pub room_said : (part : Part) (said : Details) (text : List ℕ) (len : ℕ) (was : Bool) (room : Option ℕ) (old new : Details) → IsPartWord part (take len text) said
    → IfSome room (λ same. (was ≡ true) × (same ≡ len)) → (was ≡ true → new ≡ joined old said) → IfSome room (λ n. (one : Details) × IsPartWord part (take n text) one × (new ≡ joined old one))
room_said part said text len was None old new word there taken = tt
room_said part said text len was (Some n) old new word there taken = (said, subst (λ n. IsPartWord part (take n text) said) (sym there.1) word, taken there.0)

-- ---- particulars that are joined

or_assoc : {X : Type 0} (a b c : Option X) → option_or (option_or a b) c ≡ option_or a (option_or b c)
or_assoc None b c = refl
or_assoc (Some x) b c = refl

or_none : {X : Type 0} (a : Option X) → option_or a None ≡ a
or_none None = refl
or_none (Some x) = refl

joined_assoc : (a b c : Details) → joined (joined a b) c ≡ joined a (joined b c)
joined_assoc a b c = rw (append_assoc a.numbers b.numbers c.numbers, or_assoc a.name b.name c.name, or_assoc a.request b.request c.request) refl

joined_none : (a : Details) → joined a no_details ≡ a
joined_none a = rw (append-nil a.numbers, or_none a.name, or_none a.request) refl

-- ---- where particulars stand in a text

low_part : (v : Version) (place : Place) (one : Part) → part_of v place ≡ Some one → IsLow one
low_part v Same one is = cc is
low_part One Rank one is = subst IsLow (some_is (part.Number 63) one is) (omega arith)
low_part Two Rank one is = subst IsLow (some_is (part.Number 1023) one is) (omega arith)
low_part v Address one is = subst IsLow (some_is (part.Number address_limit) one is) (omega arith)
low_part v Tag one is = subst IsLow (some_is (part.Number 2147483647) one is) (omega arith)
low_part v Name one is = subst IsLow (some_is part.Name one is) tt
low_part v Request one is = subst IsLow (some_is part.Request one is) tt

taken : (xs ys : List ℕ) (n : ℕ) → length xs ≡ n → take n (xs ++ ys) ≡ xs
taken xs ys n is = subst (λ m. take m (xs ++ ys) ≡ xs) is (take-append_seam xs ys)

dropped : (xs ys zs : List ℕ) (m n : ℕ) → length xs ≡ m → length ys ≡ n → drop (m + n) (xs ++ (ys ++ zs)) ≡ zs
dropped xs ys zs m n first second =
    ap (λ k. drop k (xs ++ (ys ++ zs))) (sym (ap (λ k. k + n) first) ∙ sym (ap (λ k. length xs + k) second) ∙ sym (length-append xs ys))
    ∙ ap (drop (length (xs ++ ys))) (sym (append_assoc xs ys zs)) ∙ drop-append_seam (xs ++ ys) zs

behind_part : (v : Version) (part : PartAt) (text : List ℕ) (places : List Place) (rest : List ℕ) (more : List Place) → Begins v part text places rest more
    → drop (part.before + part.len) text ≡ rest
behind_part v part text places rest more it = ap (drop (part.before + part.len)) it.parted ∙ dropped it.front it.word rest part.before part.len it.before it.len

before_part : (v : Version) (part : PartAt) (text : List ℕ) (places : List Place) (rest : List ℕ) (more : List Place) (it : Begins v part text places rest more)
    → take part.before text ≡ it.front
before_part v part text places rest more it = ap (take part.before) it.parted ∙ taken it.front (it.word ++ rest) part.before it.before

room : (front word rest text : List ℕ) (before len : ℕ) → text ≡ front ++ (word ++ rest) → length front ≡ before → length word ≡ len → before + len ≤ length text
room front word rest text before len parted first second =
    let whole : length text ≡ length front + (length word + length rest) = ap length parted ∙ length-append front (word ++ rest) ∙ ap (λ n. length front + n) (length-append word rest) in
    omega (arith, whole, first, second)

-- a text has room for the particulars that stand in it
pub fit_of : (v : Version) (parts : List PartAt) (text : List ℕ) (places : List Place) → Stand v parts text places → Fit parts text
fit_of v [] text places stand = tt
fit_of v (part ∷ parts) text places stand =
    let it = stand.2 in (
      room it.front it.word stand.0 text part.before part.len it.parted it.before it.len,
      low_part v it.place part.part it.particular,
      subst (Fit parts) (sym (behind_part v part text places stand.0 stand.1 it)) (fit_of v parts stand.0 stand.1 stand.3),
    )

-- ---- the words of two lines that are alike

same_words : (v : Version) (same : List (List ℕ)) (places : List Place) (own others : List (List ℕ)) (said : Details) → AreElsewhere v places own others said
    → AreElsewhere v (map (λ _. Same) same ++ places) (same ++ own) (same ++ others) said
same_words v [] places own others said is = is
same_words v (word ∷ same) places own others said is =
    (word, word, same ++ own, same ++ others, no_details, said, refl, refl, (refl, refl), same_words v same places own others said is, refl)

all_same : (v : Version) (first more : List (List ℕ)) → AreElsewhere v (map (λ _. Same) first) (first ++ more) (first ++ more) no_details
all_same v [] more = (refl, refl)
all_same v (word ∷ first) more = (word, word, first ++ more, first ++ more, no_details, no_details, refl, refl, (refl, refl), all_same v first more, refl)

-- the words of a text that is another but for particulars are those of that one elsewhere, and both begin with a field or neither
-- does
alike_words : (v : Version) (parts : List PartAt) (known text : List ℕ) (found : Details) (places : List Place) → Stand v parts known places → AreAlike parts known text found
    → (begins_field text ≡ begins_field known) × AreElsewhere v places (words_in known) (words_in text) found
alike_words v [] known text found places stand alike =
    (ap begins_field alike.0, rw (alike.0, alike.1, stand.2, stand.3) (all_same v stand.0 stand.1))
alike_words v (part ∷ parts) known text found places stand alike =
    let rest = stand.0 in
    let it = stand.2 in
    let later = alike.0 in
    let has = alike.3 in
    let deeper = alike_words v parts rest later alike.2 stand.1 stand.3 (subst (λ them. AreAlike parts them later alike.2) (behind_part v part known places rest stand.1 it) alike.4) in
    let text_is : text ≡ it.front ++ (has.word ++ later) = has.parted ∙ ap (λ them. them ++ (has.word ++ later)) (before_part v part known places rest stand.1 it) in
    let own_words : words_in known ≡ words_in it.front ++ it.word ∷ words_in rest = ap words_in it.parted ∙ words_round it.front it.word rest it.blank it.is_word it.apart in
    let words : words_in text ≡ words_in it.front ++ has.word ∷ words_in later =
    ap words_in text_is ∙ words_round it.front has.word later it.blank has.is.is_word (deeper.0 ∙ it.apart) in
    let says : SaysAt (part_of v it.place) it.word has.word alike.1 = subst (λ one. SaysAt one it.word has.word alike.1) (sym it.particular) has.is.says in
    let all = same_words v (words_in it.front) (it.place ∷ stand.1) (it.word ∷ words_in rest) (has.word ∷ words_in later) (joined alike.1 alike.2)
    (it.word, has.word, words_in rest, words_in later, alike.1, alike.2, refl, refl, says, deeper.1, refl) in (
      ap begins_field text_is ∙ begins_front it.front (has.word ++ later) it.blank ∙ sym (begins_front it.front (it.word ++ rest) it.blank) ∙ sym (ap begins_field it.parted),
      rw (own_words, words, it.says, alike.5) all,
    )

-- the words of a line that is another but for particulars are those of that line, elsewhere
pub elsewhere_of : (v : Version) (words : List ℕ) (parts : List PartAt) (form : CallForm) (from : Details) (others : List ℕ) (to : Details) → IsOfParts v words parts form from
    → AreAlike parts words others to → IsElsewhere v form words others to
elsewhere_of v words parts form from others to is at =
    let all = (alike_words v parts words others to _ is.says at).1 in
    let same : is.verb ∷ is.own ≡ all.0 ∷ all.2 = sym is.words_are ∙ all.6 in
    let verb : is.verb ≡ all.0 = ap (λ them. get_or them 0 []) same in
    let own : is.own ≡ all.2 = ap (drop 1) same in
    let said : to ≡ all.5 = all.10 ∙ ap (λ one. joined one all.5) all.8.1 in
    record {
      verb = all.0;
      own = all.2;
      other = all.3;
      words_are = all.6;
      others_are = all.7 ∙ ap (λ word. word ∷ all.3) all.8.0;
      has_form = subst (λ fields. form_of v all.0 fields ≡ Ok (form_of_call form)) own (subst (λ word. form_of v word is.own ≡ Ok (form_of_call form)) verb is.has_form);
      elsewhere = subst (AreElsewhere v _ all.2 all.3) (sym said) all.9;
    }

-- ---- one particular after another

pub next_item : {X : Type 0} (xs : List X) (i : ℕ) (x : X) → i < length xs → drop i xs ≡ slice_index_or xs i x ∷ drop (i + 1) xs
next_item xs i x within =
    let one : suc i ≡ i + 1 = omega arith in
    subst (λ n. drop i xs ≡ get_or xs i x ∷ drop n xs) one (drop-cons xs i x within)

-- a particular stands behind what is the same
pub part_has : (part : PartAt) (known text : List ℕ) (said : Details) (len : ℕ) → take part.before text ≡ take part.before known → IsPartWord part.part (take len (drop part.before text)) said
    → HasPart part known text said (drop (part.before + len) text)
part_has part known text said len same is =
    let at = part.before in
    let word = take len (drop at text) in
    record {
      word = word;
      parted = sym (take-append-drop at text) ∙ ap (λ them. them ++ drop at text) same
          ∙ ap (λ them. take at known ++ them) (sym (take-append-drop len (drop at text)) ∙ ap (λ them. word ++ them) (drop-drop len at text));
      is = is;
    }

-- one particular more, behind those that are found
pub alike_more : (parts : List PartAt) (i : ℕ) (part : PartAt) (own words known text : List ℕ) (found said : Details) (rest : List ℕ) → drop i parts ≡ part ∷ drop (i + 1) parts
    → ((more : Details) → AreAlike (drop i parts) known text more → AreAlike parts own words (joined found more)) → HasPart part known text said rest
    → (more : Details) → AreAlike (drop (i + 1) parts) (drop (part.before + part.len) known) rest more → AreAlike parts own words (joined (joined found said) more)
alike_more parts i part own words known text found said rest next all has more alike =
    subst (AreAlike parts own words) (sym (joined_assoc found said more))
    (all (joined said more) (subst (λ them. AreAlike them known text (joined said more)) (sym next) (rest, said, more, has, alike, refl)))

-- all particulars are found
pub alike_all : (parts : List PartAt) (i : ℕ) (own words known text : List ℕ) (found : Details) → length parts ≤ i → text ≡ known
    → ((more : Details) → AreAlike (drop i parts) known text more → AreAlike parts own words (joined found more)) → AreAlike parts own words found
alike_all parts i own words known text found past same all =
    subst (AreAlike parts own words) (joined_none found)
    (all no_details (subst (λ them. AreAlike them known text no_details) (sym (drop_of_length-le parts {i = i} past)) (same, refl)))

-- ---- the words of a line, one by one

-- a word is the next of a text, behind blanks
pub next_is : (text : List ℕ) (gap len : ℕ) → gap ≤ length text → len ≤ length (drop gap text) → 0 < len → list_all is_blank (take gap text) ≡ true
    → list_all is_field (take len (drop gap text)) ≡ true → begins_field (drop len (drop gap text)) ≡ false → IsNextWord text (record { gap = gap; len = len })
next_is text gap len within inside some blank word apart = record {
  blanks = take gap text;
  here = take len (drop gap text);
  rest = drop len (drop gap text);
  parted = sym (take-append-drop gap text) ∙ ap (λ them. take gap text ++ them) (sym (take-append-drop len (drop gap text)));
  gap = length-take-le gap text within;
  len = length-take-le len (drop gap text) inside;
  some = some;
  are_blank = blank;
  is_word = word;
  apart = apart;
}

text_behind : (text : List ℕ) (word : NextWord) (is : IsNextWord text word) → drop (word.gap + word.len) text ≡ is.rest
text_behind text word is = ap (drop (word.gap + word.len)) is.parted ∙ dropped is.blanks is.here is.rest word.gap word.len is.gap is.len

word_is : (text : List ℕ) (word : NextWord) (is : IsNextWord text word) → words_in is.here ≡ is.here ∷ []
word_is text word is = texts_fields_from 0 is.here ∙ one is.here is.is_word (subst (λ n. 0 < n) (sym is.len) is.some)
  where
    one : (here : List ℕ) → list_all is_field here ≡ true → 0 < length here → runs here ≡ here ∷ []
    one [] all some = absurd (omega (arith, some))
    one (byte ∷ here) all some = runs_word byte here all

whole_length : (text : List ℕ) (word : NextWord) (is : IsNextWord text word) → word.gap + word.len + length is.rest ≡ length text
whole_length text word is =
    let whole : length text ≡ length is.blanks + (length is.here + length is.rest) =
    ap length is.parted ∙ length-append is.blanks (is.here ++ is.rest) ∙ ap (λ n. length is.blanks + n) (length-append is.here is.rest) in
    omega (arith, whole, is.gap, is.len)

-- the verb was gone over
pub verb_gone : (v : Version) (words : List ℕ) (places : List Place) (verb : NextWord) → IsNextWord words verb
    → AreGoneOver v words (Same ∷ places) [] (verb.gap + verb.len) (drop (verb.gap + verb.len) words) places
verb_gone v words places verb is =
    let front = is.blanks ++ is.here in
    let long : length front ≡ verb.gap + verb.len = length-append is.blanks is.here ∙ ap (λ n. n + length is.here) is.gap ∙ ap (λ n. verb.gap + n) is.len in
    let said : words_in front ≡ is.here ∷ [] = texts_fields_from 0 front ∙ runs_blanks is.blanks is.here is.are_blank ∙ sym (texts_fields_from 0 is.here) ∙ word_is words verb is in
    let whole : front ++ is.rest ≡ words = append_assoc is.blanks is.here is.rest ∙ sym is.parted in
    let gone : AreGoneOver v words (Same ∷ places) [] (verb.gap + verb.len) is.rest places = record {
      front = front;
      long = long;
      within = omega (arith, long, whole_length words verb is);
      apart = is.apart;
      then = λ more stand. subst (λ text. Stand v more text (Same ∷ places)) whole (subst (λ them. Stand v more (front ++ is.rest) (map (λ _. Same) them ++ places)) said stand);
    } in
    subst (λ rest. AreGoneOver v words (Same ∷ places) [] (verb.gap + verb.len) rest places) (sym (text_behind words verb is)) gone

same_more : (same : List (List ℕ)) (word : List ℕ) (left : List Place) → map (λ _. Same) (same ++ word ∷ []) ++ left ≡ map (λ _. Same) same ++ Same ∷ left
same_more [] word left = refl
same_more (first ∷ same) word left = ap (λ them. Same ∷ them) (same_more same word left)

word_gone_same : (v : Version) (words : List ℕ) (places : List Place) (parts : List PartAt) (before : ℕ) (rest : List ℕ) (left : List Place) (word : NextWord)
    → AreGoneOver v words places parts before rest (Same ∷ left) → (is : IsNextWord rest word) → AreGoneOver v words places parts (before + word.gap + word.len) is.rest left
word_gone_same v words places parts before rest left word gone is =
    let ahead = gone.front ++ is.blanks in
    let front = ahead ++ is.here in
    let long : length front ≡ length gone.front + length is.blanks + length is.here = length-append ahead is.here ∙ ap (λ n. n + length is.here) (length-append gone.front is.blanks) in
    let some = some_blanks is.blanks is.here is.rest (subst (λ text. begins_field text ≡ false) is.parted gone.apart) is.is_word (subst (λ n. 0 < n) (sym is.len) is.some) in
    let said : words_in front ≡ words_in gone.front ++ is.here ∷ [] =
    texts_fields_from 0 front ∙ runs_behind ahead is.here (ends_blank gone.front is.blanks is.are_blank some)
    ∙ ap (λ them. them ++ runs is.here) (runs_then_blanks gone.front is.blanks is.are_blank ∙ sym (texts_fields_from 0 gone.front))
    ∙ ap (λ them. words_in gone.front ++ them) (sym (texts_fields_from 0 is.here) ∙ word_is rest word is) in
    let whole : front ++ is.rest ≡ gone.front ++ rest =
    append_assoc ahead is.here is.rest ∙ append_assoc gone.front is.blanks (is.here ++ is.rest) ∙ ap (λ them. gone.front ++ them) (sym is.parted) in
    let says_is : map (λ _. Same) (words_in front) ++ left ≡ map (λ _. Same) (words_in gone.front) ++ Same ∷ left =
    ap (λ them. map (λ _. Same) them ++ left) said ∙ same_more (words_in gone.front) is.here left in
    record {
      front = front;
      long = omega (arith, long, gone.long, is.gap, is.len);
      within = omega (arith, long, gone.within, is.gap, is.len, whole_length rest word is);
      apart = is.apart;
      then = λ more stand. gone.then more (subst (λ text. Stand v more text (map (λ _. Same) (words_in gone.front) ++ Same ∷ left)) whole (subst (Stand v more (front ++ is.rest)) says_is stand));
    }

word_gone_part : (v : Version) (words : List ℕ) (places : List Place) (parts : List PartAt) (before : ℕ) (rest : List ℕ) (place : Place) (left : List Place) (word : NextWord) (one : Part)
    → part_of v place ≡ Some one → AreGoneOver v words places parts before rest (place ∷ left) → (is : IsNextWord rest word)
    → AreGoneOver v words places (parts ++ record { before = before + word.gap; len = word.len; part = one } ∷ []) 0 is.rest left
word_gone_part v words places parts before rest place left word one said_there gone is =
    let front = gone.front ++ is.blanks in
    let part : PartAt = record { before = before + word.gap; len = word.len; part = one } in
    let long : length front ≡ length gone.front + length is.blanks = length-append gone.front is.blanks in
    let some = some_blanks is.blanks is.here is.rest (subst (λ text. begins_field text ≡ false) is.parted gone.apart) is.is_word (subst (λ n. 0 < n) (sym is.len) is.some) in
    let same : words_in gone.front ≡ words_in front = texts_fields_from 0 gone.front ∙ sym (runs_then_blanks gone.front is.blanks is.are_blank) ∙ sym (texts_fields_from 0 front) in
    let begins : Begins v part (gone.front ++ rest) (map (λ _. Same) (words_in gone.front) ++ place ∷ left) is.rest left = record {
      front = front;
      word = is.here;
      place = place;
      parted = ap (λ them. gone.front ++ them) is.parted ∙ sym (append_assoc gone.front is.blanks (is.here ++ is.rest));
      before = long ∙ ap (λ n. n + length is.blanks) gone.long ∙ ap (λ n. before + n) is.gap;
      len = is.len;
      blank = ends_blank gone.front is.blanks is.are_blank some;
      is_word = word_is rest word is;
      apart = is.apart;
      particular = said_there;
      says = ap (λ them. map (λ _. Same) them ++ place ∷ left) same;
    } in
    record {
      front = [];
      long = refl;
      within = omega (arith, gone.within, whole_length rest word is);
      apart = is.apart;
      then = λ more stand. subst (λ all. Stand v all words places) (sym (append_assoc parts (part ∷ []) more)) (gone.then (part ∷ more) (is.rest, left, begins, stand));
    }

word_gone_at : (v : Version) (words : List ℕ) (places : List Place) (parts new : List PartAt) (before next : ℕ) (rest : List ℕ) (place : Place) (left : List Place) (word : NextWord)
    → AreGoneOver v words places parts before rest (place ∷ left) → (is : IsNextWord rest word) → IsNoted (part_of v place) before word parts new next
    → AreGoneOver v words places new next is.rest left
word_gone_at v words places parts new before next rest Same left word gone is noted = rw (noted.0, noted.1) (word_gone_same v words places parts before rest left word gone is)
word_gone_at v words places parts new before next rest Rank left word gone is noted =
    rw (noted.0, noted.1) (word_gone_part v words places parts before rest Rank left word (part.Number (last_rank v)) refl gone is)
word_gone_at v words places parts new before next rest Address left word gone is noted =
    rw (noted.0, noted.1) (word_gone_part v words places parts before rest Address left word (part.Number address_limit) refl gone is)
word_gone_at v words places parts new before next rest Tag left word gone is noted =
    rw (noted.0, noted.1) (word_gone_part v words places parts before rest Tag left word (part.Number 2147483647) refl gone is)
word_gone_at v words places parts new before next rest Name left word gone is noted = rw (noted.0, noted.1) (word_gone_part v words places parts before rest Name left word part.Name refl gone is)
word_gone_at v words places parts new before next rest Request left word gone is noted =
    rw (noted.0, noted.1) (word_gone_part v words places parts before rest Request left word part.Request refl gone is)

-- one word more was gone over
pub word_gone : (v : Version) (words : List ℕ) (places : List Place) (parts new : List PartAt) (before next : ℕ) (rest : List ℕ) (place : Place) (left : List Place) (word : NextWord)
    → AreGoneOver v words places parts before rest (place ∷ left) → IsNextWord rest word → IsNoted (part_of v place) before word parts new next
    → AreGoneOver v words places new next (drop (word.gap + word.len) rest) left
word_gone v words places parts new before next rest place left word gone is noted =
    subst (λ text. AreGoneOver v words places new next text left) (sym (text_behind rest word is)) (word_gone_at v words places parts new before next rest place left word gone is noted)

-- all words that say something were gone over
pub all_gone : (v : Version) (words : List ℕ) (places : List Place) (parts : List PartAt) (before : ℕ) (rest : List ℕ) → AreGoneOver v words places parts before rest [] → Stand v parts words places
all_gone v words places parts before rest gone =
    let front = gone.front in
    let all : words_in (front ++ rest) ≡ words_in front ++ words_in rest =
    texts_fields_from 0 (front ++ rest) ∙ runs_before front rest gone.apart ∙ ap (λ them. them ++ runs rest) (sym (texts_fields_from 0 front))
    ∙ ap (λ them. words_in front ++ them) (sym (texts_fields_from 0 rest)) in
    subst (λ them. Stand v them words places) (append-nil parts) (gone.then [] (words_in front, words_in rest, all, append-nil (map (λ _. Same) (words_in front))))
