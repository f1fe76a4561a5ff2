-- What stands behind the fields of a line, written and read back.
use Rattle.std.proofs.Common.{◌≡◌, ℕ, ◌^◌, ◌<◌, ◌≤◌, Bool, true, false, List, [], ◌∷◌, Option, Some, None, Ok, refl, sym, ap, subst, ◌∙◌, arith, ⊎_elim}
use Rattle.std.specs.Prelude.{filter, map}
use Rattle.std.specs.List.{list_all, list_any}
use Rattle.std.proofs.lemmas.Bool.{cases_Bool, false≢true}
use Rattle.std.proofs.lemmas.Slice.Eq.{bytes_eq-Decides}
use Rattle.rma_base.proofs.NameLemmas.{and_left, and_right}
use Rattle.rma_base.specs.declared.version.Version.{Version}
use Rattle.rma_base.specs.declared.version.Version.TheVariants.{One, Two}
use Rattle.rma_call.specs.declared.assertion.Assertion.{Assertion}
use Rattle.rma_call.specs.declared.assertion.Assertion.TheVariants.{Nocheck, Noprecede, Nosucceed, Nostore, Noput}
use Rattle.rma_call.specs.declared.assertion.Assertions.{Assertions}
use Rattle.rma_call.specs.declared.message.Received.{Received}
use Rattle.rma_call.specs.Assertion.{all_assertions, assertion_word, asserts}
use Rattle.rma_field.specs.Assertions as says
use Rattle.rma_field.specs.Assertions.{assertions_of, assertion_words, is_crowded, is_one_of, repeats_word}
use Rattle.rma_field.specs.Kinds.{is_word, last_rank, rank_of}
use Rattle.rma_field.specs.Numbers.{natural}
use Rattle.rma_field.proofs.AssertionLemmas.{asserts_asserted}
use Rattle.rma_field.proofs.DecimalLemmas.{natural_decimal}
use Rattle.rma_form.specs.Groups as group
use Rattle.rma_form.specs.Tails.{Tail, closed, received, asserted, groups, TailValue, allowed_in, tail_counted, tail_of, tail_words}
use Rattle.rma_form.specs.Forms.{form_at}
use Rattle.rma_form.specs.declared.form.LineForm.{LineForm}
use Rattle.rma_form.specs.declared.form.LineForm.TheVariants as form
use Rattle.rma_form.proofs.KindLemmas.{bind_ok, narrow_rank, natural_range, rank_good, rank_spell}
use Rattle.rma_form.proofs.GroupLemmas.{AreGoodItems, all_words, items_counted, items_spell, plain_items}
use Rattle.rma_form.proofs.PlainLemmas.{is_plain, plain_decimal}

-- a source and a tag of a version, or none
abbrev pub IsGoodReceived : Version → Option Received → Type 0
IsGoodReceived v None = Unit {0}
IsGoodReceived v (Some it) = (it.from.0 ≤ last_rank v) × (it.tag ≤ 2147483647)

-- what words behind the fields stand for in a version; assertions are those of their own words
abbrev pub IsGoodTail : Version → (tail : Tail) → TailValue tail → Type 0
IsGoodTail v closed value = Unit {0}
IsGoodTail v received value = IsGoodReceived v value
IsGoodTail v (asserted one two) value = assertions_of v (allowed_in v (asserted one two)) (assertion_words value) ≡ Ok value
IsGoodTail v (groups kind least most) value = AreGoodItems v kind value × (tail_counted v (groups kind least most) (all_words kind value) ≡ Ok tt)

received_good : (v : Version) (words : List (List ℕ)) (value : Option Received) → tail_of v received words ≡ Ok value → IsGoodReceived v value
received_good v [] value is = let same : None ≡ value = cc is in subst (IsGoodReceived v) same tt
received_good v (from ∷ []) value is = absurd (cc is)
received_good v (from ∷ tag ∷ []) value is =
    let source = bind_ok (rank_of v from) _ value is in
    let number = bind_ok (natural 0 2147483647 tag) _ value source.2 in
    let same : Some (record { from = source.0; tag = number.0 }) ≡ value = cc number.2 in
    subst (IsGoodReceived v) same (rank_good v from source.0 source.1, (natural_range 0 2147483647 number.0 tag number.1).1)
received_good v (from ∷ tag ∷ more ∷ rest) value is = absurd (cc is)

-- a test that all words pass, a word that stands among them passes
stands_passes : (p : List ℕ → Bool) (word : List ℕ) (words : List (List ℕ)) → list_any (is_word word) words ≡ true → list_all p words ≡ true → p word ≡ true
stands_passes p word [] stands all = absurd (false≢true stands)
stands_passes p word (first ∷ words) stands all =
    ⊎_elim
    (λ (here : is_word word first ≡ true). subst (λ it. p it ≡ true) ((bytes_eq-Decides first word).0 here) (and_left (p first) _ all))
    (λ (other : is_word word first ≡ false). stands_passes p word words (rw other at stands) (and_right (p first) _ all))
    (cases_Bool (is_word word first))

-- words of assertions say only such as a line may have
within : (v : Version) (them : List Assertion) (words : List (List ℕ)) (value : Assertions) → assertions_of v them words ≡ Ok value
    → (it : Assertion) → asserts value it ≡ true → is_one_of them (assertion_word it) ≡ true
within v them words value is it has =
    ⊎_elim
    (λ (known : list_all (is_one_of them) words ≡ true). ⊎_elim
    (λ (crowded : is_crowded v words ≡ true). absurd (let bad = rw (known, crowded) at is in cc bad))
    (λ (few : is_crowded v words ≡ false). ⊎_elim
    (λ (again : repeats_word words ≡ true). absurd (let bad = rw (known, few, again) at is in cc bad))
    (λ (once : repeats_word words ≡ false).
    let same : says.asserted words ≡ value = let found = rw (known, few, once) at is in cc found in
    let stands = sym (asserts_asserted words it) ∙ ap (λ those. asserts those it) same ∙ has in
    stands_passes (is_one_of them) (assertion_word it) words stands known)
    (cases_Bool (repeats_word words)))
    (cases_Bool (is_crowded v words)))
    (λ (unknown : list_all (is_one_of them) words ≡ false). absurd (let bad = rw unknown at is in cc bad))
    (cases_Bool (list_all (is_one_of them) words))

-- the words of good assertions say the same, for each list of assertions that a form has
none_one_round : (a b c d e : Bool) → (a ≡ true → false ≡ true) → (b ≡ true → false ≡ true) → (c ≡ true → false ≡ true) → (d ≡ true → false ≡ true) → (e ≡ true → false ≡ true) → assertions_of One [] (assertion_words (record { nocheck = a; noprecede = b; nosucceed = c; nostore = d; noput = e })) ≡ Ok (record { nocheck = a; noprecede = b; nosucceed = c; nostore = d; noput = e })
none_one_round true b c d e h _ _ _ _ = absurd (false≢true (h refl))
none_one_round false true c d e _ h _ _ _ = absurd (false≢true (h refl))
none_one_round false false true d e _ _ h _ _ = absurd (false≢true (h refl))
none_one_round false false false true e _ _ _ h _ = absurd (false≢true (h refl))
none_one_round false false false false true _ _ _ _ h = absurd (false≢true (h refl))
none_one_round false false false false false _ _ _ _ _ = refl

none_one_good : (words : List (List ℕ)) (value : Assertions) → assertions_of One [] words ≡ Ok value → assertions_of One [] (assertion_words value) ≡ Ok value
none_one_good words value is = let said = within One [] words value is in none_one_round value.nocheck value.noprecede value.nosucceed value.nostore value.noput (said Nocheck) (said Noprecede) (said Nosucceed) (said Nostore) (said Noput)

fence_one_round : (a b c d e : Bool) → (a ≡ true → false ≡ true) → (d ≡ true → false ≡ true) → (e ≡ true → false ≡ true) → assertions_of One (Noprecede ∷ Nosucceed ∷ []) (assertion_words (record { nocheck = a; noprecede = b; nosucceed = c; nostore = d; noput = e })) ≡ Ok (record { nocheck = a; noprecede = b; nosucceed = c; nostore = d; noput = e })
fence_one_round true b c d e h _ _ = absurd (false≢true (h refl))
fence_one_round false b c true e _ h _ = absurd (false≢true (h refl))
fence_one_round false b c false true _ _ h = absurd (false≢true (h refl))
fence_one_round false true true false false _ _ _ = refl
fence_one_round false true false false false _ _ _ = refl
fence_one_round false false true false false _ _ _ = refl
fence_one_round false false false false false _ _ _ = refl

fence_one_good : (words : List (List ℕ)) (value : Assertions) → assertions_of One (Noprecede ∷ Nosucceed ∷ []) words ≡ Ok value → assertions_of One (Noprecede ∷ Nosucceed ∷ []) (assertion_words value) ≡ Ok value
fence_one_good words value is = let said = within One (Noprecede ∷ Nosucceed ∷ []) words value is in fence_one_round value.nocheck value.noprecede value.nosucceed value.nostore value.noput (said Nocheck) (said Nostore) (said Noput)

fence_two_round : (a b c d e : Bool) → (a ≡ true → false ≡ true) → assertions_of Two (Noprecede ∷ Nosucceed ∷ Nostore ∷ Noput ∷ []) (assertion_words (record { nocheck = a; noprecede = b; nosucceed = c; nostore = d; noput = e })) ≡ Ok (record { nocheck = a; noprecede = b; nosucceed = c; nostore = d; noput = e })
fence_two_round true b c d e h = absurd (false≢true (h refl))
fence_two_round false true true true true _ = refl
fence_two_round false true true true false _ = refl
fence_two_round false true true false true _ = refl
fence_two_round false true true false false _ = refl
fence_two_round false true false true true _ = refl
fence_two_round false true false true false _ = refl
fence_two_round false true false false true _ = refl
fence_two_round false true false false false _ = refl
fence_two_round false false true true true _ = refl
fence_two_round false false true true false _ = refl
fence_two_round false false true false true _ = refl
fence_two_round false false true false false _ = refl
fence_two_round false false false true true _ = refl
fence_two_round false false false true false _ = refl
fence_two_round false false false false true _ = refl
fence_two_round false false false false false _ = refl

fence_two_good : (words : List (List ℕ)) (value : Assertions) → assertions_of Two (Noprecede ∷ Nosucceed ∷ Nostore ∷ Noput ∷ []) words ≡ Ok value → assertions_of Two (Noprecede ∷ Nosucceed ∷ Nostore ∷ Noput ∷ []) (assertion_words value) ≡ Ok value
fence_two_good words value is = let said = within Two (Noprecede ∷ Nosucceed ∷ Nostore ∷ Noput ∷ []) words value is in fence_two_round value.nocheck value.noprecede value.nosucceed value.nostore value.noput (said Nocheck)

post_two_round : (a b c d e : Bool) → (b ≡ true → false ≡ true) → (c ≡ true → false ≡ true) → assertions_of Two (Nocheck ∷ Nostore ∷ Noput ∷ []) (assertion_words (record { nocheck = a; noprecede = b; nosucceed = c; nostore = d; noput = e })) ≡ Ok (record { nocheck = a; noprecede = b; nosucceed = c; nostore = d; noput = e })
post_two_round a true c d e h _ = absurd (false≢true (h refl))
post_two_round a false true d e _ h = absurd (false≢true (h refl))
post_two_round true false false true true _ _ = refl
post_two_round true false false true false _ _ = refl
post_two_round true false false false true _ _ = refl
post_two_round true false false false false _ _ = refl
post_two_round false false false true true _ _ = refl
post_two_round false false false true false _ _ = refl
post_two_round false false false false true _ _ = refl
post_two_round false false false false false _ _ = refl

post_two_good : (words : List (List ℕ)) (value : Assertions) → assertions_of Two (Nocheck ∷ Nostore ∷ Noput ∷ []) words ≡ Ok value → assertions_of Two (Nocheck ∷ Nostore ∷ Noput ∷ []) (assertion_words value) ≡ Ok value
post_two_good words value is = let said = within Two (Nocheck ∷ Nostore ∷ Noput ∷ []) words value is in post_two_round value.nocheck value.noprecede value.nosucceed value.nostore value.noput (said Noprecede) (said Nosucceed)

lone_two_round : (a b c d e : Bool) → (b ≡ true → false ≡ true) → (c ≡ true → false ≡ true) → (d ≡ true → false ≡ true) → (e ≡ true → false ≡ true) → assertions_of Two (Nocheck ∷ []) (assertion_words (record { nocheck = a; noprecede = b; nosucceed = c; nostore = d; noput = e })) ≡ Ok (record { nocheck = a; noprecede = b; nosucceed = c; nostore = d; noput = e })
lone_two_round a true c d e h _ _ _ = absurd (false≢true (h refl))
lone_two_round a false true d e _ h _ _ = absurd (false≢true (h refl))
lone_two_round a false false true e _ _ h _ = absurd (false≢true (h refl))
lone_two_round a false false false true _ _ _ h = absurd (false≢true (h refl))
lone_two_round true false false false false _ _ _ _ = refl
lone_two_round false false false false false _ _ _ _ = refl

lone_two_good : (words : List (List ℕ)) (value : Assertions) → assertions_of Two (Nocheck ∷ []) words ≡ Ok value → assertions_of Two (Nocheck ∷ []) (assertion_words value) ≡ Ok value
lone_two_good words value is = let said = within Two (Nocheck ∷ []) words value is in lone_two_round value.nocheck value.noprecede value.nosucceed value.nostore value.noput (said Noprecede) (said Nosucceed) (said Nostore) (said Noput)

-- what stands behind the fields of a form is a good value
pub tail_good : (v : Version) (form : LineForm) (words : List (List ℕ)) (value : TailValue (form_at form).tail)
    → tail_counted v (form_at form).tail words ≡ Ok tt → tail_of v (form_at form).tail words ≡ Ok value → IsGoodTail v (form_at form).tail value
tail_good v form.Wait words value counts is = received_good v words value is
tail_good One form.Fence words value counts is = fence_one_good words value is
tail_good Two form.Fence words value counts is = fence_two_good words value is
tail_good One form.Post words value counts is = none_one_good words value is
tail_good Two form.Post words value counts is = post_two_good words value is
tail_good One form.Start words value counts is = none_one_good words value is
tail_good Two form.Start words value counts is = lone_two_good words value is
tail_good One form.Lock words value counts is = none_one_good words value is
tail_good Two form.Lock words value counts is = lone_two_good words value is
tail_good One form.LockAll words value counts is = none_one_good words value is
tail_good Two form.LockAll words value counts is = lone_two_good words value is
tail_good v form.Indexed words value counts is = items_counted v group.block 0 None words value counts is
tail_good v form.Hindexed words value counts is = items_counted v group.byte_block 0 None words value counts is
tail_good v form.IndexedBlock words value counts is = items_counted v group.displacement 0 None words value counts is
tail_good v form.Struct words value counts is = items_counted v group.member 0 None words value counts is
tail_good v form.Subarray words value counts is = items_counted v group.dimension 1 (Some 8) words value counts is
tail_good v _ words value counts is = tt

received_spell : (v : Version) (value : Option Received) → IsGoodReceived v value → tail_of v received (tail_words received value) ≡ Ok value
received_spell v None good = refl
received_spell v (Some it) good =
    let narrow : it.tag < 2 ^ 64 = omega arith in
    rw (rank_spell v it.from good.0, natural_decimal 0 2147483647 it.tag narrow (omega arith) good.1) refl

-- the words of a good value stand for it
pub tail_spell : (v : Version) (tail : Tail) (value : TailValue tail) → IsGoodTail v tail value → tail_of v tail (tail_words tail value) ≡ Ok value
tail_spell v closed value good = refl
tail_spell v received value good = received_spell v value good
tail_spell v (asserted one two) value good = good
tail_spell v (groups kind least most) value good = items_spell v kind value good.0

received_counted : (v : Version) (value : Option Received) → tail_counted v received (tail_words received value) ≡ Ok tt
received_counted v None = refl
received_counted v (Some it) = refl

pub tail_counted_spell : (v : Version) (tail : Tail) (value : TailValue tail) → IsGoodTail v tail value → tail_counted v tail (tail_words tail value) ≡ Ok tt
tail_counted_spell v closed value good = refl
tail_counted_spell v received value good = received_counted v value
tail_counted_spell v (asserted one two) value good = rw good refl
tail_counted_spell v (groups kind least most) value good = good.1

plain_assertion : (it : Assertion) → is_plain (assertion_word it) ≡ true
plain_assertion Nocheck = refl
plain_assertion Noprecede = refl
plain_assertion Nosucceed = refl
plain_assertion Nostore = refl
plain_assertion Noput = refl

plain_chosen : (p : Assertion → Bool) (them : List Assertion) → list_all is_plain (map assertion_word (filter p them)) ≡ true
plain_chosen p [] = refl
plain_chosen p (it ∷ them) =
    ⊎_elim
    (λ (chosen : p it ≡ true). rw (chosen, plain_assertion it) (plain_chosen p them))
    (λ (other : p it ≡ false). rw other (plain_chosen p them))
    (cases_Bool (p it))

plain_received : (v : Version) (value : Option Received) → IsGoodReceived v value → list_all is_plain (tail_words received value) ≡ true
plain_received v None good = refl
plain_received v (Some it) good =
    let narrow : it.tag < 2 ^ 64 = omega arith in
    rw (plain_decimal it.from.0 (narrow_rank v it.from.0 good.0), plain_decimal it.tag narrow) refl

-- the words are plain
pub plain_tail : (v : Version) (tail : Tail) (value : TailValue tail) → IsGoodTail v tail value → list_all is_plain (tail_words tail value) ≡ true
plain_tail v closed value good = refl
plain_tail v received value good = plain_received v value good
plain_tail v (asserted one two) value good = plain_chosen (asserts value) all_assertions
plain_tail v (groups kind least most) value good = plain_items v kind value good.0
