-- Words behind a line.
use Rattle.std.proofs.Common.{◌≡◌, ℕ, true, false, List, [], ◌∷◌, ◌++◌, refl, sym, ap, ◌∙◌, ⊎_elim, append_assoc}
use Rattle.std.specs.Prelude.{filter, flat_map, map}
use Rattle.std.specs.Fmt.{signed_decimal}
use Rattle.std.specs.List.{join_with_byte}
use Rattle.std.proofs.lemmas.Bool.{cases_Bool}
use Rattle.std.proofs.lemmas.List.{append-nil}
use Rattle.rma_call.specs.declared.assertion.Assertion.{Assertion}
use Rattle.rma_call.specs.declared.assertion.Assertions.{Assertions}
use Rattle.rma_call.specs.Assertion.{assertion_word, asserts}
use Rattle.rma_form.specs.Groups.{Group, block, byte_block, displacement, member, dimension, Item, item_words}
use Rattle.rma_form.specs.inside.Suffix.{asserted_suffix, behind_space}

-- words with a space before each
abbrev pub spaced : List (List ℕ) → List ℕ
spaced [] = []
spaced (word ∷ words) = 32 ∷ (word ++ spaced words)

join_first : (first : List ℕ) (more : List (List ℕ)) → join_with_byte 32 (first ∷ more) ≡ first ++ spaced more
join_first first [] = sym (append-nil first)
join_first first (next ∷ more) = ap (λ them. first ++ 32 ∷ them) (join_first next more)

-- joined words, and more behind them
pub join_spaced : (first : List ℕ) (words more : List (List ℕ)) → join_with_byte 32 (first ∷ (words ++ more)) ≡ join_with_byte 32 (first ∷ words) ++ spaced more
join_spaced first [] more = join_first first more
join_spaced first (next ∷ words) more =
    ap (λ them. first ++ 32 ∷ them) (join_spaced next words more) ∙ sym (append_assoc first (32 ∷ join_with_byte 32 (next ∷ words)) (spaced more))

spaced_append : (words more : List (List ℕ)) → spaced (words ++ more) ≡ spaced words ++ spaced more
spaced_append [] more = refl
spaced_append (word ∷ words) more =
    ap (λ them. 32 ∷ (word ++ them)) (spaced_append words more) ∙ ap (λ them. 32 ∷ them) (sym (append_assoc word (spaced words) (spaced more)))

spaced_item : (group : Group) (it : Item group) → spaced (item_words group it) ≡ behind_space (item_words group it)
spaced_item block it = ap (λ them. 32 ∷ them) (sym (join_first (signed_decimal it.length) (signed_decimal it.displacement ∷ [])))
spaced_item byte_block it = ap (λ them. 32 ∷ them) (sym (join_first (signed_decimal it.length) (signed_decimal it.displacement ∷ [])))
spaced_item displacement it = ap (λ them. 32 ∷ them) (sym (join_first (signed_decimal it) []))
spaced_item member it = ap (λ them. 32 ∷ them) (sym (join_first (signed_decimal it.length) (signed_decimal it.displacement ∷ it.old ∷ [])))
spaced_item dimension it = ap (λ them. 32 ∷ them) (sym (join_first (signed_decimal it.size) (signed_decimal it.part ∷ signed_decimal it.start ∷ [])))

-- what each group puts behind a line
pub spaced_items : (group : Group) (items : List (Item group)) → spaced (flat_map (item_words group) items) ≡ flat_map (λ item. behind_space (item_words group item)) items
spaced_items group [] = refl
spaced_items group (it ∷ items) =
    spaced_append (item_words group it) (flat_map (item_words group) items)
    ∙ ap (λ them. them ++ spaced (flat_map (item_words group) items)) (spaced_item group it)
    ∙ ap (λ them. behind_space (item_words group it) ++ them) (spaced_items group items)

-- what each assertion puts behind a line
abbrev pub suffixes : Assertions → List Assertion → List ℕ
suffixes them [] = []
suffixes them (it ∷ rest) = asserted_suffix them it ++ suffixes them rest

pub spaced_assertions : (them : Assertions) (list : List Assertion) → spaced (map assertion_word (filter (asserts them) list)) ≡ suffixes them list
spaced_assertions them [] = refl
spaced_assertions them (it ∷ rest) =
    ⊎_elim
    (λ (has : asserts them it ≡ true). rw (has, spaced_assertions them rest) refl)
    (λ (lacks : asserts them it ≡ false). rw (lacks, spaced_assertions them rest) refl)
    (cases_Bool (asserts them it))

pub five_suffixes : (line a b c d e : List ℕ) → ((((line ++ a) ++ b) ++ c) ++ d) ++ e ≡ line ++ (a ++ (b ++ (c ++ (d ++ (e ++ [])))))
five_suffixes line a b c d e = simp (append_assoc, append-nil)
