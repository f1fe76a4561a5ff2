-- Groups of words, written and read back.
use Rattle.std.proofs.Common.{◌≡◌, ℕ, zero, suc, ◌+◌, ◌*◌, ◌/◌, ◌%◌, ◌<◌, true, false, List, [], ◌∷◌, ◌++◌, length, take, drop, Option, Ok, refl, sym, ap, subst, ◌∙◌, arith, ⊎_elim, length-append, suc-mul, div-add-mod', eqb}
use Rattle.std.specs.Prelude.{flat_map}
use Rattle.std.specs.List.{list_all}
use Rattle.std.proofs.lemmas.Bool.{cases_Bool, eqb-true}
use Rattle.std.proofs.lemmas.List.{append-nil}
use Rattle.std.proofs.lemmas.List.Folds.{list_all-append}
use Rattle.std.proofs.lemmas.Nat.{div-mul-add}
use Rattle.std.proofs.Math.Seq.{take-append_seam, drop-append_seam}
use Rattle.rma_base.specs.declared.version.Version.{Version}
use Rattle.rma_field.specs.Steps.{◌>>=◌}
use Rattle.rma_form.specs.Fields.{Values, values_of}
use Rattle.rma_form.specs.Groups.{Group, block, byte_block, displacement, member, dimension, Item, item_kinds, item_of, item_read, item_size, item_values, item_words, items_read}
use Rattle.rma_form.specs.Tails.{groups_counted}
use Rattle.rma_form.proofs.KindLemmas.{AllGood, bind_ok, is_narrow, length_spells, plain_spells, values_of_good, values_of_spells}
use Rattle.rma_form.proofs.PlainLemmas.{is_plain}

narrow_item : (group : Group) → list_all is_narrow (item_kinds group) ≡ true
narrow_item block = refl
narrow_item byte_block = refl
narrow_item displacement = refl
narrow_item member = refl
narrow_item dimension = refl

some_item : (group : Group) → 0 < item_size group
some_item block = omega arith
some_item byte_block = omega arith
some_item displacement = omega arith
some_item member = omega arith
some_item dimension = omega arith

-- the values that make what is made of values are these
item_back : (group : Group) (values : Values (item_kinds group)) → item_values group (item_of group values) ≡ values
item_back block values = refl
item_back byte_block values = refl
item_back displacement values = refl
item_back member values = refl
item_back dimension values = refl

item_forth : (group : Group) (it : Item group) → item_of group (item_values group it) ≡ it
item_forth block it = refl
item_forth byte_block it = refl
item_forth displacement it = refl
item_forth member it = refl
item_forth dimension it = refl

-- a group of good values
abbrev pub IsGoodItem : Version → (group : Group) → Item group → Type 0
IsGoodItem v group it = AllGood v (item_kinds group) (item_values group it)

abbrev pub AreGoodItems : Version → (group : Group) → List (Item group) → Type 0
AreGoodItems v group [] = Unit {0}
AreGoodItems v group (it ∷ items) = IsGoodItem v group it × AreGoodItems v group items

item_good : (v : Version) (group : Group) (words : List (List ℕ)) (it : Item group) → item_read group v words ≡ Ok it → IsGoodItem v group it
item_good v group words it is =
    let read = bind_ok (values_of v (item_kinds group) words) (λ values. Ok (item_of group values)) it is in
    let same : item_of group read.0 ≡ it = cc read.2 in
    subst (IsGoodItem v group) same (subst (AllGood v (item_kinds group)) (sym (item_back group read.0)) (values_of_good v (item_kinds group) words read.0 read.1))

item_spell : (v : Version) (group : Group) (it : Item group) → IsGoodItem v group it → item_read group v (item_words group it) ≡ Ok it
item_spell v group it good =
    ap (item_read group v) (sym (append-nil (item_words group it)))
    ∙ ap (λ read. read >>= λ values. Ok (item_of group values)) (values_of_spells v (item_kinds group) (narrow_item group) (item_values group it) good [])
    ∙ ap Ok (item_forth group it)

length_item : (group : Group) (it : Item group) → length (item_words group it) ≡ item_size group
length_item group it = length_spells (item_kinds group) (item_values group it)

-- as many groups as were read are good
items_good : (v : Version) (group : Group) (n : ℕ) (words : List (List ℕ)) (items : List (Item group)) → items_read (item_size group) (item_read group v) n words ≡ Ok items
    → AreGoodItems v group items × (length items ≡ n)
items_good v group zero words items is =
    let same : [] ≡ items = cc is in subst (λ (them : List (Item group)). AreGoodItems v group them × (length them ≡ zero)) same (tt, refl)
items_good v group (suc n) words items is =
    let size = item_size group in
    let first = bind_ok (item_read group v (take size words)) (λ item. items_read size (item_read group v) n (drop size words) >>= λ more. Ok (item ∷ more)) items is in
    let rest = bind_ok (items_read size (item_read group v) n (drop size words)) (λ more. Ok (first.0 ∷ more)) items first.2 in
    let same : first.0 ∷ rest.0 ≡ items = cc rest.2 in
    let good = items_good v group n (drop size words) rest.0 rest.1 in
    subst (λ (them : List (Item group)). AreGoodItems v group them × (length them ≡ suc n)) same
    ((item_good v group (take size words) first.0 first.1, good.0), ap suc good.1)

-- the words of groups
abbrev pub all_words : (group : Group) → List (Item group) → List (List ℕ)
all_words group items = flat_map (item_words group) items

length_all : (group : Group) (items : List (Item group)) → length (all_words group items) ≡ length items * item_size group
length_all group [] = omega arith
length_all group (it ∷ items) =
    length-append (item_words group it) (all_words group items)
    ∙ omega (arith, length_item group it, length_all group items, suc-mul (length items) (item_size group))

items_spell_each : (v : Version) (group : Group) (items : List (Item group)) → AreGoodItems v group items
    → items_read (item_size group) (item_read group v) (length items) (all_words group items) ≡ Ok items
items_spell_each v group [] good = refl
items_spell_each v group (it ∷ items) good =
    let size = item_size group in
    let words = item_words group it in
    let behind = all_words group items in
    let front : take size (words ++ behind) ≡ words = ap (λ n. take n (words ++ behind)) (sym (length_item group it)) ∙ take-append_seam words behind in
    let back : drop size (words ++ behind) ≡ behind = ap (λ n. drop n (words ++ behind)) (sym (length_item group it)) ∙ drop-append_seam words behind in
    ap (λ read. read >>= λ item. items_read size (item_read group v) (length items) (drop size (words ++ behind)) >>= λ more. Ok (item ∷ more))
    (ap (item_read group v) front ∙ item_spell v group it good.0)
    ∙ ap (λ rest. items_read size (item_read group v) (length items) rest >>= λ more. Ok (it ∷ more)) back
    ∙ ap (λ read. read >>= λ more. Ok (it ∷ more)) (items_spell_each v group items good.1)

divided : (n k : ℕ) → 0 < k → (n * k) / k ≡ n
divided n k some = let same : n * k ≡ n * k + 0 = omega arith in ap (λ m. m / k) same ∙ div-mul-add n k 0 some

-- the words of good groups stand for them
pub items_spell : (v : Version) (group : Group) (items : List (Item group)) → AreGoodItems v group items
    → items_read (item_size group) (item_read group v) (length (all_words group items) / item_size group) (all_words group items) ≡ Ok items
items_spell v group items good =
    ap (λ n. items_read (item_size group) (item_read group v) n (all_words group items))
    (ap (λ n. n / item_size group) (length_all group items) ∙ divided (length items) (item_size group) (some_item group))
    ∙ items_spell_each v group items good

-- words that were counted are whole groups
counted_whole : (size least : ℕ) (most : Option ℕ) (n : ℕ) → groups_counted size least most n ≡ Ok tt → n % size ≡ 0
counted_whole size least most n is =
    ⊎_elim
    (λ (whole : eqb (n % size) 0 ≡ true). eqb-true (n % size) 0 whole)
    (λ (broken : eqb (n % size) 0 ≡ false). absurd (let bad = rw broken at is in cc bad))
    (cases_Bool (eqb (n % size) 0))

-- groups that were counted and read are good, and as many words were counted as they are written by
pub items_counted : (v : Version) (group : Group) (least : ℕ) (most : Option ℕ) (words : List (List ℕ)) (items : List (Item group))
    → groups_counted (item_size group) least most (length words) ≡ Ok tt
    → items_read (item_size group) (item_read group v) (length words / item_size group) words ≡ Ok items
    → AreGoodItems v group items × (groups_counted (item_size group) least most (length (all_words group items)) ≡ Ok tt)
items_counted v group least most words items counts is =
    let size = item_size group in
    let good = items_good v group (length words / size) words items is in
    let whole : length words / size * size + length words % size ≡ length words = div-add-mod' (length words) size in
    let none = counted_whole size least most (length words) counts in
    let same : length (all_words group items) ≡ length words =
    length_all group items ∙ ap (λ n. n * size) good.1 ∙ omega (arith, whole, none) in
    (good.0, ap (groups_counted size least most) same ∙ counts)

-- they are plain
pub plain_items : (v : Version) (group : Group) (items : List (Item group)) → AreGoodItems v group items → list_all is_plain (all_words group items) ≡ true
plain_items v group [] good = refl
plain_items v group (it ∷ items) good =
    list_all-append is_plain (item_words group it) (all_words group items)
    ∙ rw (plain_spells v (item_kinds group) (narrow_item group) (item_values group it) good.0) (plain_items v group items good.1)
