-- Tables of basic datatypes.
use Rattle.std.proofs.Common.{◌≡◌, ℕ, zero, suc, ◌+◌, ◌<◌, ◌≤◌, pos, Bool, true, false, not, List, [], ◌∷◌, ◌++◌, map, length, take, get_or, nat_eq, Option, Some, None, if◌then◌else◌, refl, sym, ap, ◌∙◌, arith}
use Rattle.rma_type.proofs.Words.{list_all, map-append, length-map, length-take-le, take_more, element_limit, Basic, basic_word, SignedChar, TypeId, Summary, Inside, Origin, element, entry_count, is_all_in_space, summary, Table, id_of, IsKept, table_of, IsWithBasic, words_from, table_of_basics, words_differ, not-true, list_all_at}
use Rattle.std.specs.Cmp.Lexicographic.{pointwise}
use Rattle.indexmap.specs.IndexMap.{insert_entry}
use Rattle.rma_type.specs.declared.origin.Origin.TheVariants as origin
use Rattle.std.proofs.lemmas.Bool.{true_from_ne_false}
use Rattle.rma_base.proofs.NameLemmas.{and_left, and_right}

-- ---- one element

single_in_space : (b : Basic) → is_all_in_space (element b (pos 0) ∷ []) ≡ true
unfolding is_all_in_space
single_in_space SignedChar = refl
single_in_space _ = refl

single_is_few : (b : Basic) → entry_count (element b (pos 0) ∷ []) ≤ element_limit
unfolding entry_count
single_is_few b = omega arith

pub IsKept_single : (b : Basic) (n : ℕ) (o : Summary) → o ≡ summary (element b (pos 0) ∷ []) → IsKept (element b (pos 0) ∷ []) n (origin.Basic b) o
IsKept_single b n o e = record { summary_is = e; in_space = single_in_space b; few = single_is_few b; after = tt }

-- ---- an empty table

abbrev table : List Origin → List Bool → List (List ℕ × TypeId) → Table
table origins committed live = record { origins = origins; committed = committed; live = live }

pub table_of_empty : (t : Inside) → t.types.items ≡ [] → t.live.entries ≡ [] → table_of t ≡ table_of_basics []
unfolding table_of_basics
table_of_empty t e f = rw (e, f)

-- ---- one more basic datatype

insert_past : (t : Bool) (e : List ℕ × TypeId) (es rest grown : List (List ℕ × TypeId)) (id : TypeId) (later : Option TypeId) →
    (if t then Some e.1 else later) ≡ None → (later ≡ None → rest ≡ grown) → (if t then (e.0, id) ∷ es else e ∷ rest) ≡ e ∷ grown
insert_past true e es rest grown id later h k = absurd (cc)
insert_past false e es rest grown id later h k = ap (λ xs. e ∷ xs) (k h)

insert_fresh : (live : List (List ℕ × TypeId)) (name : List ℕ) (id : TypeId) → id_of live name ≡ None → insert_entry (pointwise nat_eq) live name id ≡ live ++ (name, id) ∷ []
insert_fresh [] name id h = refl
insert_fresh (e ∷ es) name id h =
    insert_past (pointwise nat_eq name e.0) e es (insert_entry (pointwise nat_eq) es name id) (es ++ (name, id) ∷ []) id (id_of es name) h
    (λ k. insert_fresh es name id k)

words_from_push : (n : ℕ) (bs : List Basic) (b : Basic) (id : TypeId) → id.0 ≡ n + length bs → words_from n (bs ++ b ∷ []) ≡ words_from n bs ++ (basic_word b, id) ∷ []
words_from_push n [] b id e = ap (λ m. (basic_word b, record { 0 = m }) ∷ []) (omega arith)
words_from_push n (x ∷ xs) b id e = ap (λ es. (basic_word x, record { 0 = n }) ∷ es) (words_from_push (n + 1) xs b id (omega arith))

pub table_of_basics_push : (old new : Table) (bs : List Basic) (b : Basic) → old ≡ table_of_basics bs → id_of (words_from 0 bs) (basic_word b) ≡ None → IsWithBasic old new b → new ≡ table_of_basics (bs ++ b ∷ [])
unfolding table_of_basics
table_of_basics_push old new bs b e fresh h =
    let origins : new.origins ≡ map origin.Basic (bs ++ b ∷ []) = rw (h.origins, e, map-append origin.Basic bs (b ∷ [])) in
    let committed : new.committed ≡ map (λ (x : Basic). true) (bs ++ b ∷ []) = rw (h.commits, e, map-append (λ (x : Basic). true) bs (b ∷ [])) in
    let id : TypeId = record { 0 = length old.origins } in
    let number : id.0 ≡ 0 + length bs = ap (λ (t : Table). length t.origins) e ∙ length-map bs origin.Basic ∙ omega arith in
    let live : new.live ≡ words_from 0 (bs ++ b ∷ []) =
    h.entries ∙ ap (λ (t : Table). insert_entry (pointwise nat_eq) t.live (basic_word b) id) e
    ∙ insert_fresh (words_from 0 bs) (basic_word b) id fresh
    ∙ sym (words_from_push 0 bs b id number) in
    let all : table new.origins new.committed new.live ≡ table_of_basics (bs ++ b ∷ []) = rw (origins, committed, live) in all

-- ---- words that differ

holds_at : (p : Basic → Bool) (bs : List Basic) (i : ℕ) (d : Basic) → list_all p bs ≡ true → i < length bs → p (get_or bs i d) ≡ true
holds_at p bs i d h lt = true_from_ne_false (p (get_or bs i d)) (λ e. let none = list_all_at p bs i d lt e in cc)

pub word_is_fresh : (n : ℕ) (bs : List Basic) (i : ℕ) (d : Basic) → words_differ bs ≡ true → i < length bs → id_of (words_from n (take i bs)) (basic_word (get_or bs i d)) ≡ None
word_is_fresh n [] i d h lt = absurd (omega arith)
word_is_fresh n (b ∷ bs) zero d h lt = refl
word_is_fresh n (b ∷ bs) (suc i) d h lt =
    let differ = λ (later : Basic). not (pointwise nat_eq (basic_word later) (basic_word b)) in
    let at = get_or bs i d in
    let other : pointwise nat_eq (basic_word at) (basic_word b) ≡ false =
    not-true (pointwise nat_eq (basic_word at) (basic_word b)) (holds_at differ bs i d (and_left (list_all differ bs) (words_differ bs) h) (omega arith)) in
    rw other (word_is_fresh (n + 1) bs i d (and_right (list_all differ bs) (words_differ bs) h) (omega arith))

pub length_basics : (bs : List Basic) (i : ℕ) → i ≤ length bs → length (table_of_basics (take i bs)).origins ≡ i
unfolding table_of_basics
length_basics bs i h = length-map (take i bs) origin.Basic ∙ length-take-le i bs h

pub table_of_basics_more : (old new : Table) (bs : List Basic) (i : ℕ) (d : Basic) → words_differ bs ≡ true → i < length bs → old ≡ table_of_basics (take i bs) →
    IsWithBasic old new (get_or bs i d) → new ≡ table_of_basics (take (i + 1) bs)
table_of_basics_more old new bs i d differ lt e h =
    table_of_basics_push old new (take i bs) (get_or bs i d) e (word_is_fresh 0 bs i d differ lt) h
    ∙ sym (ap table_of_basics (take_more bs i d lt))
