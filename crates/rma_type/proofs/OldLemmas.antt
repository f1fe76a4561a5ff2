-- The old datatypes of a constructor.
use Rattle.std.proofs.Common.{◌≡◌, ℕ, suc, ◌<◌, ◌*◌, List, [], ◌∷◌, All, length, get_or, map, Option, Some, None, is_some, true, refl, sym, ap, ◌∙◌, arith}
use Rattle.rma_type.proofs.Words.{cons_option, false≢true, Member, Make, Struct, TypeId, Origin, Derived, Typemap, entry_count, constructed, copies_of, IsCounted, summary, struct_of, with_summaries, all_entries, id_of, old_names, old_types_of, all_live, typemaps, typemap_in, ComesAfter, typemap_of_new, All-cons, All-nil}
use Rattle.rma_base.proofs.NameLemmas.{and_left, and_right}
use Rattle.rma_type.proofs.CheckLemmas.{HasOneOld}
use Rattle.rma_typemap.proofs.SignatureLemmas.{entry_count_constructed}
use Rattle.rma_type.proofs.StructLemmas.{entry_count_struct, summary_struct}

abbrev Live : Type 0
Live = List (List ℕ × TypeId)

one_longer : (found : Option TypeId) (ids : List TypeId) (n : ℕ) → is_some found ≡ true → length ids ≡ n → length (cons_option found ids) ≡ suc n
one_longer None ids n some e = absurd (false≢true some)
one_longer (Some id) ids n some e = ap suc e

length_old_types_of : (live : Live) (names : List (List ℕ)) → all_live live names ≡ true → length (old_types_of live names) ≡ length names
length_old_types_of live [] h = refl
length_old_types_of live (name ∷ names) h =
    one_longer (id_of live name) (old_types_of live names) (length names) (and_left (is_some (id_of live name)) _ h) (length_old_types_of live names (and_right (is_some (id_of live name)) _ h))

one_before : (n : ℕ) (found : Option TypeId) (ids : List TypeId) → ((id : TypeId) → found ≡ Some id → id.0 < n) → All (λ id. id.0 < n) ids → All (λ id. id.0 < n) (cons_option found ids)
one_before n None ids one rest = rest
one_before n (Some id) ids one rest = All-cons (λ (i : TypeId). i.0 < n) id ids (one id refl) rest

old_types_of_before : (n : ℕ) (live : Live) → ((name : List ℕ) (id : TypeId) → id_of live name ≡ Some id → id.0 < n) → (names : List (List ℕ)) → All (λ id. id.0 < n) (old_types_of live names)
old_types_of_before n live stand [] = All-nil (λ (i : TypeId). i.0 < n)
old_types_of_before n live stand (name ∷ names) = one_before n (id_of live name) (old_types_of live names) (λ id at. stand name id at) (old_types_of_before n live stand names)

pub ComesAfter_found : (n : ℕ) (live : Live) (constructor : Make) → ((name : List ℕ) (id : TypeId) → id_of live name ≡ Some id → id.0 < n) → all_live live (old_names constructor) ≡ true →
    ComesAfter n (Derived constructor (old_types_of live (old_names constructor)))
ComesAfter_found n live constructor stand all = (length_old_types_of live (old_names constructor) all, old_types_of_before n live stand (old_names constructor))

-- ---- one old datatype

pub one_name : (constructor : Make) → HasOneOld constructor → length (old_names constructor) ≡ 1
one_name (Struct members) one = absurd one
one_name _ one = refl

pub has_one_old : (constructor : Make) → ((members : List Member) → constructor ≡ Struct members → ⊥) → HasOneOld constructor
has_one_old (Struct members) other = other members refl
has_one_old _ other = tt

only_one : (maps : List Typemap) (old_types : List TypeId) (d : TypeId) → length old_types ≡ 1 → map (typemap_in maps) old_types ≡ typemap_in maps (get_or old_types 0 d) ∷ []
only_one maps [] d e = absurd (omega arith)
only_one maps (id ∷ []) d e = refl
only_one maps (id ∷ other ∷ old_types) d e = absurd (omega arith)

module _ (origins : List Origin) (constructor : Make) (old_types : List TypeId) (d : TypeId) (one : HasOneOld constructor) (many : length old_types ≡ length (old_names constructor)) where
  pub typemap_of_one : typemap_of_new origins constructor old_types ≡ constructed constructor (typemap_in (typemaps origins) (get_or old_types 0 d) ∷ [])
  typemap_of_one = ap (constructed constructor) (only_one (typemaps origins) old_types d (many ∙ one_name constructor one))

  pub entry_count_of_one : IsCounted constructor → entry_count (typemap_of_new origins constructor old_types) ≡ copies_of constructor * (summary (typemap_in (typemaps origins) (get_or old_types 0 d))).entries
  entry_count_of_one counted = ap entry_count typemap_of_one ∙ entry_count_constructed constructor (typemap_in (typemaps origins) (get_or old_types 0 d)) counted

-- ---- the old datatypes of a struct

module _ (origins : List Origin) (constructor : Make) (members slice : List Member) (old_types : List TypeId) (is : constructor ≡ Struct members) (same : slice ≡ members) where
  pub entry_count_of_struct : entry_count (typemap_of_new origins constructor old_types) ≡ all_entries (with_summaries origins slice old_types)
  entry_count_of_struct =
      ap (λ h. entry_count (typemap_of_new origins h old_types)) is ∙ entry_count_struct origins members old_types ∙ ap (λ ms. all_entries (with_summaries origins ms old_types)) (sym same)

  pub summary_of_struct : summary (typemap_of_new origins constructor old_types) ≡ struct_of (with_summaries origins slice old_types)
  summary_of_struct =
      ap (λ h. summary (typemap_of_new origins h old_types)) is ∙ summary_struct origins members old_types ∙ ap (λ ms. struct_of (with_summaries origins ms old_types)) (sym same)
