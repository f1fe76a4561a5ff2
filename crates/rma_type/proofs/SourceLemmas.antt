-- Signatures of the datatypes of a table.
use Rattle.std.proofs.Common.{◌≡◌, ℕ, zero, suc, ◌+◌, ◌*◌, ◌/◌, ◌<◌, ◌≤◌, List, [], ◌∷◌, ◌++◌, map, length, get_or, take, slice_get, Some, ◌⊎◌, inl, inr, refl, sym, ap, ◌∙◌, arith}
use Rattle.std.specs.Prelude.{Vec}
use Rattle.std.specs.declared.alloc.Global.{Global}
use Rattle.std.proofs.Math.Nat.{mul-div_cancel}
use Rattle.rma_type.proofs.Words.{append-nil, length-map, take_more, length-flat_map-take, element_limit, Basic, Member, Make, Struct, Typemap, signature, entry_count, times, copies_of, IsCounted, copies, TypeId, SigRun, Origin, Kept, Inside, Table, typemaps, typemap_in, old_names, typemap_of_new, spread, IsRunsOf, SignatureSource, Shared, Own, HasSignature, IsSourceOf, signature_in, with_signatures, struct_signature, IsTable, table_of, nil_from_length, slice_get_within}
use Rattle.std.proofs.lemmas.List.Concat.{flat_map-append}
use Rattle.std.proofs.lemmas.Simd.{map-map}
use Rattle.rma_typemap.proofs.BoundLemmas.{entry_count_is}
use Rattle.rma_typemap.proofs.SignatureLemmas.{copies_one, copies_nil, length_copies, length_signature, signature_constructed, signature_members}
use Rattle.rma_type.proofs.CheckLemmas.{HasOneOld}
use Rattle.rma_type.proofs.OldLemmas.{typemap_of_one, entry_count_of_one}
use Rattle.rma_type.proofs.MemberLemmas.{length_beside, beside_at}
use Rattle.rma_type.proofs.TableLemmas.{read_at}

-- ---- the signature of a number

pub signed_within : (signatures : List (Vec SigRun Global)) (basics : List Basic) (i : ℕ) → HasSignature signatures basics i → i < length signatures
signed_within signatures basics i h = slice_get_within signatures i h.runs h.at

pub signed_at : (signatures : List (Vec SigRun Global)) (basics : List Basic) (i : ℕ) (runs : Vec SigRun Global) → HasSignature signatures basics i → runs ≡ get_or signatures i runs → IsRunsOf basics runs.items
signed_at signatures basics i runs h is =
    let there = read_at signatures i runs (signed_within signatures basics i h) is in
    let found = h.at in
    let same : h.runs ≡ runs = cc in
    rw same at h.represents

pub signed_once : (signatures : List (Vec SigRun Global)) (a b : List Basic) (i j : ℕ) → i ≡ j → HasSignature signatures a i → HasSignature signatures b j → a ≡ b
signed_once signatures a b i j e h k =
    let first = h.at in
    let second = k.at in
    let same : h.runs ≡ k.runs = cc in
    sym h.represents.same ∙ ap (λ (v : Vec SigRun Global). spread v.items) same ∙ k.represents.same

module _ (t : Inside) (table : Table) (view : table_of t ≡ table) (holds : IsTable t) (id : TypeId) (kept : Kept) (within : id.0 < length table.origins) (is : kept ≡ get_or t.types.items id.0 kept) where
  there : slice_get t.types.items id.0 ≡ Some kept
  there =
      let origins = ap (λ (u : Table). length u.origins) view in
      let long = length-map t.types.items (λ (k : Kept). k.origin) in
      read_at t.types.items id.0 kept (omega arith) is

  pub signed_in : HasSignature t.signatures.items (signature_in table.origins id) kept.signature
  signed_in = rw (← ap (λ (u : Table). u.origins) view) (holds.signed id.0 kept there)

  pub signature_is_short : length (signature_in table.origins id) ≤ element_limit
  signature_is_short =
      rw (← ap (λ (u : Table). u.origins) view, length_signature) (holds.each id.0 kept there).few

-- ---- copies of one old datatype

signature_empty : (m : Typemap) → entry_count m ≡ 0 → signature m ≡ []
signature_empty m e = nil_from_length (signature m) (length_signature m ∙ e)

copies_of_none : (n : ℕ) (m : Typemap) → entry_count m ≡ 0 → signature m ≡ copies n (signature m)
copies_of_none n m e = signature_empty m e ∙ sym (copies_nil n) ∙ ap (copies n) (sym (signature_empty m e))

pub copies_unchanged : (n entries : ℕ) (m : Typemap) → entries ≡ n * entry_count m → (entry_count m ≡ 0) ⊎ (entries ≡ entry_count m) → signature m ≡ copies n (signature m)
copies_unchanged n entries m e (inl none) = copies_of_none n m none
copies_unchanged zero entries m e (inr same) = copies_of_none 0 m (omega arith)
copies_unchanged (suc zero) entries m e (inr same) = sym (copies_one (signature m))
copies_unchanged (suc (suc n)) entries m e (inr same) = copies_of_none (suc (suc n)) m (omega arith)

pub quotient : (n entries one : ℕ) → (one ≡ 0 → ⊥) → entries ≡ n * one → entries / one ≡ n
quotient n entries one some e = let there : 0 < one = omega arith in ap (λ k. k / one) e ∙ mul-div_cancel n there

module _ (origins : List Origin) (constructor : Make) (old_types : List TypeId) (d : TypeId) (one : HasOneOld constructor) (many : length old_types ≡ length (old_names constructor)) (counted : IsCounted constructor) where
  old : Typemap
  old = typemap_in (typemaps origins) (get_or old_types 0 d)

  pub entries_of_one : entry_count (typemap_of_new origins constructor old_types) ≡ copies_of constructor * entry_count (typemap_in (typemaps origins) (get_or old_types 0 d))
  entries_of_one =
      entry_count_of_one origins constructor old_types d one many counted
      ∙ ap (λ n. copies_of constructor * n) (sym (entry_count_is (typemap_in (typemaps origins) (get_or old_types 0 d))))

  pub signature_of_one : signature (typemap_of_new origins constructor old_types) ≡ copies (copies_of constructor) (signature_in origins (get_or old_types 0 d))
  signature_of_one =
      ap signature (typemap_of_one origins constructor old_types d one many) ∙ signature_constructed constructor (typemap_in (typemaps origins) (get_or old_types 0 d)) counted

-- ---- members

pub signature_of_struct : (origins : List Origin) (constructor : Make) (members slice : List Member) (old_types : List TypeId) → constructor ≡ Struct members → slice ≡ members →
    signature (typemap_of_new origins constructor old_types) ≡ struct_signature (with_signatures origins slice old_types)
signature_of_struct origins constructor members slice old_types is same =
    rw (is, same, signature_members members (map (typemap_in (typemaps origins)) old_types), map-map signature (typemap_in (typemaps origins)) old_types)

module _ (origins : List Origin) (members : List Member) (old_types : List TypeId) (fit : length old_types ≡ length members)
    (i : ℕ) (m : Member) (none : TypeId) (within : i < length members) (is : get_or members i m ≡ m) where
  inside : i < length (with_signatures origins members old_types)
  inside = let long = length_beside (signature_in origins) members old_types fit in omega arith

  abbrev piece : Member × List Basic → List Basic
  piece p = copies (times p.0.length) p.1

  pub signature_more : struct_signature (take (i + 1) (with_signatures origins members old_types)) ≡
      struct_signature (take i (with_signatures origins members old_types)) ++ copies (times m.length) (signature_in origins (get_or old_types i none))
  signature_more =
      let all = with_signatures origins members old_types in
      rw (take_more all i (m, signature_in origins none) inside, flat_map-append piece (take i all) (get_or all i (m, signature_in origins none) ∷ []), beside_at (signature_in origins) members old_types fit i m none within is)
      (ap (λ xs. struct_signature (take i all) ++ xs) (append-nil (piece (m, signature_in origins (get_or old_types i none)))))

  pub signature_more_fits : length (struct_signature (take i (with_signatures origins members old_types))) + times m.length * length (signature_in origins (get_or old_types i none)) ≤
      length (struct_signature (with_signatures origins members old_types))
  signature_more_fits =
      let le = length-flat_map-take piece (with_signatures origins members old_types) i (m, signature_in origins none) inside in
      let at = ap (λ p. length (piece p)) (beside_at (signature_in origins) members old_types fit i m none within is) in
      omega (arith, le, at, length_copies (times m.length) (signature_in origins (get_or old_types i none)))

pub signature_of_one_member : (origins : List Origin) (members : List Member) (old_types : List TypeId) (m : Member) (none : TypeId) → length members ≡ 1 → length old_types ≡ 1 → m ≡ get_or members 0 m → times m.length ≡ 1 →
    signature_in origins (get_or old_types 0 none) ≡ struct_signature (with_signatures origins members old_types)
signature_of_one_member origins [] old_types m none e f is one = absurd (omega arith)
signature_of_one_member origins (x ∷ []) [] m none e f is one = absurd (omega arith)
signature_of_one_member origins (x ∷ []) (id ∷ []) m none e f is one =
    sym (append-nil (copies (times x.length) (signature_in origins id)) ∙ rw (← is, one) (copies_one (signature_in origins id)))
signature_of_one_member origins (x ∷ []) (id ∷ other ∷ old_types) m none e f is one = absurd (omega arith)
signature_of_one_member origins (x ∷ y ∷ members) old_types m none e f is one = absurd (omega arith)

-- ---- the signature of a new datatype

pub shared_signature : (t now : Inside) (table : Table) → table_of t ≡ table → IsTable t → (old : TypeId) (kept : Kept) (basics : List Basic) (source : SignatureSource) (number : ℕ) → now ≡ t →
    IsSourceOf table.origins basics source → source ≡ Shared old → kept ≡ get_or t.types.items old.0 kept → number ≡ kept.signature → HasSignature now.signatures.items basics number
shared_signature t now table view holds old kept basics source number same signs shared is e =
    let represents = rw shared at signs in
    rw (same, e, ← represents.1) (signed_in t table view holds old kept represents.0 is)

slice_get_pushed : {X : Type 0} (xs : List X) (x : X) → slice_get (xs ++ x ∷ []) (length xs) ≡ Some x
slice_get_pushed [] x = refl
slice_get_pushed (y ∷ xs) x = slice_get_pushed xs x

pub own_signature : (origins : List Origin) (before after : List (Vec SigRun Global)) (runs : Vec SigRun Global) (basics : List Basic) (source : SignatureSource) (number : ℕ) →
    IsSourceOf origins basics source → source ≡ Own runs → after ≡ before ++ runs ∷ [] → number ≡ length before → HasSignature after basics number
own_signature origins before after runs basics source number signs own e n =
    record { runs = runs; at = rw (e, n) (slice_get_pushed before runs); represents = rw own at signs }
