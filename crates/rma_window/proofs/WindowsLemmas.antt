-- What is kept of windows, with one more name or one more part.
use Rattle.std.proofs.Common.{◌≡◌, ℕ, zero, suc, ◌+◌, ◌<◌, ◌≤◌, Bool, true, false, cond, not, ◌&&◌, List, [], ◌∷◌, ◌++◌, length, Some, None, IfSome, is_some, eqb, nat_eq, slice_get, position, refl, sym, ap, ◌∙◌, arith, get_or}
use Rattle.std.specs.Prelude.{All, option_map}
use Rattle.std.specs.List.{position_or_len, IsDistinct}
use Rattle.std.specs.Option.{option_and_then}
use Rattle.std.specs.Map.{lookup, keys_of, values_of}
use Rattle.std.specs.Cmp.Lexicographic.{pointwise, nat_list_eq_equiv}
use Rattle.std.proofs.lemmas.Bool.Decides.{nat_tests}
use Rattle.std.proofs.lemmas.Bool.{false≢true, lt-ltb}
use Rattle.std.proofs.lemmas.Map.Keys.{apart_from_distinct, IsDistinct-tail}
use Rattle.std.proofs.lemmas.List.{length-map}
use Rattle.std.proofs.lemmas.List.Elements.{All-push}
use Rattle.indexmap.specs.IndexMap.{insert_entry}
use Rattle.rma_base.specs.Limits.{address_limit, fed_limit}
use Rattle.rma_base.specs.declared.rank.Rank.{Rank}
use Rattle.rma_window.specs.declared.part.Part.{Part}
use Rattle.rma_window.specs.declared.windows.Attributes.{Attributes}
use Rattle.rma_window.specs.declared.windows.PartKey.{PartKey}
use Rattle.rma_window.specs.Windows.{Window, is_named, is_rank, part_in, part_named, part_of, with_creation}
use Rattle.rma_window.specs.inside.Windows.{AreParts, creation_with, index_of, parts_in, window_at, windows_from, with_name}

-- a key of a map of parts
abbrev pub key : ℕ → Rank → PartKey
key number rank = record { window = record { 0 = number }; rank = rank }

abbrev pub is_key : PartKey → PartKey → Bool
is_key own other = eqb own.window.0 other.window.0 && eqb own.rank.0 other.rank.0

-- ---- parts

-- the part of a rank in a window is that of its key
pub lookup_part : (number : ℕ) (rank : Rank) (parts : List (PartKey × Part)) → lookup (is_rank rank) (parts_in number parts) ≡ lookup (is_key (key number rank)) parts
lookup_part number rank [] = refl
lookup_part number rank (e ∷ es) = by (eqb number e.0.window.0) refl (lookup_part number rank es)
  where
    by : (b : Bool) → eqb number e.0.window.0 ≡ b → lookup (is_rank rank) (parts_in number es) ≡ lookup (is_key (key number rank)) es
        → lookup (is_rank rank) (parts_in number (e ∷ es)) ≡ lookup (is_key (key number rank)) (e ∷ es)
    by true h rest = rw h (ap (λ found. cond (eqb rank.0 e.0.rank.0) (Some e.1) found) rest)
    by false h rest = rw h rest

-- a part of another window changes nothing
parts_in_other : (number : ℕ) (parts : List (PartKey × Part)) (e : PartKey × Part) → eqb number e.0.window.0 ≡ false → parts_in number (parts ++ e ∷ []) ≡ parts_in number parts
parts_in_other number [] e other = rw other refl
parts_in_other number (x ∷ xs) e other = ap (λ rest. cond (eqb number x.0.window.0) ((x.0.rank, x.1) ∷ rest) rest) (parts_in_other number xs e other)

-- a part of the window comes last
parts_in_own : (number : ℕ) (parts : List (PartKey × Part)) (e : PartKey × Part) → eqb number e.0.window.0 ≡ true → parts_in number (parts ++ e ∷ []) ≡ parts_in number parts ++ (e.0.rank, e.1) ∷ []
parts_in_own number [] e own = rw own refl
parts_in_own number (x ∷ xs) e own = by (eqb number x.0.window.0) refl (parts_in_own number xs e own)
  where
    by : (b : Bool) → eqb number x.0.window.0 ≡ b → parts_in number (xs ++ e ∷ []) ≡ parts_in number xs ++ (e.0.rank, e.1) ∷ []
        → parts_in number ((x ∷ xs) ++ e ∷ []) ≡ parts_in number (x ∷ xs) ++ (e.0.rank, e.1) ∷ []
    by true h rest = rw h (ap (λ parts. (x.0.rank, x.1) ∷ parts) rest)
    by false h rest = rw h rest

differs : (a b : ℕ) → b < a → eqb a b ≡ false
differs a b lt = grind (arith, nat_tests)

same : (a b : ℕ) → a ≡ b → eqb a b ≡ true
same a b is = grind (arith, nat_tests)

-- a window has no parts where each part is of one before it
parts_in_none : (n number : ℕ) (parts : List (PartKey × Part)) → n ≤ number → All (λ e. e.0.window.0 < n) parts → parts_in number parts ≡ []
parts_in_none n number [] beyond below = refl
parts_in_none n number (e ∷ es) beyond below =
    let first : e.0.window.0 < number = let h = below 0 e (omega arith) in omega arith in
    let rest = parts_in_none n number es beyond (λ k d lt. below (suc k) d (omega arith)) in
    rw (differs number e.0.window.0 first) rest

-- ---- windows

-- a part of a window before these changes none of them
windows_other : (n : ℕ) (names : List (List ℕ × Attributes)) (parts : List (PartKey × Part)) (e : PartKey × Part) → e.0.window.0 < n → windows_from n names (parts ++ e ∷ []) ≡ windows_from n names parts
windows_other n [] parts e before = refl
windows_other n (named ∷ names) parts e before =
    ap (λ ps. (record { name = named.0; model = named.1.model; ops = named.1.ops; dynamic = named.1.dynamic; parts = ps }) ∷ windows_from (n + 1) names (parts ++ e ∷ []))
    (parts_in_other n parts e (differs n e.0.window.0 before))
    ∙ ap (λ windows. window_at n named parts ∷ windows) (windows_other (n + 1) names parts e (omega arith))

pub length_windows : (n : ℕ) (names : List (List ℕ × Attributes)) (parts : List (PartKey × Part)) → length (windows_from n names parts) ≡ length names
length_windows n [] parts = refl
length_windows n (named ∷ names) parts = ap suc (length_windows (n + 1) names parts)

index_of_window : (name : List ℕ) (n : ℕ) (names : List (List ℕ × Attributes)) (parts : List (PartKey × Part)) → position_or_len (is_named name) (windows_from n names parts) ≡ index_of names name
index_of_window name n [] parts = refl
index_of_window name n (named ∷ names) parts = ap (λ k. cond (not (pointwise nat_eq name named.0)) (1 + k) 0) (index_of_window name (n + 1) names parts)

-- the window of a name has its index
pub number_of_is : (name : List ℕ) (names : List (List ℕ × Attributes)) (parts : List (PartKey × Part)) →
    position (pointwise nat_eq name) (keys_of names) ≡ position (is_named name) (windows_from 0 names parts)
number_of_is name names parts =
    rw (index_of_window name 0 names parts, length_windows 0 names parts, length-map names (λ e. e.0)) refl

-- a name that stands once has its own index
own_index : (names : List (List ℕ)) (i : ℕ) (name : List ℕ) → IsDistinct (pointwise nat_eq) names → i < length names → name ≡ get_or names i name → position_or_len (pointwise nat_eq name) names ≡ i
own_index [] i name once lt at = absurd (omega arith)
own_index (first ∷ names) zero name once lt at =
    let own : pointwise nat_eq name first ≡ true = ap (pointwise nat_eq name) (sym at) ∙ nat_list_eq_equiv.refl name in
    rw own refl
own_index (first ∷ names) (suc i) name once lt at =
    let other : pointwise nat_eq name first ≡ false =
    nat_list_eq_equiv.symm name first ∙ ap (pointwise nat_eq first) at ∙ apart_from_distinct (pointwise nat_eq) (first ∷ names) 0 (suc i) name once (omega arith) lt in
    rw other (let later = own_index names i name (IsDistinct-tail (pointwise nat_eq) first names once) (omega arith) at in omega (arith, later))

pub own_position : (names : List (List ℕ)) (i : ℕ) (name : List ℕ) → IsDistinct (pointwise nat_eq) names → i < length names → name ≡ get_or names i name → position (pointwise nat_eq name) names ≡ Some i
own_position names i name once lt at = rw (own_index names i name once lt at, lt-ltb i (length names) lt) refl

-- what is kept of the window of an index
module _ {X : Type 0} (f : Window → X) where
  pub kept_of_attributes : (h : Attributes → X) → ((n : ℕ) (named : List ℕ × Attributes) (parts : List (PartKey × Part)) → f (window_at n named parts) ≡ h named.1)
      → (n i : ℕ) (names : List (List ℕ × Attributes)) (parts : List (PartKey × Part)) → option_map f (slice_get (windows_from n names parts) i) ≡ option_map h (slice_get (values_of names) i)
  kept_of_attributes h is n i [] parts = refl
  kept_of_attributes h is n zero (named ∷ names) parts = ap Some (is n named parts)
  kept_of_attributes h is n (suc i) (named ∷ names) parts = kept_of_attributes h is (n + 1) i names parts

pub kept_name : (n i : ℕ) (names : List (List ℕ × Attributes)) (parts : List (PartKey × Part)) → option_map (λ (w : Window). w.name) (slice_get (windows_from n names parts) i) ≡ slice_get (keys_of names) i
kept_name n i [] parts = refl
kept_name n zero (named ∷ names) parts = refl
kept_name n (suc i) (named ∷ names) parts = kept_name (n + 1) i names parts

module _ (rank : Rank) (parts : List (PartKey × Part)) where
  -- no window of a number beyond has a part
  lookup_none : (n number : ℕ) → n ≤ number → All (λ (e : PartKey × Part). e.0.window.0 < n) parts → lookup (is_key (key number rank)) parts ≡ None
  lookup_none n number beyond below = sym (lookup_part number rank parts) ∙ ap (lookup (is_rank rank)) (parts_in_none n number parts beyond below)

  part_at : (n i : ℕ) (names : List (List ℕ × Attributes)) → All (λ (e : PartKey × Part). e.0.window.0 < n + length names) parts →
      option_and_then (part_in rank) (slice_get (windows_from n names parts) i) ≡ lookup (is_key (key (n + i) rank)) parts
  part_at n i [] below = sym (lookup_none (n + 0) (n + i) (omega arith) below)
  part_at n zero (named ∷ names) below = lookup_part n rank parts ∙ ap (λ number. lookup (is_key (key number rank)) parts) (let e : n ≡ n + 0 = omega arith in e)
  part_at n (suc i) (named ∷ names) below =
      part_at (n + 1) i names (λ k d lt. let h = below k d lt in omega arith)
      ∙ ap (λ number. lookup (is_key (key number rank)) parts) (let e : n + 1 + i ≡ n + suc i = omega arith in e)

  -- the part of a rank in a window is that of its key
  pub part_of_is : (number : ℕ) (names : List (List ℕ × Attributes)) → All (λ (e : PartKey × Part). e.0.window.0 < length names) parts →
      part_of (windows_from 0 names parts) (record { 0 = number }) rank ≡ lookup (is_key (key number rank)) parts
  part_of_is number names below =
      part_at 0 number names (λ k d lt. let h = below k d lt in omega arith)
      ∙ ap (λ number. lookup (is_key (key number rank)) parts) (let e : 0 + number ≡ number = omega arith in e)

  part_of_name : (name : List ℕ) (n : ℕ) (names : List (List ℕ × Attributes)) → All (λ (e : PartKey × Part). e.0.window.0 < n + length names) parts →
      part_named (windows_from n names parts) name rank ≡ lookup (is_key (key (n + index_of names name) rank)) parts
  part_of_name name n [] below = sym (lookup_none (n + 0) (n + 0) (omega arith) below)
  part_of_name name n (named ∷ names) below =
      by (pointwise nat_eq name named.0) refl (part_of_name name (n + 1) names (λ k d lt. let h = below k d lt in omega arith))
    where
      by : (b : Bool) → pointwise nat_eq name named.0 ≡ b → part_named (windows_from (n + 1) names parts) name rank ≡ lookup (is_key (key (n + 1 + index_of names name) rank)) parts
          → part_named (windows_from n (named ∷ names) parts) name rank ≡ lookup (is_key (key (n + index_of (named ∷ names) name) rank)) parts
      by true h rest = rw h (lookup_part n rank parts ∙ ap (λ number. lookup (is_key (key number rank)) parts) (let e : n ≡ n + 0 = omega arith in e))
      by false h rest = rw h (rest ∙ ap (λ number. lookup (is_key (key number rank)) parts) (let e : n + 1 + index_of names name ≡ n + (1 + index_of names name) = omega arith in e))

  pub part_named_is : (name : List ℕ) (names : List (List ℕ × Attributes)) → All (λ (e : PartKey × Part). e.0.window.0 < length names) parts →
      part_named (windows_from 0 names parts) name rank ≡ lookup (is_key (key (index_of names name) rank)) parts
  part_named_is name names below =
      part_of_name name 0 names (λ k d lt. let h = below k d lt in omega arith)
      ∙ ap (λ number. lookup (is_key (key number rank)) parts) (let e : 0 + index_of names name ≡ index_of names name = omega arith in e)

-- what holds of each value holds of one that is found
pub looked_up : {K X : Type 0} (P : X → Type 0) (test : K → Bool) (es : List (K × X)) → All (λ (e : K × X). P e.1) es → IfSome (lookup test es) P
looked_up P test [] all = tt
looked_up {K} {X} P test (e ∷ es) all = by (test e.0) refl (looked_up P test es (λ k d lt. all (suc k) d (omega arith)))
  where
    by : (b : Bool) → test e.0 ≡ b → IfSome (lookup test es) P → IfSome (lookup test (e ∷ es)) P
    by true h rest = rw h (all 0 e (omega arith))
    by false h rest = rw h rest

-- ---- one more name

module _ (name : List ℕ) (attributes : Attributes) where
  -- a name that is there stays
  pub with_name_there : (names : List (List ℕ × Attributes)) → is_some (lookup (pointwise nat_eq name) names) ≡ true → with_name names name attributes ≡ names
  with_name_there [] there = absurd (false≢true there)
  with_name_there (named ∷ names) there = by (pointwise nat_eq name named.0) refl (with_name_there names)
    where
      by : (b : Bool) → pointwise nat_eq name named.0 ≡ b → (is_some (lookup (pointwise nat_eq name) names) ≡ true → with_name names name attributes ≡ names)
          → with_name (named ∷ names) name attributes ≡ named ∷ names
      by true h rest = rw h refl
      by false h rest = rw h (ap (λ ns. named ∷ ns) (rest (rw h at there)))

  -- a name that is new comes last, as a map has it
  pub with_name_new : (names : List (List ℕ × Attributes)) → is_some (lookup (pointwise nat_eq name) names) ≡ false → insert_entry (pointwise nat_eq) names name attributes ≡ with_name names name attributes
  with_name_new [] new = refl
  with_name_new (named ∷ names) new = by (pointwise nat_eq name named.0) refl (with_name_new names)
    where
      by : (b : Bool) → pointwise nat_eq name named.0 ≡ b → (is_some (lookup (pointwise nat_eq name) names) ≡ false → insert_entry (pointwise nat_eq) names name attributes ≡ with_name names name attributes)
          → insert_entry (pointwise nat_eq) (named ∷ names) name attributes ≡ with_name (named ∷ names) name attributes
      by true h rest = absurd (false≢true (sym (rw h at new)))
      by false h rest = rw h (ap (λ ns. named ∷ ns) (rest (rw h at new)))

  -- there is one name more at most, and the name is among them
  pub length_with_name : (names : List (List ℕ × Attributes)) → (length names ≤ length (with_name names name attributes)) × (length (with_name names name attributes) ≤ length names + 1)
      × (index_of names name < length (with_name names name attributes))
  length_with_name [] = (omega arith, omega arith, omega arith)
  length_with_name (named ∷ names) = by (pointwise nat_eq name named.0) refl (length_with_name names)
    where
      by : (b : Bool) → pointwise nat_eq name named.0 ≡ b
          → (length names ≤ length (with_name names name attributes)) × (length (with_name names name attributes) ≤ length names + 1) × (index_of names name < length (with_name names name attributes))
          → (length (named ∷ names) ≤ length (with_name (named ∷ names) name attributes)) × (length (with_name (named ∷ names) name attributes) ≤ length (named ∷ names) + 1)
          × (index_of (named ∷ names) name < length (with_name (named ∷ names) name attributes))
      by true h rest = rw h (omega arith, omega arith, omega arith)
      by false h rest = rw h (omega arith, omega arith, omega arith)

-- ---- one more creation

module _ (name : List ℕ) (attributes : Attributes) (rank : Rank) (part : Part) (parts : List (PartKey × Part)) where
  abbrev with_one : ℕ → List (PartKey × Part)
  with_one number = parts ++ (key number rank, part) ∷ []

  created_at : (n : ℕ) (names : List (List ℕ × Attributes)) → All (λ (e : PartKey × Part). e.0.window.0 < n + length names) parts →
      windows_from n (with_name names name attributes) (with_one (n + index_of names name)) ≡ with_creation (windows_from n names parts) (creation_with name attributes rank part)
  created_at n [] below =
      ap (λ ps. (record { name = name; model = attributes.model; ops = attributes.ops; dynamic = attributes.dynamic; parts = ps }) ∷ [])
      (parts_in_own n parts (key (n + 0) rank, part) (same n (n + 0) (omega arith)) ∙ ap (λ ps. ps ++ (rank, part) ∷ []) (parts_in_none (n + 0) n parts (omega arith) below))
  created_at n (named ∷ names) below =
      by (pointwise nat_eq name named.0) refl (created_at (n + 1) names (λ k d lt. let h = below k d lt in omega arith))
    where
      by : (b : Bool) → pointwise nat_eq name named.0 ≡ b
          → windows_from (n + 1) (with_name names name attributes) (with_one (n + 1 + index_of names name)) ≡ with_creation (windows_from (n + 1) names parts) (creation_with name attributes rank part)
          → windows_from n (with_name (named ∷ names) name attributes) (with_one (n + index_of (named ∷ names) name)) ≡ with_creation (windows_from n (named ∷ names) parts) (creation_with name attributes rank part)
      by true h rest =
          rw h
          (ap (λ ps. (record { name = named.0; model = named.1.model; ops = named.1.ops; dynamic = named.1.dynamic; parts = ps }) ∷ windows_from (n + 1) names (with_one (n + 0)))
          (parts_in_own n parts (key (n + 0) rank, part) (same n (n + 0) (omega arith)))
          ∙ ap (λ windows. (record { name = named.0; model = named.1.model; ops = named.1.ops; dynamic = named.1.dynamic; parts = parts_in n parts ++ (rank, part) ∷ [] }) ∷ windows)
          (windows_other (n + 1) names parts (key (n + 0) rank, part) (omega arith)))
      by false h rest =
          let next : n + (1 + index_of names name) ≡ n + 1 + index_of names name = omega arith in
          rw (h, next)
          (ap (λ ps. (record { name = named.0; model = named.1.model; ops = named.1.ops; dynamic = named.1.dynamic; parts = ps })
          ∷ windows_from (n + 1) (with_name names name attributes) (with_one (n + 1 + index_of names name)))
          (parts_in_other n parts (key (n + 1 + index_of names name) rank, part) (grind (arith, nat_tests)))
          ∙ ap (λ windows. window_at n named parts ∷ windows) rest)

  -- the windows with one more creation
  pub created : (names : List (List ℕ × Attributes)) → All (λ (e : PartKey × Part). e.0.window.0 < length names) parts →
      windows_from 0 (with_name names name attributes) (with_one (index_of names name)) ≡ with_creation (windows_from 0 names parts) (creation_with name attributes rank part)
  created names below =
      ap (λ number. windows_from 0 (with_name names name attributes) (with_one number)) (let e : index_of names name ≡ 0 + index_of names name = omega arith in e)
      ∙ created_at 0 names (λ k d lt. let h = below k d lt in omega arith)

  -- and there are still no more than there may be
  pub parts_with_one : (names : List (List ℕ × Attributes)) → AreParts (length names) parts → length names < fed_limit → part.base + part.size ≤ address_limit
      → AreParts (length (with_name names name attributes)) (with_one (index_of names name))
  parts_with_one names are room fits =
      let long = length_with_name name attributes names in
      record {
        few = omega arith;
        of_windows = All-push (λ (e : PartKey × Part). e.0.window.0 < length (with_name names name attributes)) parts (key (index_of names name) rank, part)
            (λ k d lt. let h = are.of_windows k d lt in omega arith) long.2;
        in_space = All-push (λ (e : PartKey × Part). e.1.base + e.1.size ≤ address_limit) parts (key (index_of names name) rank, part) are.in_space fits;
      }
