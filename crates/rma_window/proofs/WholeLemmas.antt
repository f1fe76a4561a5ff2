-- The windows of creations that come one after the other.
use Rattle.std.proofs.Common.{◌≡◌, ℕ, zero, suc, ◌+◌, ◌<◌, ◌≤◌, Bool, true, false, cond, ◌&&◌, ◌||◌, List, [], ◌∷◌, ◌++◌, length, take, Option, Some, None, IfSome, nat_eq, slice_get, refl, sym, ap, ◌∙◌, append_assoc, arith, option_map, not, map, filter}
use Rattle.std.specs.Prelude.{find, fold, position, is_none, nat_le, nat_lt}
use Rattle.std.specs.List.{position_or_len}
use Rattle.std.proofs.lemmas.Option.{slice_get_past}
use Rattle.std.specs.List.{cons_option, list_any}
use Rattle.std.specs.Option.{option_and_then, option_map_or, option_or}
use Rattle.std.specs.Map.{lookup}
use Rattle.std.specs.Cmp.Lexicographic.{pointwise, nat_list_eq_equiv, same_text}
use Rattle.std.proofs.lemmas.Bool.Decides.{nat_tests}
use Rattle.std.proofs.lemmas.Bool.{false≢true}
use Rattle.rma_base.proofs.NameLemmas.{and_left, and_right}
use Rattle.std.proofs.lemmas.List.{append-nil}
use Rattle.std.proofs.lemmas.List.Folds.{find_at}
use Rattle.std.proofs.lemmas.List.Sums.{fold-append}
use Rattle.rma_base.specs.Limits.{address_limit, fed_limit}
use Rattle.rma_base.specs.declared.rank.Rank.{Rank}
use Rattle.rma_base.specs.declared.window.WinModel.{WinModel}
use Rattle.rma_base.specs.declared.window.AccOps.{AccOps}
use Rattle.rma_call.specs.Call.{Call}
use Rattle.rma_call.specs.Group.{group_of}
use Rattle.rma_call.specs.declared.group.Group.TheVariants as group
use Rattle.rma_call.specs.declared.what.What.{What}
use Rattle.rma_call.specs.declared.what.What.TheVariants.{Sync, Rma, Local}
use Rattle.rma_call.specs.declared.what.SyncCall.TheVariants as sync
use Rattle.rma_window.specs.declared.part.Part.{Part}
use Rattle.rma_window.specs.declared.window_id.WindowId.{WindowId}
use Rattle.rma_window.specs.Creation.{Creation, attributes_by, creation_of, creations_from, is_by, names_by, part_by}
use Rattle.rma_window.specs.Windows.{MayCome, Window, may_come, attributes_of, name_of, is_named, is_rank, number_of, window_of, part_in, part_named, windows_by, with_call, with_creation}

-- ---- what one creation adds

no_more : {X : Type 0} (o : Option X) → option_or o None ≡ o
no_more None = refl
no_more (Some x) = refl

lookup_push : (rank own : Rank) (part : Part) (parts : List (Rank × Part)) →
    lookup (is_rank rank) (parts ++ (own, part) ∷ []) ≡ option_or (lookup (is_rank rank) parts) (cond (is_rank rank own) (Some part) None)
lookup_push rank own part [] = refl
lookup_push rank own part (p ∷ ps) = by (is_rank rank p.0) refl (lookup_push rank own part ps)
  where
    by : (b : Bool) → is_rank rank p.0 ≡ b → lookup (is_rank rank) (ps ++ (own, part) ∷ []) ≡ option_or (lookup (is_rank rank) ps) (cond (is_rank rank own) (Some part) None)
        → lookup (is_rank rank) ((p ∷ ps) ++ (own, part) ∷ []) ≡ option_or (lookup (is_rank rank) (p ∷ ps)) (cond (is_rank rank own) (Some part) None)
    by true h rest = rw h refl
    by false h rest = rw h rest

-- the part that a creation states, where it is that of the window by the rank
abbrev part_if : List ℕ → Rank → Creation → Option Part
part_if name rank c = cond (is_by name rank c) (Some c.part) None

other_names : (a b c : List ℕ) → pointwise nat_eq a b ≡ true → pointwise nat_eq c b ≡ false → pointwise nat_eq a c ≡ false
other_names a b c same other = nat_list_eq_equiv.congr a b c same ∙ nat_list_eq_equiv.symm b c ∙ other

same_names : (a b c : List ℕ) → pointwise nat_eq c b ≡ true → pointwise nat_eq a c ≡ pointwise nat_eq a b
same_names a b c same = ap (pointwise nat_eq a) (same_text c b (sym same))

module _ (name : List ℕ) (rank : Rank) (c : Creation) where
  part_with : (windows : List Window) → part_named (with_creation windows c) name rank ≡ option_or (part_named windows name rank) (part_if name rank c)
  part_with [] = by (pointwise nat_eq name c.name) refl
    where
      by : (b : Bool) → pointwise nat_eq name c.name ≡ b → part_named (with_creation [] c) name rank ≡ option_or (part_named [] name rank) (part_if name rank c)
      by true h = rw h refl
      by false h = rw h refl
  part_with (w ∷ ws) = by (is_named c.name w) (is_named name w) refl refl (part_with ws)
    where
      by : (a b : Bool) → is_named c.name w ≡ a → is_named name w ≡ b → part_named (with_creation ws c) name rank ≡ option_or (part_named ws name rank) (part_if name rank c)
          → part_named (with_creation (w ∷ ws) c) name rank ≡ option_or (part_named (w ∷ ws) name rank) (part_if name rank c)
      by true true h g rest = rw (h, g, same_names name w.name c.name h, g) (lookup_push rank c.rank c.part w.parts)
      by true false h g rest = rw (h, g, same_names name w.name c.name h, g) (sym (no_more (part_named ws name rank)))
      by false true h g rest = rw (h, g, other_names name w.name c.name g h) (sym (no_more (lookup (is_rank rank) w.parts)))
      by false false h g rest = rw (h, g) rest

length_with : (windows : List Window) (c : Creation) → length (with_creation windows c) ≤ length windows + 1
length_with [] c = omega arith
length_with (w ∷ ws) c = by (is_named c.name w) refl (length_with ws c)
  where
    by : (b : Bool) → is_named c.name w ≡ b → length (with_creation ws c) ≤ length ws + 1 → length (with_creation (w ∷ ws) c) ≤ length (w ∷ ws) + 1
    by true h rest = rw h (omega arith)
    by false h rest = rw h (omega arith)

-- what the creation creates the window of the name with
abbrev attributes_if : List ℕ → Creation → Option (List ℕ × WinModel × AccOps × Bool)
attributes_if name c = cond (pointwise nat_eq name c.name) (Some (c.name, c.model, c.ops, c.dynamic)) None

module _ (name : List ℕ) (c : Creation) where
  attributes_with : (windows : List Window) → option_map attributes_of (find (is_named name) (with_creation windows c)) ≡ option_or (option_map attributes_of (find (is_named name) windows)) (attributes_if name c)
  attributes_with [] = by (pointwise nat_eq name c.name) refl
    where
      by : (b : Bool) → pointwise nat_eq name c.name ≡ b → option_map attributes_of (find (is_named name) (with_creation [] c)) ≡ option_or None (attributes_if name c)
      by true h = rw h refl
      by false h = rw h refl
  attributes_with (w ∷ ws) = by (is_named c.name w) (is_named name w) refl refl (attributes_with ws)
    where
      by : (a b : Bool) → is_named c.name w ≡ a → is_named name w ≡ b
          → option_map attributes_of (find (is_named name) (with_creation ws c)) ≡ option_or (option_map attributes_of (find (is_named name) ws)) (attributes_if name c)
          → option_map attributes_of (find (is_named name) (with_creation (w ∷ ws) c)) ≡ option_or (option_map attributes_of (find (is_named name) (w ∷ ws))) (attributes_if name c)
      by true true h g rest = rw (h, g) refl
      by true false h g rest = rw (h, g, same_names name w.name c.name h, g) (sym (no_more (option_map attributes_of (find (is_named name) ws))))
      by false true h g rest = rw (h, g) refl
      by false false h g rest = rw (h, g) rest

-- ---- what all of them add

or_assoc : {X : Type 0} (a b c : Option X) → option_or (option_or a b) c ≡ option_or a (option_or b c)
or_assoc None b c = refl
or_assoc (Some x) b c = refl

part_by_cons : (name : List ℕ) (rank : Rank) (c : Creation) (cs : List Creation) → option_or (part_if name rank c) (part_by cs name rank) ≡ part_by (c ∷ cs) name rank
part_by_cons name rank c cs = by (is_by name rank c) refl
  where
    by : (b : Bool) → is_by name rank c ≡ b → option_or (part_if name rank c) (part_by cs name rank) ≡ part_by (c ∷ cs) name rank
    by true h = rw h refl
    by false h = rw h refl

part_of_all : (name : List ℕ) (rank : Rank) (cs : List Creation) (windows : List Window) →
    part_named (fold with_creation windows cs) name rank ≡ option_or (part_named windows name rank) (part_by cs name rank)
part_of_all name rank [] windows = sym (no_more (part_named windows name rank))
part_of_all name rank (c ∷ cs) windows =
    part_of_all name rank cs (with_creation windows c)
    ∙ ap (λ own. option_or own (part_by cs name rank)) (part_with name rank c windows)
    ∙ or_assoc (part_named windows name rank) (part_if name rank c) (part_by cs name rank)
    ∙ ap (option_or (part_named windows name rank)) (part_by_cons name rank c cs)

-- the part of a rank in the window of a name is that of its first creation by the rank
pub parts_are : (name : List ℕ) (rank : Rank) (cs : List Creation) → part_named (windows_by cs) name rank ≡ part_by cs name rank
parts_are name rank cs = part_of_all name rank cs []

attributes_by_cons : (name : List ℕ) (c : Creation) (cs : List Creation) → option_or (attributes_if name c) (attributes_by cs name) ≡ attributes_by (c ∷ cs) name
attributes_by_cons name c cs = by (pointwise nat_eq name c.name) refl
  where
    by : (b : Bool) → pointwise nat_eq name c.name ≡ b → option_or (attributes_if name c) (attributes_by cs name) ≡ attributes_by (c ∷ cs) name
    by true h = rw h refl
    by false h = rw h refl

attributes_of_all : (name : List ℕ) (cs : List Creation) (windows : List Window) →
    option_map attributes_of (find (is_named name) (fold with_creation windows cs)) ≡ option_or (option_map attributes_of (find (is_named name) windows)) (attributes_by cs name)
attributes_of_all name [] windows = sym (no_more (option_map attributes_of (find (is_named name) windows)))
attributes_of_all name (c ∷ cs) windows =
    let own = option_map attributes_of (find (is_named name) windows) in
    attributes_of_all name cs (with_creation windows c)
    ∙ ap (λ found. option_or found (attributes_by cs name)) (attributes_with name c windows)
    ∙ or_assoc own (attributes_if name c) (attributes_by cs name)
    ∙ ap (option_or own) (attributes_by_cons name c cs)

-- the window of a name was created with what its first creation says
pub attributes_are : (name : List ℕ) (cs : List Creation) → option_map attributes_of (find (is_named name) (windows_by cs)) ≡ attributes_by cs name
attributes_are name cs = attributes_of_all name cs []

length_of_all : (cs : List Creation) (windows : List Window) → length (fold with_creation windows cs) ≤ length windows + length cs
length_of_all [] windows = omega arith
length_of_all (c ∷ cs) windows = omega (arith, length_of_all cs (with_creation windows c), length_with windows c)

-- ---- the names

-- a name of no window
abbrev is_new_to : List Window → List ℕ → Bool
is_new_to windows name = not (list_any (is_named name) windows)

any_with : (name : List ℕ) (c : Creation) (windows : List Window) → list_any (is_named name) (with_creation windows c) ≡ (list_any (is_named name) windows || pointwise nat_eq name c.name)
any_with name c [] = or_left (pointwise nat_eq name c.name)
  where
    or_left : (a : Bool) → (a || false) ≡ a
    or_left true = refl
    or_left false = refl
any_with name c (w ∷ ws) = by (is_named c.name w) (is_named name w) refl refl (any_with name c ws)
  where
    or_right : (a : Bool) → a ≡ (a || false)
    or_right true = refl
    or_right false = refl

    by : (a b : Bool) → is_named c.name w ≡ a → is_named name w ≡ b → list_any (is_named name) (with_creation ws c) ≡ (list_any (is_named name) ws || pointwise nat_eq name c.name)
        → list_any (is_named name) (with_creation (w ∷ ws) c) ≡ (list_any (is_named name) (w ∷ ws) || pointwise nat_eq name c.name)
    by true true h g rest = rw (h, g) refl
    by true false h g rest = rw (h, g, same_names name w.name c.name h, g) (or_right (list_any (is_named name) ws))
    by false true h g rest = rw (h, g) refl
    by false false h g rest = rw (h, g) rest

names_with : (c : Creation) (windows : List Window) → map name_of (with_creation windows c) ≡ map name_of windows ++ cond (is_new_to windows c.name) (c.name ∷ []) []
names_with c [] = refl
names_with c (w ∷ ws) = by (is_named c.name w) refl (names_with c ws)
  where
    by : (b : Bool) → is_named c.name w ≡ b → map name_of (with_creation ws c) ≡ map name_of ws ++ cond (is_new_to ws c.name) (c.name ∷ []) []
        → map name_of (with_creation (w ∷ ws) c) ≡ map name_of (w ∷ ws) ++ cond (is_new_to (w ∷ ws) c.name) (c.name ∷ []) []
    by true h rest = rw h (sym (append-nil (w.name ∷ map name_of ws)))
    by false h rest = rw h (ap (λ names. w.name ∷ names) rest)

filter_both : {X : Type 0} (p q : X → Bool) (xs : List X) → filter p (filter q xs) ≡ filter (λ x. q x && p x) xs
filter_both p q [] = refl
filter_both p q (x ∷ xs) = by (q x) refl (filter_both p q xs)
  where
    by : (b : Bool) → q x ≡ b → filter p (filter q xs) ≡ filter (λ y. q y && p y) xs → filter p (filter q (x ∷ xs)) ≡ filter (λ y. q y && p y) (x ∷ xs)
    by true h rest = rw h (ap (λ ys. cond (p x) (x ∷ ys) ys) rest)
    by false h rest = rw h rest

filter_same : {X : Type 0} (p q : X → Bool) → ((x : X) → p x ≡ q x) → (xs : List X) → filter p xs ≡ filter q xs
filter_same p q is [] = refl
filter_same p q is (x ∷ xs) = ap (λ b. cond b (x ∷ filter p xs) (filter p xs)) (is x) ∙ ap (λ ys. cond (q x) (x ∷ ys) ys) (filter_same p q is xs)

-- the names that are new after a creation
left_over : (c : Creation) (windows : List Window) (names : List (List ℕ)) →
    filter (is_new_to (with_creation windows c)) names ≡ filter (is_new_to windows) (filter (λ name. not (pointwise nat_eq c.name name)) names)
left_over c windows names =
    filter_same (is_new_to (with_creation windows c)) (λ name. not (pointwise nat_eq c.name name) && is_new_to windows name) each names
    ∙ sym (filter_both (is_new_to windows) (λ name. not (pointwise nat_eq c.name name)) names)
  where
    neither : (a b : Bool) → not (a || b) ≡ (not b && not a)
    neither true true = refl
    neither true false = refl
    neither false true = refl
    neither false false = refl

    each : (name : List ℕ) → is_new_to (with_creation windows c) name ≡ (not (pointwise nat_eq c.name name) && is_new_to windows name)
    each name =
        ap not (any_with name c windows ∙ ap (λ b. list_any (is_named name) windows || b) (nat_list_eq_equiv.symm name c.name))
        ∙ neither (list_any (is_named name) windows) (pointwise nat_eq c.name name)

joined : {X : Type 0} (b : Bool) (x : X) (before after : List X) → (before ++ cond b (x ∷ []) []) ++ after ≡ before ++ cond b (x ∷ after) after
joined true x before after = append_assoc before (x ∷ []) after
joined false x before after = ap (λ xs. xs ++ after) (append-nil before)

names_of_all : (cs : List Creation) (windows : List Window) → map name_of (fold with_creation windows cs) ≡ map name_of windows ++ filter (is_new_to windows) (names_by cs)
names_of_all [] windows = sym (append-nil (map name_of windows))
names_of_all (c ∷ cs) windows =
    let names = names_by cs in
    let later = filter (λ name. not (pointwise nat_eq c.name name)) names in
    names_of_all cs (with_creation windows c)
    ∙ ap (λ before. before ++ filter (is_new_to (with_creation windows c)) names) (names_with c windows)
    ∙ ap (λ after. (map name_of windows ++ cond (is_new_to windows c.name) (c.name ∷ []) []) ++ after) (left_over c windows names)
    ∙ joined (is_new_to windows c.name) c.name (map name_of windows) (filter (is_new_to windows) later)

-- the windows stand in the order of their first creations, each once
pub names_are : (cs : List Creation) → map name_of (windows_by cs) ≡ names_by cs
names_are cs = names_of_all cs [] ∙ all_new (names_by cs)
  where
    all_new : (names : List (List ℕ)) → filter (is_new_to []) names ≡ names
    all_new [] = refl
    all_new (name ∷ names) = ap (λ ns. name ∷ ns) (all_new names)

-- ---- what may come

-- what passes the test may come
pub test_is_right : (windows : List Window) (o : Option Creation) → option_map_or (may_come windows) o true ≡ true → IfSome o (MayCome windows)
test_is_right windows None passes = tt
test_is_right windows (Some c) passes =
    let none = is_none (part_named windows c.name c.rank) in
    let fits = nat_le (c.part.base + c.part.size) address_limit in
    let room = nat_lt (length windows) fed_limit in
    record {
      has_none = none_is (part_named windows c.name c.rank) (and_left none (fits && room) passes);
      in_space = grind (arith, nat_tests, and_left fits room (and_right none (fits && room) passes));
      has_room = grind (arith, nat_tests, and_right fits room (and_right none (fits && room) passes));
    }
  where
    none_is : {X : Type 0} (o : Option X) → is_none o ≡ true → o ≡ None
    none_is None h = refl
    none_is (Some x) h = absurd (false≢true h)

-- ---- the creations among calls

cons_before : (o : Option Creation) (xs ys : List Creation) → cons_option o (xs ++ ys) ≡ cons_option o xs ++ ys
cons_before None xs ys = refl
cons_before (Some c) xs ys = refl

creations_more : (rank : Rank) (number : ℕ) (calls : List Call) (i : ℕ) (call : Call) → slice_get calls i ≡ Some call
    → creations_from rank number (take (i + 1) calls) ≡ creations_from rank number (take i calls) ++ cons_option (creation_of rank (number + i) call.what) []
creations_more rank number [] i call at = absurd (let no : ⊥ = cc in no)
creations_more rank number (first ∷ calls) zero call at =
    let is : first ≡ call = cc in
    let here : number ≡ number + 0 = omega arith in
    ap (λ (own : Call). cons_option (creation_of rank number own.what) []) is ∙ ap (λ n. cons_option (creation_of rank n call.what) []) here
creations_more rank number (first ∷ calls) (suc i) call at =
    let more : suc i + 1 ≡ suc (i + 1) = omega arith in
    let later : number + 1 + i ≡ number + suc i = omega arith in
    let own = creation_of rank number first.what in
    ap (λ n. creations_from rank number (take n (first ∷ calls))) more
    ∙ ap (cons_option own) (creations_more rank (number + 1) calls i call at)
    ∙ cons_before own (creations_from rank (number + 1) (take i calls)) (cons_option (creation_of rank (number + 1 + i) call.what) [])
    ∙ ap (λ n. cons_option own (creations_from rank (number + 1) (take i calls)) ++ cons_option (creation_of rank n call.what) []) later

taken_one : (windows : List Window) (o : Option Creation) → option_map_or (with_creation windows) o windows ≡ fold with_creation windows (cons_option o [])
taken_one windows None = refl
taken_one windows (Some c) = refl

-- what one call more takes
pub call_taken : (windows : List Window) (rank : Rank) (calls : List Call) (i : ℕ) (call : Call) → slice_get calls i ≡ Some call
    → with_call (fold with_creation windows (creations_from rank 0 (take i calls))) rank i call.what ≡ fold with_creation windows (creations_from rank 0 (take (i + 1) calls))
call_taken windows rank calls i call at =
    let here : i ≡ 0 + i = omega arith in
    let before = creations_from rank 0 (take i calls) in
    ap (λ n. with_call (fold with_creation windows before) rank n call.what) here
    ∙ taken_one (fold with_creation windows before) (creation_of rank (0 + i) call.what)
    ∙ sym (fold-append with_creation windows before (cons_option (creation_of rank (0 + i) call.what) []))
    ∙ ap (fold with_creation windows) (sym (creations_more rank 0 calls i call at))

-- ---- what stays

-- a window keeps its number, and what it was first created with
pub window_stays : (windows : List Window) (c : Creation) (i : ℕ) → i < length windows → option_map attributes_of (slice_get (with_creation windows c) i) ≡ option_map attributes_of (slice_get windows i)
window_stays [] c i lt = absurd (omega arith)
window_stays (w ∷ ws) c i lt = by (is_named c.name w) refl i lt (λ k below. window_stays ws c k below)
  where
    by : (b : Bool) → is_named c.name w ≡ b → (i : ℕ) → i < length (w ∷ ws) → ((k : ℕ) → k < length ws → option_map attributes_of (slice_get (with_creation ws c) k) ≡ option_map attributes_of (slice_get ws k))
        → option_map attributes_of (slice_get (with_creation (w ∷ ws) c) i) ≡ option_map attributes_of (slice_get (w ∷ ws) i)
    by true h zero lt rest = rw h refl
    by true h (suc k) lt rest = rw h refl
    by false h zero lt rest = rw h refl
    by false h (suc k) lt rest = rw h (rest k (omega arith))

-- a rank keeps its part
pub part_stays : (windows : List Window) (c : Creation) (i : ℕ) (rank : Rank) (part : Part) → option_and_then (part_in rank) (slice_get windows i) ≡ Some part
    → option_and_then (part_in rank) (slice_get (with_creation windows c) i) ≡ Some part
part_stays [] c i rank part has = absurd (let no : ⊥ = cc in no)
part_stays (w ∷ ws) c i rank part has = by (is_named c.name w) refl i has (λ k own. part_stays ws c k rank part own)
  where
    by : (b : Bool) → is_named c.name w ≡ b → (i : ℕ) → option_and_then (part_in rank) (slice_get (w ∷ ws) i) ≡ Some part
        → ((k : ℕ) → option_and_then (part_in rank) (slice_get ws k) ≡ Some part → option_and_then (part_in rank) (slice_get (with_creation ws c) k) ≡ Some part)
        → option_and_then (part_in rank) (slice_get (with_creation (w ∷ ws) c) i) ≡ Some part
    by true h zero has rest = rw h (lookup_push rank c.rank c.part w.parts ∙ ap (λ found. option_or found (cond (is_rank rank c.rank) (Some c.part) None)) has)
    by true h (suc k) has rest = rw h has
    by false h zero has rest = rw h has
    by false h (suc k) has rest = rw h (rest k has)

-- the window of a name is that of its number
pub found_at_number : (windows : List Window) (name : List ℕ) → option_and_then (window_of windows) (number_of windows name) ≡ find (is_named name) windows
found_at_number windows name = by (position (is_named name) windows) ∙ at_position (is_named name) windows
  where
    by : (o : Option ℕ) → option_and_then (window_of windows) (option_map (λ n. let id : WindowId = record { 0 = n } in id) o) ≡ option_and_then (slice_get windows) o
    by None = refl
    by (Some n) = refl

    at_position : {X : Type 0} (p : X → Bool) (xs : List X) → option_and_then (slice_get xs) (position p xs) ≡ find p xs
    at_position p xs = grind (arith, nat_tests, find_at p xs, slice_get_past xs (position_or_len p xs))

creates_none : (rank : Rank) (number : ℕ) (what : What) → (group_of what ≡ group.Window → ⊥) → creation_of rank number what ≡ None
creates_none rank number (Sync (sync.Frame call)) other = refl
creates_none rank number (Sync (sync.Message call)) other = refl
creates_none rank number (Sync (sync.Window call)) other = absurd (other refl)
creates_none rank number (Sync (sync.Epoch call)) other = refl
creates_none rank number (Sync (sync.Moving call)) other = refl
creates_none rank number (Rma call) other = refl
creates_none rank number (Local call) other = refl

-- calls of other groups create no window
pub creations_none : (rank : Rank) (number : ℕ) (calls : List Call) → ((i : ℕ) (call : Call) → slice_get calls i ≡ Some call → group_of call.what ≡ group.Window → ⊥) → creations_from rank number calls ≡ []
creations_none rank number [] others = refl
creations_none rank number (call ∷ calls) others =
    ap (λ found. cons_option found (creations_from rank (number + 1) calls)) (creates_none rank number call.what (others 0 call refl))
    ∙ creations_none rank (number + 1) calls (λ i c at. others (suc i) c at)
