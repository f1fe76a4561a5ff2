-- What calls share that do the same.
use Rattle.std.proofs.Common.{◌≡◌, ℕ, zero, suc, Bool, true, false, ◌&&◌, ◌∷◌, ◌++◌, List, [], length, Option, Some, None, eqb, eqb-true, position, get_or, slice_get, refl, sym, ap, subst, ◌∙◌, arith}
use Rattle.std.proofs.lemmas.Bool.{false≢true}
use Rattle.std.specs.Prelude.{option_map, unwrap_or}
use Rattle.std.specs.Map.{keys_of}
use Rattle.std.specs.Option.{option_and_then}
use Rattle.std.proofs.lemmas.List.Quantifiers.{position-Some}
use Rattle.std.proofs.lemmas.Option.{get_or_from_slice_get, slice_get-map}
use Rattle.rma_base.specs.declared.rank.Rank.{Rank}
use Rattle.rma_call.specs.Call.{Call, CallTable}
use Rattle.rma_call.specs.declared.what.What.{What}
use Rattle.rma_call.specs.declared.what.What.TheVariants.{Sync, Rma, Local}
use Rattle.rma_window.specs.declared.part.Part.{Part}
use Rattle.rma_window.specs.declared.window_id.WindowId.{WindowId}
use Rattle.rma_window.specs.Windows.{Window, number_of, part_of, part_named}
use Rattle.rma_open.specs.Calls.{number_on, part_on, window_on}
use Rattle.rma_open.proofs.MemberLemmas.{part_at_number}
use Rattle.rma_epoch.specs.declared.parts.Entry.{Entry}
use Rattle.rma_epoch.specs.declared.parts.PartKey.{PartKey}
use Rattle.rma_epoch.specs.declared.parts.Parts.{Parts}
use Rattle.rma_epoch.specs.Table.{AreParts, OnWindow, at_what, on_none, on_window}
use Rattle.rma_epoch.specs.inside.Parts.{AreEntries, AreRemembered, IsEntry, IsInSpace, IsPart, StayIn, number_kept, part_to, shown, shown_in, target_of}
use Rattle.rma_epoch.proofs.PlaceLemmas.{in_push}

-- ---- keys

-- whether a key is another
abbrev is_key : PartKey → PartKey → Bool
is_key own other = eqb own.window.0 other.window.0 && eqb own.rank.0 other.rank.0

same_key : (a b : PartKey) → is_key a b ≡ true → b ≡ a
same_key a b same = by (eqb a.window.0 b.window.0) refl (eqb a.rank.0 b.rank.0) refl same
  where
    by : (p : Bool) → eqb a.window.0 b.window.0 ≡ p → (q : Bool) → eqb a.rank.0 b.rank.0 ≡ q → (p && q) ≡ true → b ≡ a
    by true window true rank same =
        let w : b.window.0 ≡ a.window.0 = sym (eqb-true a.window.0 b.window.0 window) in
        let r : b.rank.0 ≡ a.rank.0 = sym (eqb-true a.rank.0 b.rank.0 rank) in
        λ j. record { window = record { 0 = w j }; rank = record { 0 = r j } }
    by true window false rank same = absurd (false≢true same)
    by false window q rank same = absurd (false≢true same)

-- a key that is found is there
pub key_there : (entries : List (PartKey × Part)) (key : PartKey) (index : ℕ) (e : PartKey × Part) → Some index ≡ position (is_key key) (keys_of entries) → slice_get entries index ≡ Some e → e.0 ≡ key
key_there entries key index e found there =
    let at = position-Some (is_key key) (keys_of entries) index key (sym found) in
    let read : get_or (keys_of entries) index key ≡ e.0 =
    get_or_from_slice_get (keys_of entries) index e.0 key (slice_get-map (λ (f : PartKey × Part). f.0) entries index ∙ ap (option_map (λ (f : PartKey × Part). f.0)) there) in
    same_key key e.0 (ap (is_key key) (sym read) ∙ at.1)

-- the parts with one more
pub remembered_more : (windows : List Window) (entries : List (PartKey × Part)) (key : PartKey) (part : Part) → AreRemembered windows entries → part_of windows key.window key.rank ≡ Some part → IsInSpace part → AreRemembered windows (entries ++ (key, part) ∷ [])
remembered_more windows entries key part are is space = record {
  parts_are = λ i e there. in_push (part_of windows e.0.window e.0.rank ≡ Some e.1) entries (key, part) e i there (are.parts_are i e)
      (λ last same. subst (λ (f : PartKey × Part). part_of windows f.0.window f.0.rank ≡ Some f.1) same is);
  in_space = λ i e there. in_push (IsInSpace e.1) entries (key, part) e i there (are.in_space i e)
      (λ last same. subst (λ (f : PartKey × Part). IsInSpace f.1) same space);
}

-- ---- entries

-- the part of a target is that in the window of its number
pub part_to_is : (windows : List Window) (what : What) → part_to windows (number_on windows what) (target_of what) ≡ part_on windows what
part_to_is windows (Rma call) = by (number_of windows call.window) refl call.target
  where
    by : (o : Option WindowId) → number_of windows call.window ≡ o → (target : Option Rank) → option_and_then (λ id. option_and_then (part_of windows id) target) o ≡ option_and_then (part_named windows call.window) target
    by None none None = refl
    by (Some id) some None = refl
    by o is (Some rank) = ap (option_and_then (λ (id : WindowId). part_of windows id rank)) (sym is) ∙ part_at_number windows call.window rank
part_to_is windows (Sync call) = nothing (number_on windows (Sync call))
  where
    nothing : (o : Option WindowId) → part_to windows o None ≡ None
    nothing None = refl
    nothing (Some id) = refl
part_to_is windows (Local call) = refl

-- a window by its number
pub same_window : (window : Option WindowId) → option_map (λ n. record { 0 = n }) (option_map (λ (id : WindowId). id.0) window) ≡ window
same_window None = refl
same_window (Some id) = refl

-- a part stays where it is
stays : (old new : List (PartKey × Part)) → StayIn old new → (index : Option ℕ) (part : Option Part) → IsPart old index part → IsPart new index part
stays old new stay None part is = is
stays old new stay (Some i) part (e, there, is) = (e, stay i e there, is)

-- the entries with one more
pub entries_more : (windows : List Window) (whats : List What) (old new : Parts) (what : What) (entry : Entry) → StayIn old.parts.entries new.parts.entries → new.entries.items ≡ old.entries.items ++ entry ∷ []
    → slice_get whats (length old.entries.items) ≡ Some what → IsEntry windows new.parts.entries what entry → AreEntries windows whats old → AreEntries windows whats new
entries_more windows whats old new what entry stay items next is are = record {
  each = λ number other found at there.
      in_push (IsEntry windows new.parts.entries other found) old.entries.items entry found number (ap (λ (es : List Entry). slice_get es number) (sym items) ∙ there)
      (λ before. let own = are.each number other found at before in record { window = own.window; part = stays old.parts.entries new.parts.entries stay (number_kept found.part) (part_on windows other) own.part })
      (λ last same. let one : what ≡ other = (let here = ap (slice_get whats) last in cc) in
      subst (λ (e : Entry). IsEntry windows new.parts.entries other e) same (subst (λ (w : What). IsEntry windows new.parts.entries w entry) one is));
}

-- ---- what stands in the table

part_shown : (parts : List (PartKey × Part)) (index : Option ℕ) (part : Option Part) → IsPart parts index part → option_map (λ (e : PartKey × Part). e.1) (option_and_then (slice_get parts) index) ≡ part
part_shown parts None part is = sym is
part_shown parts (Some i) part (e, there, is) = ap (option_map (λ (f : PartKey × Part). f.1)) there ∙ sym is

entry_shown : (windows : List Window) (parts : List (PartKey × Part)) (what : What) (entry : Entry) → IsEntry windows parts what entry → shown parts entry ≡ on_window windows what
entry_shown windows parts what entry is =
    let part = part_shown parts (number_kept entry.part) (part_on windows what) is.part in
    λ j. record { window = is.window j; part = part j }

-- the table tells of each call
pub parts_told : (windows : List Window) (table : CallTable) (kept : Parts) → length kept.entries.items ≡ length table.whats → AreEntries windows table.whats kept → AreParts windows table (shown_in kept)
parts_told windows table kept long are i number call there what =
    ap (λ o. unwrap_or o on_none) (slice_get-map (shown kept.parts.entries) kept.entries.items number) ∙ by (slice_get kept.entries.items number) refl
  where
    within : {X Y : Type 0} (xs : List X) (ys : List Y) (n : ℕ) (x : X) → length ys ≡ length xs → slice_get xs n ≡ Some x → slice_get ys n ≡ None → ⊥
    within [] ys n x same at none = let no : ⊥ = cc in no
    within (x ∷ xs) [] n y same at none = let no : ⊥ = omega arith in no
    within (x ∷ xs) (y ∷ ys) zero z same at none = let no : ⊥ = cc in no
    within (x ∷ xs) (y ∷ ys) (suc n) z same at none = within xs ys n z (omega arith) at none

    by : (o : Option Entry) → slice_get kept.entries.items number ≡ o → unwrap_or (option_map (shown kept.parts.entries) o) on_none ≡ on_window windows call.what
    by (Some entry) is = entry_shown windows kept.parts.entries call.what entry (are.each number call.what entry what is)
    by None is = absurd (within table.whats kept.entries.items number call.what long what is)

-- nothing is told of calls that are on no window
pub none_told : (windows : List Window) (table : CallTable) → ((i : ℕ) (call : Call) → slice_get table.calls i ≡ Some call → window_on call.what ≡ None) → (parts : List OnWindow) → parts ≡ [] → AreParts windows table parts
none_told windows table none parts is i number call there what = ap (λ (p : List OnWindow). at_what p number) is ∙ by call.what (none i call there)
  where
    by : (w : What) → window_on w ≡ None → on_none ≡ on_window windows w
    by (Rma call) on = absurd (let no : ⊥ = cc in no)
    by (Sync call) on = let number : None ≡ number_on windows (Sync call) = sym (ap (option_and_then (number_of windows)) on) in λ j. record { window = number j; part = None }
    by (Local call) on = refl
