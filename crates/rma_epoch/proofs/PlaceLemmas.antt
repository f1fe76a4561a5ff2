-- The places of windows.
use Rattle.std.proofs.Common.{◌≡◌, ℕ, zero, suc, ◌<◌, cond, Bool, true, false, ◌∷◌, ◌++◌, List, [], length, Option, Some, None, nat_eq, position, get_or, slice_get, take, length-take, refl, sym, ap, subst, ◌∙◌, arith}
use Rattle.std.specs.Prelude.{is_some, option_map}
use Rattle.std.proofs.lemmas.Bool.{false≢true}
use Rattle.std.specs.Map.{keys_of, lookup, values_of}
use Rattle.std.specs.Option.{option_and_then, option_map_or}
use Rattle.std.specs.Cmp.Lexicographic.{pointwise, same_text}
use Rattle.std.proofs.lemmas.Cmp.{nat_list_eq_equiv}
use Rattle.std.proofs.lemmas.List.{map-append}
use Rattle.std.proofs.lemmas.List.Quantifiers.{position-Some}
use Rattle.std.proofs.lemmas.Map.Entries.{lookup_from_place}
use Rattle.std.proofs.lemmas.Option.{slice_get-get_or, slice_get-map, slice_get_within}
use Rattle.indexmap.specs.IndexMap.{IndexMap, IsUnique, keys, values, get, insert_entry, with_value_at}
use Rattle.indexmap.proofs.CallerLemmas.{insert_entry-new, updates-with_value_at}
use Rattle.rma_base.specs.declared.epoch_reason.EpochReason.{EpochReason}
use Rattle.rma_call.specs.Call.{Call}
use Rattle.rma_call.specs.declared.what.What.{What}
use Rattle.rma_window.specs.Windows.{Window}
use Rattle.rma_open.specs.declared.open_epochs.OpenEpochs.{OpenEpochs}
use Rattle.rma_epoch.specs.declared.open_windows.Place.{Place}
use Rattle.rma_epoch.specs.declared.open_windows.Step.{Step}
use Rattle.rma_epoch.specs.declared.placements.Placement.{Placement}
use Rattle.rma_open.specs.Calls.{window_on}
use Rattle.rma_open.specs.Open.{open_after, open_on}
use Rattle.rma_open.specs.Reason.{reason_in}
use Rattle.rma_open.specs.Reaching.{closed_by, opening_in}
use Rattle.rma_epoch.specs.Table.{taken_with}
use Rattle.rma_open.specs.inside.Held.{open_of}
use Rattle.rma_open.specs.inside.Next.{past_with}
use Rattle.rma_epoch.specs.inside.Windows.{ArePlaces, IsPlaceOf, IsTaken, kept, placed_at, placed_in, StayThere}
use Rattle.rma_epoch.proofs.LiveLemmas.{kept_with, same_after_none}
use Rattle.rma_open.proofs.TestLemmas.{is_nothing}

-- ---- lists that grow

-- an element at the end, and those before it
pub at_push : {X : Type 0} (xs : List X) (x : X) (i : ℕ) → i ≡ length xs → slice_get (xs ++ x ∷ []) i ≡ Some x
at_push [] x zero is = refl
at_push [] x (suc i) is = absurd (omega arith)
at_push (y ∷ ys) x zero is = absurd (omega arith)
at_push (y ∷ ys) x (suc i) is = at_push ys x i (omega arith)

pub before_push : {X : Type 0} (xs : List X) (x y : X) (i : ℕ) → slice_get xs i ≡ Some y → slice_get (xs ++ x ∷ []) i ≡ Some y
before_push [] x y i at = absurd (let no : ⊥ = cc in no)
before_push (z ∷ zs) x y zero at = at
before_push (z ∷ zs) x y (suc i) at = before_push zs x y i at

pub in_push : {X : Type 0} (P : Type 0) (xs : List X) (x y : X) (i : ℕ) → slice_get (xs ++ x ∷ []) i ≡ Some y → (slice_get xs i ≡ Some y → P) → (i ≡ length xs → x ≡ y → P) → P
in_push P [] x y zero at before last = last refl (cc)
in_push P [] x y (suc i) at before last = absurd (let no : ⊥ = cc in no)
in_push P (z ∷ zs) x y zero at before last = before at
in_push P (z ∷ zs) x y (suc i) at before last = in_push P zs x y i at before (λ is same. last (ap suc is) same)

-- ---- places

-- the place of a name that is there
pub found_at : (names : List (List ℕ)) (name : List ℕ) (place : ℕ) → Some place ≡ position (pointwise nat_eq name) names → slice_get names place ≡ Some name
found_at names name place is =
    let at = position-Some (pointwise nat_eq name) names place [] (sym is) in
    slice_get-get_or names place [] at.0 ∙ ap Some (sym (same_text name (get_or names place []) (sym at.1)))

-- a place stays that of what calls do
stays_place : (windows : List Window) (old new : List (List ℕ)) (what : What) (place : Option Place) → StayThere old new → IsPlaceOf windows old what place → IsPlaceOf windows new what place
stays_place windows old new what None stay none = none
stays_place windows old new what (Some place) stay (name, at, is, settled, number) = (name, stay place.index name at, is, settled, number)

-- the places with one more
pub places_more : (windows : List Window) (old new : List (List ℕ)) (whats : List What) (places : List (Option Place)) (what : What) (place : Option Place) → StayThere old new →
    slice_get whats (length places) ≡ Some what → IsPlaceOf windows new what place → ArePlaces windows old whats places → ArePlaces windows new whats (places ++ place ∷ [])
places_more windows old new whats places what place stay there is are number other found at in_places =
    in_push (IsPlaceOf windows new other found) places place found number in_places
    (λ before. stays_place windows old new other found stay (are number other found at before))
    (λ last same. let one : what ≡ other = (let here = ap (slice_get whats) last in cc) in subst (IsPlaceOf windows new other) same (subst (λ w. IsPlaceOf windows new w place) one is))

-- the place of the window of a call, by the number of what it does, where these names are there now
pub place_here : (windows : List Window) (names now : List (List ℕ)) (whats : List What) (places : List (Option Place)) (calls : List Call) (i number : ℕ) (call : Call) → ArePlaces windows names whats places
    → number < length places → slice_get calls i ≡ Some call → slice_get whats number ≡ option_map (λ c. c.what) (slice_get calls i) → now ≡ names → IsPlaceOf windows now call.what (get_or places number None)
place_here windows names now whats places calls i number call are within there what same =
    let place = get_or places number None in
    subst (λ names. IsPlaceOf windows names call.what place) (sym same)
    (are number call.what place (what ∙ ap (option_map (λ (c : Call). c.what)) there) (slice_get-get_or places number None within))

-- as many calls as come before one
pub counted : (calls : List Call) (i : ℕ) (call : Call) → slice_get calls i ≡ Some call → i ≡ length (take i calls)
counted calls i call there = let before = slice_get_within calls i call there in omega (arith, length-take i calls)

-- a place past the end has no name
pub no_value : {V : Type 0} {P : Type 0} (es : List (List ℕ × V)) (i : ℕ) (name : List ℕ) → slice_get (keys_of es) i ≡ Some name → None ≡ slice_get (values_of es) i → P
no_value [] i name key value = absurd (let no : ⊥ = cc in no)
no_value (e ∷ es) zero name key value = absurd (let no : ⊥ = cc in no)
no_value (e ∷ es) (suc i) name key value = no_value es i name key value

entry_at : {V : Type 0} (es : List (List ℕ × V)) (i : ℕ) (k : List ℕ) (v : V) → slice_get (keys_of es) i ≡ Some k → slice_get (values_of es) i ≡ Some v → slice_get es i ≡ Some (k, v)
entry_at [] i k v key value = absurd (let no : ⊥ = cc in no)
entry_at (e ∷ es) zero k v key value = let one : e.0 ≡ k = cc in let two : e.1 ≡ v = cc in λ j. Some (one j, two j)
entry_at (e ∷ es) (suc i) k v key value = entry_at es i k v key value

-- what a look-up by place gives is kept of the window there
pub kept_got : (entries : List (List ℕ × OpenEpochs)) (place : ℕ) (name : List ℕ) (e : List ℕ × OpenEpochs) → slice_get (keys_of entries) place ≡ Some name → Some e ≡ slice_get entries place
    → lookup (pointwise nat_eq e.0) entries ≡ Some e.1 → kept entries name ≡ open_of e.1
kept_got entries place name e key entry found =
    let same : e.0 ≡ name = (let both = ap (option_map (λ (f : List ℕ × OpenEpochs). f.0)) entry ∙ sym (slice_get-map (λ (f : List ℕ × OpenEpochs). f.0) entries place) ∙ key in cc) in
    ap (kept entries) (sym same) ∙ ap (λ o. option_map_or open_of o (open_after [])) found

-- ---- where a call stands

-- where a call stands that is on this window, or on none
abbrev placed_on : List Call → What → Option (List ℕ) → Placement
placed_on calls what on = record { opening = option_and_then (λ w. opening_in (open_on calls w) what) on; closes = option_and_then (λ w. closed_by (open_on calls w) what) on }

-- a call on one window
pub placed_there : (calls : List Call) (call : Call) (name : List ℕ) (entries : List (List ℕ × OpenEpochs)) → window_on call.what ≡ Some name → ((window : List ℕ) → kept entries window ≡ open_on calls window)
    → placed_in (kept entries name) call.what ≡ placed_at calls call
placed_there calls call name entries on are =
    ap (λ own. placed_in own call.what) (are name)
    ∙ ap (placed_on calls call.what) (sym on)

-- a call on no window
pub placed_nowhere : (calls : List Call) (call : Call) → window_on call.what ≡ None → record { opening = None; closes = None } ≡ placed_at calls call
placed_nowhere calls call none = ap (placed_on calls call.what) (sym none)

-- ---- windows that are kept

module _ {S : Type 0} (m : IndexMap (List ℕ) OpenEpochs S) where
  -- a new name goes last
  pub name_added : (name key : List ℕ) (own : OpenEpochs) (new : List (List ℕ × OpenEpochs)) → is_some (get (pointwise nat_eq) m name) ≡ false → key ≡ name → new ≡ insert_entry (pointwise nat_eq) m.entries key own
      → keys_of new ≡ keys m ++ name ∷ []
  name_added name key own new none same is =
      ap keys_of (is ∙ ap (λ k. insert_entry (pointwise nat_eq) m.entries k own) same ∙ insert_entry-new (pointwise nat_eq) m name own (is_nothing (get (pointwise nat_eq) m name) none))
      ∙ map-append (λ e. e.0) m.entries ((name, own) ∷ [])

  module _ (place : ℕ) (name : List ℕ) (own : OpenEpochs) (unique : IsUnique (pointwise nat_eq) m) (key : slice_get (keys m) place ≡ Some name) (value : slice_get (values m) place ≡ Some own) where
    -- what is kept of the window at a place
    pub kept_there : kept m.entries name ≡ open_of own
    kept_there = ap (λ o. option_map_or open_of o (open_after [])) (lookup_from_place nat_list_eq_equiv m.entries place name own unique (entry_at m.entries place name own key value))

    -- and after a write there
    pub kept_put : (new : OpenEpochs) (other : List ℕ) → kept (with_value_at m place new).entries other ≡ cond (pointwise nat_eq name other) (open_of new) (kept m.entries other)
    kept_put new other =
        ap (λ o. option_map_or open_of o (open_after [])) ((updates-with_value_at m place new nat_list_eq_equiv unique name own (entry_at m.entries place name own key value)).0 other)
        ∙ by (pointwise nat_eq name other)
      where
        by : (b : Bool) → option_map_or open_of (cond b (Some new) (lookup (pointwise nat_eq other) m.entries)) (open_after []) ≡ cond b (open_of new) (kept m.entries other)
        by true = refl
        by false = refl

    -- a call on that window
    pub taken_there : (windows : List Window) (calls : List Call) (call : Call) (step : Step) (new : OpenEpochs) → window_on call.what ≡ Some name → ((window : List ℕ) → kept m.entries window ≡ open_on calls window)
        → step.reason ≡ reason_in windows (open_of own) call.what call.request
        → ((past : List (ℕ × What)) → open_of own ≡ open_after past → open_of new ≡ open_after (past_with step.reason (length calls, call.what) past))
        → step.placement ≡ placed_in (open_of own) call.what
        → IsTaken windows calls call step (with_value_at m place new).entries
    taken_there windows calls call step new on are is next stands = record {
      reason_is = is ∙ ap (λ o. reason_in windows o call.what call.request) (sym kept_there ∙ are name) ∙ sym (at_name (window_on call.what) on);
      windows_are = kept_with calls call name on m.entries (with_value_at m place new).entries step.reason
          (λ past other same before.
          kept_put new other ∙ ap (λ b. cond b (open_of new) (kept m.entries other)) same ∙ next past (sym kept_there ∙ ap (kept m.entries) (same_text name other (sym same)) ∙ before))
          (λ other differ. kept_put new other ∙ ap (λ b. cond b (open_of new) (kept m.entries other)) differ)
          are;
      placement_is = stands ∙ ap (λ own. placed_in own call.what) (sym kept_there) ∙ placed_there calls call name m.entries on are;
    }
      where
        at_name : (o : Option (List ℕ)) → o ≡ Some name → option_and_then (λ window. reason_in windows (open_on calls window) call.what call.request) o ≡ reason_in windows (open_on calls name) call.what call.request
        at_name o is = ap (option_and_then (λ window. reason_in windows (open_on calls window) call.what call.request)) is

-- a call that has a reason is not taken
pub taken_none : (reason : Option EpochReason) (call : Call) (calls : List Call) → is_some reason ≡ true → taken_with reason call calls ≡ calls
taken_none None call calls some = absurd (false≢true some)
taken_none (Some reason) call calls some = refl

-- a call that is on no window
pub taken_nowhere : (windows : List Window) (calls : List Call) (call : Call) (step : Step) (entries : List (List ℕ × OpenEpochs)) → step ≡ record { reason = None; placement = record { opening = None; closes = None } } → window_on call.what ≡ None → ((window : List ℕ) → kept entries window ≡ open_on calls window) → IsTaken windows calls call step entries
taken_nowhere windows calls call step entries is none are = record {
  reason_is = ap (λ (s : Step). s.reason) is ∙ sym (ap (option_and_then (λ window. reason_in windows (open_on calls window) call.what call.request)) none);
  windows_are = λ window. are window ∙ ap open_after (same_after_none window calls call none) ∙ ap (λ (s : Step). open_on (taken_with s.reason call calls) window) (sym is);
  placement_is = ap (λ (s : Step). s.placement) is ∙ placed_nowhere calls call none;
}
