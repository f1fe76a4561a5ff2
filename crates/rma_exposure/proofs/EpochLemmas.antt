-- What is kept of the epochs of a rank, with one more call.
use Rattle.std.proofs.Common.{◌≡◌, ℕ, ◌+◌, Bool, true, false, cond, ◌&&◌, ◌∷◌, ◌++◌, List, [], length, Option, Some, None, Result, Ok, Err, nat_eq, refl, sym, ap, subst, ◌∙◌, arith, append-nil, ◌<◌, ◌≤◌, ⊎_elim}
use Rattle.std.specs.Map.{lookup, keys_of}
use Rattle.std.specs.Option.{option_map_or, option_and_then}
use Rattle.std.proofs.lemmas.Bool.{eqb-true, cases_lt}
use Rattle.std.proofs.lemmas.Bool.Decides.{nat_tests}
use Rattle.std.proofs.lemmas.List.{map-append}
use Rattle.std.proofs.lemmas.Option.{slice_get_past}
use Rattle.indexmap.specs.IndexMap.{IndexMap, insert_entry}
use Rattle.indexmap.proofs.CallerLemmas.{insert_entry-new}
use Rattle.std.specs.Prelude.{OnOk, option_map}
use Rattle.std.specs.Cmp.Lexicographic.{pointwise, nat_list_eq_equiv}
use Rattle.rma_base.specs.RankSet.{has_number}
use Rattle.rma_base.specs.declared.rank.Rank.{Rank}
use Rattle.rma_call.specs.Call.{Call}
use Rattle.rma_run.proofs.WalkLemmas.{by_number_push}
use Rattle.rma_exposure.specs.declared.side.Side.{Side}
use Rattle.rma_exposure.specs.declared.side.Side.TheVariants.{Exposure, Access}
use Rattle.rma_exposure.specs.declared.opened.Opened.{Opened}
use Rattle.rma_exposure.specs.declared.side_epochs.SideEpochs.{SideEpochs}
use Rattle.rma_exposure.specs.declared.rank_epochs.RankEpochs.{RankEpochs}
use Rattle.rma_exposure.specs.Opening.{Opening, posted, started, waited, completed, opening_at, opened, closed, opens_on, opens_with, closes_on}
use Rattle.rma_exposure.specs.Matching.{numbers}
use Rattle.rma_exposure.specs.Closing.{closing_of, pending_of}
use Rattle.rma_exposure.specs.inside.Epochs.{IsNeither, number_of_opener, openers, kept, kept_of, numbers_in, pending_in, IsOpened, is_pending, stated, close_in, ended, close_at, AreInOrder, HaveNoEpochs, AreEpochs, AreOfRank, IsOfRank}
use Rattle.rma_exposure.proofs.ClosedLemmas.{found_at}
use Rattle.rma_exposure.proofs.ClosingLemmas.{closing_is}
use Rattle.rma_exposure.proofs.CallLemmas.{numbers_from_push, next_pending, pending_after_push, closing_of_push, closing_at_same, opener_of_past, opener_of_same, opener_of_closed, opening_at_push, opening_at_same, closes_is, closes_none}

numbers_push : (side : Side) (window : List ℕ) (other : ℕ) (calls : List Call) (call : Call) →
    numbers side window other (calls ++ call ∷ []) ≡ numbers side window other calls ++ cond (opens_with side window other call) (length calls ∷ []) []
numbers_push side window other calls call =
    numbers_from_push side window other 0 calls call
    ∙ ap (λ k. numbers side window other calls ++ cond (opens_with side window other call) (k ∷ []) []) (let e : 0 + length calls ≡ length calls = omega arith in e)

pending_push : (side : Side) (window : List ℕ) (calls : List Call) (call : Call) →
    pending_of side window (calls ++ call ∷ []) ≡ next_pending side window (length calls) (pending_of side window calls) call
pending_push side window calls call =
    pending_after_push side window 0 None calls call
    ∙ ap (λ k. next_pending side window k (pending_of side window calls) call) (let e : 0 + length calls ≡ length calls = omega arith in e)

not_with : (side : Side) (window : List ℕ) (other : ℕ) (call : Call) → opened side call.what ≡ None → opens_with side window other call ≡ false
not_with side window other call is = rw is refl

not_on : (side : Side) (window : List ℕ) (call : Call) → opened side call.what ≡ None → opens_on side window call ≡ false
not_on side window call is = rw is refl

numbers_same : (side : Side) (window : List ℕ) (other : ℕ) (calls : List Call) (call : Call) → opened side call.what ≡ None → numbers side window other (calls ++ call ∷ []) ≡ numbers side window other calls
numbers_same side window other calls call opens =
    numbers_push side window other calls call
    ∙ ap (λ b. numbers side window other calls ++ cond b (length calls ∷ []) []) (not_with side window other call opens)
    ∙ append-nil (numbers side window other calls)

pending_same : (side : Side) (window : List ℕ) (calls : List Call) (call : Call) → opened side call.what ≡ None → closed side call.what ≡ None → pending_of side window (calls ++ call ∷ []) ≡ pending_of side window calls
pending_same side window calls call opens closes =
    pending_push side window calls call
    ∙ ap (λ b. cond b (Some (length calls)) (cond (closes_on side window call) None (pending_of side window calls))) (not_on side window call opens)
    ∙ ap (λ b. cond b None (pending_of side window calls)) (closes_none side window call closes)

-- the numbers of the calls that open epochs, with one call more
openers_push : (side : Side) (calls : List Call) (call : Call) (opening : Option Opening) → opened side call.what ≡ opening →
    openers side (calls ++ call ∷ []) ≡ openers side calls ++ option_map_or (λ o. length calls ∷ []) opening []
openers_push side calls call opening is =
    by_number_push (number_of_opener side) 0 calls call
    ∙ ap (λ k. openers side calls ++ number_of_opener side k call) (let e : 0 + length calls ≡ length calls = omega arith in e)
    ∙ ap (λ o. openers side calls ++ option_map_or (λ (opening : Opening). length calls ∷ []) o []) is

openers_same : (side : Side) (calls : List Call) (call : Call) → opened side call.what ≡ None → openers side (calls ++ call ∷ []) ≡ openers side calls
openers_same side calls call opens = openers_push side calls call None opens ∙ append-nil (openers side calls)

-- a call that opens and closes nothing
pub AreEpochs_same : (side : Side) (calls : List Call) (call : Call) (epochs : SideEpochs) → opened side call.what ≡ None → closed side call.what ≡ None →
    AreEpochs side calls epochs → AreEpochs side (calls ++ call ∷ []) epochs
AreEpochs_same side calls call epochs opens closes are = record {
  numbers_are = λ window other. are.numbers_are window other ∙ sym (numbers_same side window other calls call opens);
  pending_are = λ window. are.pending_are window ∙ sym (pending_same side window calls call opens closes);
  openers_are = λ number. are.openers_are number ∙ sym (opening_at_same side calls call number opens);
  openers_come = are.openers_come ∙ sym (openers_same side calls call opens);
  closings_are = λ number. are.closings_are number ∙ sym (closing_at_same side 0 calls call number closes);
  closed_are = λ number. are.closed_are number ∙ sym (opener_of_same side calls call number closes);
  closed_come = are.closed_come;
}

-- ---- calls that open and close nothing

pub no_calls_have_no_epochs : (side : Side) → HaveNoEpochs side []
no_calls_have_no_epochs side = record { numbers_are = λ window other. refl; pending_are = λ window. refl; openers_are = λ number. refl; none_opens = refl; closings_are = λ number. refl; closed_are = λ number. refl }

pub HaveNoEpochs_more : (side : Side) (calls : List Call) (call : Call) → opened side call.what ≡ None → closed side call.what ≡ None → HaveNoEpochs side calls → HaveNoEpochs side (calls ++ call ∷ [])
HaveNoEpochs_more side calls call opens closes have = record {
  numbers_are = λ window other. numbers_same side window other calls call opens ∙ have.numbers_are window other;
  pending_are = λ window. pending_same side window calls call opens closes ∙ have.pending_are window;
  openers_are = λ number. opening_at_same side calls call number opens ∙ have.openers_are number;
  none_opens = openers_same side calls call opens ∙ have.none_opens;
  closings_are = λ number. closing_at_same side 0 calls call number closes ∙ have.closings_are number;
  closed_are = λ number. opener_of_same side calls call number closes ∙ have.closed_are number;
}

none_stated : (epoch : Option Opened) → option_map stated epoch ≡ None → epoch ≡ None
none_stated None is = refl
none_stated (Some epoch) is = absurd (cc)

-- no call that is to come opens an epoch yet
pub no_opener_yet : (side : Side) (calls : List Call) (epochs : SideEpochs) → AreEpochs side calls epochs → lookup (nat_eq (length calls)) epochs.openers.entries ≡ None
no_opener_yet side calls epochs are =
    none_stated (lookup (nat_eq (length calls)) epochs.openers.entries)
    (are.openers_are (length calls) ∙ ap (option_and_then (λ (call : Call). opened side call.what)) (slice_get_past calls (length calls) (omega arith)))

-- a new key goes last
pub keys_pushed : {V S : Type 0} (m : IndexMap ℕ V S) (key own : ℕ) (value : V) (new : List (ℕ × V)) → key ≡ own → lookup (nat_eq key) m.entries ≡ None → new ≡ insert_entry nat_eq m.entries own value →
    keys_of new ≡ keys_of m.entries ++ key ∷ []
keys_pushed m key own value new same none is =
    ap keys_of (is ∙ ap (λ k. insert_entry nat_eq m.entries k value) (sym same) ∙ insert_entry-new nat_eq m key value none)
    ∙ map-append (λ e. e.0) m.entries ((key, value) ∷ [])

-- an opening that no call has closed
abbrev pub unclosed : Opening → Opened
unclosed opening = record { window = opening.window; group = opening.group; close = None }

-- a call that opens an epoch
module _ (side : Side) (calls : List Call) (call : Call) (opening : Opening) (old new : SideEpochs) (opens : opened side call.what ≡ Some opening) (closes : closed side call.what ≡ None)
    (own : (name : List ℕ) → pointwise nat_eq opening.window name ≡ true → IsOpened (length calls) opening.group (kept old.windows.entries name) (kept new.windows.entries name))
    (others : (name : List ℕ) → pointwise nat_eq opening.window name ≡ false → kept new.windows.entries name ≡ kept old.windows.entries name)
    (noted : (number : ℕ) → lookup (nat_eq number) new.openers.entries ≡ cond (nat_eq (length calls) number) (Some (unclosed opening)) (lookup (nat_eq number) old.openers.entries))
    (come : keys_of new.openers.entries ≡ keys_of old.openers.entries ++ length calls ∷ [])
    (are : AreEpochs side calls old) where
  added_openers : (number : ℕ) → option_map stated (lookup (nat_eq number) new.openers.entries) ≡ opening_at side (calls ++ call ∷ []) number
  added_openers number =
      ap (option_map stated) (noted number)
      ∙ by (nat_eq (length calls) number)
      ∙ sym (opening_at_push side calls call number)
    where
      by : (b : Bool) → option_map stated (cond b (Some (unclosed opening)) (lookup (nat_eq number) old.openers.entries)) ≡ cond b (opened side call.what) (opening_at side calls number)
      by true = sym opens
      by false = are.openers_are number

  added_closings : (number : ℕ) → close_in (lookup (nat_eq number) new.openers.entries) ≡ closing_of side (calls ++ call ∷ []) number
  added_closings number =
      ap close_in (noted number)
      ∙ by (nat_eq (length calls) number) refl
      ∙ sym (closing_at_same side 0 calls call number closes)
    where
      by : (b : Bool) → nat_eq (length calls) number ≡ b → close_in (cond b (Some (unclosed opening)) (lookup (nat_eq number) old.openers.entries)) ≡ closing_of side calls number
      by true same =
          ap close_in (sym (no_opener_yet side calls old are))
          ∙ ap (λ k. close_in (lookup (nat_eq k) old.openers.entries)) (eqb-true (length calls) number same)
          ∙ are.closings_are number
      by false differ = are.closings_are number

  with_is : (window : List ℕ) (other : ℕ) → opens_with side window other call ≡ (pointwise nat_eq opening.window window && has_number other opening.group)
  with_is window other = rw (opens, nat_list_eq_equiv.symm window opening.window) refl

  on_is : (window : List ℕ) → opens_on side window call ≡ pointwise nat_eq opening.window window
  on_is window = rw (opens, nat_list_eq_equiv.symm window opening.window) refl

  added_numbers : (window : List ℕ) (other : ℕ) → numbers_in (kept new.windows.entries window) other ≡ numbers side window other (calls ++ call ∷ [])
  added_numbers window other = by (pointwise nat_eq opening.window window) refl
    where
      before : List ℕ
      before = numbers side window other calls

      by : (b : Bool) → pointwise nat_eq opening.window window ≡ b → numbers_in (kept new.windows.entries window) other ≡ numbers side window other (calls ++ call ∷ [])
      by true same =
          (own window same).numbers other
          ∙ ap (λ ns. ns ++ cond (has_number other opening.group) (length calls ∷ []) []) (are.numbers_are window other)
          ∙ ap (λ b. before ++ cond b (length calls ∷ []) []) (sym (with_is window other ∙ ap (λ b. b && has_number other opening.group) same))
          ∙ sym (numbers_push side window other calls call)
      by false differ =
          ap (λ o. numbers_in o other) (others window differ)
          ∙ are.numbers_are window other
          ∙ sym (append-nil before)
          ∙ ap (λ b. before ++ cond b (length calls ∷ []) []) (sym (with_is window other ∙ ap (λ b. b && has_number other opening.group) differ))
          ∙ sym (numbers_push side window other calls call)

  added_pending : (window : List ℕ) → pending_in (kept new.windows.entries window) ≡ pending_of side window (calls ++ call ∷ [])
  added_pending window = by (pointwise nat_eq opening.window window) refl
    where
      before : Option ℕ
      before = pending_of side window calls

      by : (b : Bool) → pointwise nat_eq opening.window window ≡ b → pending_in (kept new.windows.entries window) ≡ pending_of side window (calls ++ call ∷ [])
      by true same =
          (own window same).pending
          ∙ ap (λ b. cond b (Some (length calls)) (cond (closes_on side window call) None before)) (sym (on_is window ∙ same))
          ∙ sym (pending_push side window calls call)
      by false differ =
          ap pending_in (others window differ)
          ∙ are.pending_are window
          ∙ sym (ap (λ b. cond b (Some (length calls)) (cond (closes_on side window call) None before)) (on_is window ∙ differ)
          ∙ ap (λ b. cond b None before) (closes_none side window call closes))
          ∙ sym (pending_push side window calls call)

  pub AreEpochs_added : new.closed ≡ old.closed → AreEpochs side (calls ++ call ∷ []) new
  AreEpochs_added closed = record {
    numbers_are = added_numbers;
    pending_are = added_pending;
    openers_are = added_openers;
    openers_come = come ∙ ap (λ l. l ++ length calls ∷ []) are.openers_come ∙ sym (openers_push side calls call (Some opening) opens);
    closings_are = added_closings;
    closed_are = λ number.
        ap (lookup (nat_eq number)) closed
        ∙ are.closed_are number
        ∙ sym (opener_of_same side calls call number closes);
    closed_come = subst AreInOrder (sym closed) are.closed_come;
  }

-- the calls that close an epoch are before those that are to come
pub closes_before : (side : Side) (calls : List Call) (epochs : SideEpochs) → AreEpochs side calls epochs → (i : ℕ) → i < length epochs.closed → close_at epochs.closed i < length calls
closes_before side calls epochs are i within = ⊎_elim
    (λ (lt : close_at epochs.closed i < length calls). lt)
    (λ (le : length calls ≤ close_at epochs.closed i).
    let no = sym (found_at epochs.closed i are.closed_come within) ∙ are.closed_are (close_at epochs.closed i) ∙ opener_of_past side calls (close_at epochs.closed i) le in
    absurd (cc))
    (cases_lt (close_at epochs.closed i) (length calls))

-- no call that is to come closes an epoch yet
pub none_closes : (side : Side) (calls : List Call) (epochs : SideEpochs) → AreEpochs side calls epochs → (number : ℕ) →
    lookup (nat_eq number) epochs.closed ≡ cond (nat_eq (length calls) number) None (lookup (nat_eq number) epochs.closed)
none_closes side calls epochs are number = by (nat_eq (length calls) number) refl
  where
    by : (b : Bool) → nat_eq (length calls) number ≡ b → lookup (nat_eq number) epochs.closed ≡ cond b None (lookup (nat_eq number) epochs.closed)
    by true same = are.closed_are number ∙ opener_of_past side calls number (grind (arith, nat_tests))
    by false differ = refl

ended_states : (b : Bool) (close : ℕ) (epoch : Option Opened) → option_map stated (option_map (λ e. cond b (ended close e) e) epoch) ≡ option_map stated epoch
ended_states b close None = refl
ended_states true close (Some epoch) = refl
ended_states false close (Some epoch) = refl

ended_closes : (b : Bool) (close : ℕ) (epoch : Option Opened) → (b ≡ true → (opening : Opening) × (option_map stated epoch ≡ Some opening)) →
    close_in (option_map (λ e. cond b (ended close e) e) epoch) ≡ cond b (Some close) (close_in epoch)
ended_closes true close None there = let one = there refl in let no = one.1 in absurd (cc)
ended_closes true close (Some epoch) there = refl
ended_closes false close None there = refl
ended_closes false close (Some epoch) there = refl

-- a call that closes an epoch, if one is open
module _ (side : Side) (calls : List Call) (call : Call) (own : List ℕ) (old new : SideEpochs) (opens : opened side call.what ≡ None) (closes : closed side call.what ≡ Some own)
    (numbers_stay : (name : List ℕ) (other : ℕ) → numbers_in (kept new.windows.entries name) other ≡ numbers_in (kept old.windows.entries name) other)
    (closed_one : (name : List ℕ) → pending_in (kept new.windows.entries name) ≡ cond (pointwise nat_eq own name) None (pending_in (kept old.windows.entries name)))
    (come : keys_of new.openers.entries ≡ keys_of old.openers.entries)
    (noted : (number : ℕ) → lookup (nat_eq number) new.openers.entries ≡ option_map (λ epoch. cond (is_pending (pending_in (kept old.windows.entries own)) number) (ended (length calls) epoch) epoch) (lookup (nat_eq number) old.openers.entries))
    (undone : (number : ℕ) → lookup (nat_eq number) new.closed ≡ cond (nat_eq (length calls) number) (pending_in (kept old.windows.entries own)) (lookup (nat_eq number) old.closed))
    (in_order : AreInOrder new.closed)
    (are : AreEpochs side calls old) where
  closing : (number : ℕ) → closing_of side (calls ++ call ∷ []) number ≡ cond (is_pending (pending_in (kept old.windows.entries own)) number) (Some (length calls)) (closing_of side calls number)
  closing number =
      closing_of_push side own call closes calls number
      ∙ ap (λ p. cond (is_pending p number) (Some (length calls)) (closing_of side calls number)) (sym (are.pending_are own))

  -- the epoch that is closed was opened
  ends_one : (number : ℕ) → is_pending (pending_in (kept old.windows.entries own)) number ≡ true → (opening : Opening) × (option_map stated (lookup (nat_eq number) old.openers.entries) ≡ Some opening)
  ends_one number pending =
      let is = closing_is side (calls ++ call ∷ []) number (length calls) (closing number ∙ ap (λ b. cond b (Some (length calls)) (closing_of side calls number)) pending) in
      (is.opening, are.openers_are number ∙ sym (opening_at_same side calls call number opens) ∙ is.opens)

  pub AreEpochs_closed : AreEpochs side (calls ++ call ∷ []) new
  AreEpochs_closed = record {
    numbers_are = λ window other.
        numbers_stay window other
        ∙ are.numbers_are window other
        ∙ sym (append-nil (numbers side window other calls))
        ∙ ap (λ b. numbers side window other calls ++ cond b (length calls ∷ []) []) (sym (not_with side window other call opens))
        ∙ sym (numbers_push side window other calls call);
    pending_are = λ window.
        closed_one window
        ∙ ap (λ b. cond b None (pending_in (kept old.windows.entries window))) (sym (closes_is side window own call closes ∙ nat_list_eq_equiv.symm window own))
        ∙ ap (cond (closes_on side window call) None) (are.pending_are window)
        ∙ sym (ap (λ b. cond b (Some (length calls)) (cond (closes_on side window call) None (pending_of side window calls))) (not_on side window call opens))
        ∙ sym (pending_push side window calls call);
    openers_are = λ number.
        ap (option_map stated) (noted number)
        ∙ ended_states (is_pending (pending_in (kept old.windows.entries own)) number) (length calls) (lookup (nat_eq number) old.openers.entries)
        ∙ are.openers_are number
        ∙ sym (opening_at_same side calls call number opens);
    openers_come = come ∙ are.openers_come ∙ sym (openers_same side calls call opens);
    closings_are = λ number.
        ap close_in (noted number)
        ∙ ended_closes (is_pending (pending_in (kept old.windows.entries own)) number) (length calls) (lookup (nat_eq number) old.openers.entries) (ends_one number)
        ∙ ap (cond (is_pending (pending_in (kept old.windows.entries own)) number) (Some (length calls))) (are.closings_are number)
        ∙ sym (closing number);
    closed_are = λ number.
        undone number
        ∙ ap (λ p. cond (nat_eq (length calls) number) p (lookup (nat_eq number) old.closed)) (are.pending_are own)
        ∙ ap (cond (nat_eq (length calls) number) (pending_of side own calls)) (are.closed_are number)
        ∙ sym (opener_of_closed side calls call own number closes);
    closed_come = in_order;
  }

-- ---- both sides

pub OnOk_both : {T E A B C : Type 0} (r : Result T E) → (A → B → C) → OnOk r A → OnOk r B → OnOk r C
OnOk_both (Ok x) f a b = f a b
OnOk_both (Err e) f a b = tt

pub OnOk_map : {T E A B : Type 0} (r : Result T E) → (A → B) → OnOk r A → OnOk r B
OnOk_map (Ok x) f a = f a
OnOk_map (Err e) f a = tt

-- a call that opens and closes nothing
pub AreOfRank_same : (calls : List Call) (call : Call) (epochs : RankEpochs) → IsNeither call.what → AreOfRank calls epochs → AreOfRank (calls ++ call ∷ []) epochs
AreOfRank_same calls call epochs not are = record {
  posts_are = AreEpochs_same Exposure calls call epochs.posts not.no_post not.no_wait are.posts_are;
  starts_are = AreEpochs_same Access calls call epochs.starts not.no_start not.no_complete are.starts_are;
}

-- the same of what is kept of a rank, if anything is
pub IsOfRank_same : (calls : List Call) (call : Call) (epochs : Option RankEpochs) → IsNeither call.what → IsOfRank calls epochs → IsOfRank (calls ++ call ∷ []) epochs
IsOfRank_same calls call None not have = by
  where
    by : (side : Side) → HaveNoEpochs side (calls ++ call ∷ [])
    by Exposure = HaveNoEpochs_more Exposure calls call not.no_post not.no_wait (have Exposure)
    by Access = HaveNoEpochs_more Access calls call not.no_start not.no_complete (have Access)
IsOfRank_same calls call (Some epochs) not are = AreOfRank_same calls call epochs not are

-- where this is kept of a rank
pub some_kept : (calls : List Call) (epochs : RankEpochs) (found : Option RankEpochs) → Some epochs ≡ found → IsOfRank calls found → AreOfRank calls epochs
some_kept calls epochs found some are = subst (IsOfRank calls) (sym some) are

-- where nothing is kept of a rank
pub none_kept : (calls : List Call) (epochs : Option RankEpochs) → None ≡ epochs → IsOfRank calls epochs → (side : Side) → HaveNoEpochs side calls
none_kept calls epochs none are = subst (IsOfRank calls) (sym none) are

-- a post or an expwait
pub AreOfRank_posts : (calls : List Call) (call : Call) (old : RankEpochs) (posts : SideEpochs) → started call.what ≡ None → completed call.what ≡ None →
    AreOfRank calls old → AreEpochs Exposure (calls ++ call ∷ []) posts → AreOfRank (calls ++ call ∷ []) (record { posts = posts; starts = old.starts })
AreOfRank_posts calls call old posts start complete are new = record {
  posts_are = new;
  starts_are = AreEpochs_same Access calls call old.starts start complete are.starts_are;
}

-- a start or a complete
pub AreOfRank_starts : (calls : List Call) (call : Call) (old : RankEpochs) (starts : SideEpochs) → posted call.what ≡ None → waited call.what ≡ None →
    AreOfRank calls old → AreEpochs Access (calls ++ call ∷ []) starts → AreOfRank (calls ++ call ∷ []) (record { posts = old.posts; starts = starts })
AreOfRank_starts calls call old starts post wait are new = record {
  posts_are = AreEpochs_same Exposure calls call old.posts post wait are.posts_are;
  starts_are = new;
}

-- what is kept of a rank, found by its number
pub own_are : (ranks : List (Rank × RankEpochs)) (calls : List Call) (found rank : Rank) → found ≡ rank → IsOfRank calls (kept_of ranks rank.0) → IsOfRank calls (kept_of ranks found.0)
own_are ranks calls found rank same are = subst (λ (r : Rank). IsOfRank calls (kept_of ranks r.0)) (sym same) are
