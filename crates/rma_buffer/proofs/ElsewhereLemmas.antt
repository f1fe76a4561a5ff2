-- A call that is made elsewhere: its buffers break no rule if they lie in the space there.
use Rattle.std.proofs.Common.{◌≡◌, ℕ, ◌≤◌, pos, ◌-ℤ◌, List, [], ◌∷◌, ◌++◌, flat_map, option_to_list, Bool, true, false, not, nat_lt, ◌&&◌, ◌||◌, Option, Some, None, is_none, IfSome, IfOk, Result, Ok, Err, option_map, if◌then◌else◌, refl, sym, ap, ap₂, subst, ◌∙◌}
use Rattle.std.proofs.lemmas.Bool.{or_from, or_parts}
use Rattle.std.proofs.lemmas.List.Folds.{list_any-append}
use Rattle.rma_base.specs.Limits.{address_limit, block_limit, element_limit}
use Rattle.rma_base.specs.declared.form_reason.FormReason.{FormReason}
use Rattle.rma_base.specs.declared.form_reason.FormReason.TheVariants as reason
use Rattle.rma_base.specs.declared.rank.Rank.{Rank}
use Rattle.rma_bytes.specs.Layout.{Layout}
use Rattle.rma_call.specs.declared.local.LocalAccess.{LocalAccess}
use Rattle.rma_call.specs.declared.local.LocalCall.{LocalCall}
use Rattle.rma_call.specs.Rma.{placed}
use Rattle.rma_call.specs.declared.rma.Placement.{Placement}
use Rattle.rma_call.specs.declared.rma.RmaCall.{RmaCall}
use Rattle.rma_call.specs.declared.rma.RmaKind.{RmaKind}
use Rattle.rma_call.specs.declared.rma.RmaKind.TheVariants as kind
use Rattle.rma_datatype.specs.declared.operation.Op.{Op}
use Rattle.rma_form.specs.declared.event.local_line.LocalLine.{LocalLine}
use Rattle.rma_form.specs.declared.event.rma_line.RmaLine.{RmaLine}
use Rattle.rma_layout.specs.Refusal.{first_fault, is_all_in, refusal}
use Rattle.rma_layout.specs.declared.fault.LayoutFault.{LayoutFault}
use Rattle.rma_layout.specs.declared.space.Space.TheVariants.{Local, Target}
use Rattle.rma_type.specs.Table.{Table, typemaps}
use Rattle.rma_type.specs.declared.origin.Origin.{Origin}
use Rattle.rma_typemap.specs.Typemap.{Typemap}
use Rattle.rma_buffer.specs.CallElsewhere.{IsLocalCallElsewhere, IsLocalCallOf, IsRmaCallElsewhere, IsRmaCallOf}
use Rattle.rma_buffer.specs.Calls.{layout_in, local_call_of, moved_count, rma_call_of}
use Rattle.rma_buffer.specs.Elsewhere.{line_at, local_at}
use Rattle.rma_buffer.specs.Layouts.{shares_byte}
use Rattle.rma_buffer.specs.Operands.{entries_in, kind_of, operand_of, operands_of}
use Rattle.rma_buffer.specs.Rules.{are_committed, basics_in, buffers_reason, callers, combined, differs, first_that_holds, has_many_blocks, have_many_blocks, is_allowed, is_committed, is_no_op, is_refused, layout_reason, leave_space, memory_reason, overlap, reason_at_target, touched_count, touched_in, uses_origin, written}
use Rattle.rma_buffer.specs.declared.elsewhere.Place.{Place}
use Rattle.rma_buffer.specs.declared.operand.Operand.{Operand}
use Rattle.rma_buffer.specs.declared.operand.Operands.{Operands}
use Rattle.rma_buffer.specs.inside.Elsewhere.{IsMovedCall, IsMovedIf, IsMovedLocal, IsPlaceOf, IsWithin, addresses_of}
use Rattle.rma_buffer.specs.declared.layouts.Layouts.{Layouts}
use Rattle.rma_buffer.specs.inside.Layouts.{layouts_in, touched_origin}
use Rattle.rma_buffer.proofs.CallLemmas.{call_is}
use Rattle.rma_buffer.proofs.ReasonLemmas.{targeted, uncommitted}
use Rattle.rma_buffer.proofs.LayoutLemmas.{all_in}
use Rattle.rma_buffer.proofs.Words.{list_all, list_any}
use Rattle.rma_buffer.proofs.AddressLemmas.{at, operands_at, operands_of_at, operand_at_other, kind_of_at, leaves, if_at, many_if_at, shares_if_at, shares_byte_at, blocks_at, in_space_at, layout_at}

-- ---- the rules for buffers at other addresses

committed_if_at : (committed : List Bool) (o : Option Operand) (b : ℕ) → list_all (is_committed committed) (option_to_list (option_map (at b) o)) ≡ list_all (is_committed committed) (option_to_list o)
committed_if_at committed None b = refl
committed_if_at committed (Some it) b = refl

basics_if_at : (maps : List Typemap) (o : Option Operand) (b : ℕ) → flat_map (basics_in maps) (option_to_list (option_map (at b) o)) ≡ flat_map (basics_in maps) (option_to_list o)
basics_if_at maps None b = refl
basics_if_at maps (Some it) b = refl

fewer_if_at : (maps : List Typemap) (n : ℕ) (o : Option Operand) (b : ℕ) → list_any (λ one. nat_lt (entries_in maps one) n) (option_to_list (option_map (at b) o)) ≡ list_any (λ one. nat_lt (entries_in maps one) n) (option_to_list o)
fewer_if_at maps n None b = refl
fewer_if_at maps n (Some it) b = refl

as_option : (t : Bool) (it : Operand) → (if t then it ∷ [] else []) ≡ option_to_list (if t then Some it else None)
as_option true it = refl
as_option false it = refl

used_at : (t : Bool) (it : Operand) (b : ℕ) → (if t then Some (at b it) else None) ≡ option_map (at b) (if t then Some it else None)
used_at true it b = refl
used_at false it b = refl

abbrev any_of : (Operand → Bool) → Option Operand → Option Operand → Option Operand → Bool
any_of f o r c = list_any f (option_to_list o) || (list_any f (option_to_list r) || list_any f (option_to_list c))

callers_are : (f : Operand → Bool) (k : RmaKind) (it : Operands) → list_any f (callers k it) ≡ any_of f (touched_origin k it) it.result it.compare
callers_are f k it =
    let origin = if uses_origin k then it.origin ∷ [] else [] in
    list_any-append f origin (option_to_list it.result ++ option_to_list it.compare)
    ∙ ap (λ t. list_any f origin || t) (list_any-append f (option_to_list it.result) (option_to_list it.compare))
    ∙ ap (λ xs. list_any f xs || (list_any f (option_to_list it.result) || list_any f (option_to_list it.compare))) (as_option (uses_origin k) it.origin)

same_three : (a b c d e f : Bool) → a ≡ d → b ≡ e → c ≡ f → (a || (b || c)) ≡ (d || (e || f))
same_three a b c d e f p q r = rw (p, q, r) refl

module _ (place : Place) (it : Operands) where
  abbrev there : Operands
  there = operands_at place it

  callers_at : (f : Operand → Bool) (k : RmaKind) → list_any f (callers k there) ≡ any_of f (option_map (at place.origin) (touched_origin k it)) (option_map (at place.result) it.result) (option_map (at place.compare) it.compare)
  callers_at f k = callers_are f k there ∙ ap (λ o. any_of f o (option_map (at place.result) it.result) (option_map (at place.compare) it.compare)) (used_at (uses_origin k) it.origin place.origin)

  committed_at : (committed : List Bool) → are_committed committed there ≡ are_committed committed it
  committed_at committed =
      ap₂ (λ (r c : Bool). is_committed committed it.target && (is_committed committed it.origin && (r && c))) (committed_if_at committed it.result place.result) (committed_if_at committed it.compare place.compare)

  combined_at : (origins : List Origin) (op : Op) → combined origins op there ≡ combined origins op it
  combined_at origins op =
      ap (λ bs. basics_in (typemaps origins) it.target ++ ((if is_no_op op then [] else basics_in (typemaps origins) it.origin) ++ bs)) (basics_if_at (typemaps origins) it.result place.result)

  refused_at : (origins : List Origin) (k : RmaKind) → is_refused origins k there ≡ is_refused origins k it
  refused_at origins kind.Put = refl
  refused_at origins kind.Get = refl
  refused_at origins (kind.Accumulate op) = ap (λ bs. is_no_op op || not (is_allowed op bs)) (combined_at origins op)
  refused_at origins (kind.GetAccumulate op) = ap (λ bs. not (is_allowed op bs)) (combined_at origins op)
  refused_at origins (kind.FetchAndOp op) = refl
  refused_at origins kind.CompareAndSwap = refl

  module _ (maps : List Typemap) where
    count_at : (k : RmaKind) → touched_count maps k there ≡ touched_count maps k it
    count_at kind.Put = refl
    count_at kind.Get = refl
    count_at (kind.Accumulate op) = refl
    count_at (kind.GetAccumulate op) = refl
    count_at (kind.FetchAndOp op) = refl
    count_at kind.CompareAndSwap = refl

    differs_at : (k : RmaKind) → differs maps k there ≡ differs maps k it
    differs_at kind.Put = refl
    differs_at kind.Get = refl
    differs_at (kind.Accumulate op) = refl
    differs_at (kind.GetAccumulate op) = ap (λ t. nat_lt (entries_in maps it.target) (touched_count maps (kind.GetAccumulate op) it) || t) (fewer_if_at maps (touched_count maps (kind.GetAccumulate op) it) it.result place.result)
    differs_at (kind.FetchAndOp op) = refl
    differs_at kind.CompareAndSwap = refl

    have_many_blocks_at : (k : RmaKind) (m : ℕ) → have_many_blocks maps k m there ≡ have_many_blocks maps k m it
    have_many_blocks_at k m =
        let f = λ (one : Operand). has_many_blocks (touched_in maps m one) in
        ap (λ t. f it.target || t) (callers_at f k
        ∙ same_three _ _ _ _ _ _ (many_if_at maps m (touched_origin k it) place.origin) (many_if_at maps m it.result place.result) (many_if_at maps m it.compare place.compare)
        ∙ sym (callers_are f k it))

    written_at : (k : RmaKind) (m : ℕ) → shares_byte (touched_in maps m (written k there)) ≡ shares_byte (touched_in maps m (written k it))
    written_at kind.Put m = refl
    written_at kind.Get m = shares_byte_at maps m it.origin place.origin
    written_at (kind.Accumulate op) m = refl
    written_at (kind.GetAccumulate op) m = refl
    written_at (kind.FetchAndOp op) m = refl
    written_at kind.CompareAndSwap m = refl

    overlap_at : (k : RmaKind) (m : ℕ) → overlap maps k m there ≡ overlap maps k m it
    overlap_at k m = ap₂ (λ (s t : Bool). s || t) (written_at k m) (shares_if_at maps m it.result place.result)

-- ---- the first reason, at other addresses

abbrev first_of : Bool → Bool → Bool → Bool → Bool → Bool → Option FormReason
first_of a b c d e f = first_that_holds (
    (reason.OperationNotAllowed, a)
    ∷ (reason.TooManyElements, b)
    ∷ (reason.SignatureDiffers, c)
    ∷ (reason.TooManyBlocks, d)
    ∷ (reason.OutOfSpace, e)
    ∷ (reason.OverlappingType, f)
    ∷ [])

fifth_none : (a b c d e f : Bool) → first_of a b c d e f ≡ None → e ≡ false
fifth_none true b c d e f h = absurd (cc)
fifth_none false true c d e f h = absurd (cc)
fifth_none false false true d e f h = absurd (cc)
fifth_none false false false true e f h = absurd (cc)
fifth_none false false false false true f h = absurd (cc)
fifth_none false false false false false f h = refl

same_first : (a b c d e f p q r s t : Bool) → a ≡ p → c ≡ q → d ≡ r → e ≡ s → f ≡ t → first_of a b c d e f ≡ first_of p b q r s t
same_first a b c d e f p q r s t h i j k l = rw (h, i, j, k, l) refl

module _ (origins : List Origin) (k : RmaKind) (it : Operands) where
  abbrev many : ℕ
  many = touched_count (typemaps origins) k it

  stays : reason_at_target origins k it ≡ None → leave_space (typemaps origins) k many it ≡ false
  stays = fifth_none (is_refused origins k it) (nat_lt element_limit many) (differs (typemaps origins) k it) (have_many_blocks (typemaps origins) k many it) (leave_space (typemaps origins) k many it) (overlap (typemaps origins) k many it)

  reason_at : (place : Place) → leave_space (typemaps origins) k many (operands_at place it) ≡ false → reason_at_target origins k it ≡ None → reason_at_target origins k (operands_at place it) ≡ None
  reason_at place in_space none =
      let maps = typemaps origins in
      let new = operands_at place it in
      ap (λ n. first_of (is_refused origins k new) (nat_lt element_limit n) (differs maps k new) (have_many_blocks maps k n new) (leave_space maps k n new) (overlap maps k n new)) (count_at place it maps k)
      ∙ same_first (is_refused origins k new) (nat_lt element_limit many) (differs maps k new) (have_many_blocks maps k many new) (leave_space maps k many new) (overlap maps k many new)
      (is_refused origins k it) (differs maps k it) (have_many_blocks maps k many it) (leave_space maps k many it) (overlap maps k many it)
      (refused_at place it origins k) (differs_at place it maps k) (have_many_blocks_at place it maps k many) (in_space ∙ sym (stays none)) (overlap_at place it maps k many)
      ∙ none

  module _ (committed : List Bool) (target : Option Rank) (some : is_none target ≡ false) (none : buffers_reason origins committed k target it ≡ None) where
    are : are_committed committed it ≡ true
    are = decide (are_committed committed it) refl
      where
        decide : (t : Bool) → are_committed committed it ≡ t → are_committed committed it ≡ true
        decide true e = e
        decide false e = let bad = uncommitted origins committed k target it e in absurd (cc)

    pub at_target_none : reason_at_target origins k it ≡ None
    at_target_none = sym (targeted origins committed k target it are some) ∙ none

    pub good_at : (place : Place) → leave_space (typemaps origins) k many (operands_at place it) ≡ false → buffers_reason origins committed k (Some place.target) (operands_at place it) ≡ None
    good_at place in_space = targeted origins committed k (Some place.target) (operands_at place it) (committed_at place it committed ∙ are) refl ∙ reason_at place in_space at_target_none

-- ---- the call at another place

abbrev numbers_of : RmaKind → Place → List ℕ
numbers_of k place = place.target.0 ∷ place.displacement ∷ addresses_of k place

address_if : (o : Option Operand) (a : ℕ) → o ≡ option_map (at a) o → IfSome o (λ it. it.address ≡ a)
address_if None a e = tt
address_if (Some it) a e = let same : it ≡ at a it = cc in ap (λ (o : Operand). o.address) same

address_used : (t : Bool) (it : Operand) (a : ℕ) → it.address ≡ a → IfSome (if t then Some it else None) (λ one. one.address ≡ a)
address_used true it a e = e
address_used false it a e = tt

laid_used : (maps : List Typemap) (m : ℕ) (t : Bool) (it : Operand) → (if t then Some (layout_in maps m it) else None) ≡ option_map (layout_in maps m) (if t then Some it else None)
laid_used maps m true it = refl
laid_used maps m false it = refl

module _ (maps : List Typemap) (k : RmaKind) (n : ℕ) (it : Operands) (from to : Place) (at_from : it ≡ operands_at from it) (old new : Layouts) (laid : old ≡ layouts_in maps k n it)
    (target : new.target ≡ old.target) (origin : IsMovedIf (pos to.origin -ℤ pos from.origin) old.origin new.origin)
    (result : IsMovedIf (pos to.result -ℤ pos from.result) old.result new.result) (compare : IsMovedIf (pos to.compare -ℤ pos from.compare) old.compare new.compare)
    (stay : leave_space maps k n it ≡ false) where
  apart : (list_any (leaves maps n) (option_to_list (touched_origin k it)) ≡ false) × ((list_any (leaves maps n) (option_to_list it.result) || list_any (leaves maps n) (option_to_list it.compare)) ≡ false)
  apart = or_parts _ _ (sym (callers_are (leaves maps n) k it) ∙ (or_parts (not (is_all_in Target (touched_in maps n it.target))) (list_any (leaves maps n) (callers k it)) stay).1)

  others : (list_any (leaves maps n) (option_to_list it.result) ≡ false) × (list_any (leaves maps n) (option_to_list it.compare) ≡ false)
  others = or_parts _ _ apart.1

  origin_at : (new.origin ≡ option_map (layout_in maps n) (option_map (at to.origin) (touched_origin k it))) × (list_any (leaves maps n) (option_to_list (option_map (at to.origin) (touched_origin k it))) ≡ false)
  origin_at =
      if_at maps n (touched_origin k it) from.origin to.origin old.origin new.origin (address_used (uses_origin k) it.origin from.origin (ap (λ (o : Operands). o.origin.address) at_from)) apart.0
      (ap (λ (l : Layouts). l.origin) laid ∙ laid_used maps n (uses_origin k) it.origin) origin

  result_at : (new.result ≡ option_map (layout_in maps n) (option_map (at to.result) it.result)) × (list_any (leaves maps n) (option_to_list (option_map (at to.result) it.result)) ≡ false)
  result_at =
      if_at maps n it.result from.result to.result old.result new.result (address_if it.result from.result (ap (λ (o : Operands). o.result) at_from)) others.0
      (ap (λ (l : Layouts). l.result) laid) result

  compare_at : (new.compare ≡ option_map (layout_in maps n) (option_map (at to.compare) it.compare)) × (list_any (leaves maps n) (option_to_list (option_map (at to.compare) it.compare)) ≡ false)
  compare_at =
      if_at maps n it.compare from.compare to.compare old.compare new.compare (address_if it.compare from.compare (ap (λ (o : Operands). o.compare) at_from)) others.1
      (ap (λ (l : Layouts). l.compare) laid) compare

  pub space_at : leave_space maps k n (operands_at to it) ≡ false
  space_at =
      or_from (not (is_all_in Target (touched_in maps n it.target))) (list_any (leaves maps n) (callers k (operands_at to it)))
      (or_parts (not (is_all_in Target (touched_in maps n it.target))) (list_any (leaves maps n) (callers k it)) stay).0
      (callers_at to it (leaves maps n) k ∙ or_from _ _ origin_at.1 (or_from _ _ result_at.1 compare_at.1))

  same_laid : (t : Layout) (o r c : Option Layout) → new.target ≡ t → new.origin ≡ o → new.result ≡ r → new.compare ≡ c → new ≡ record { target = t; origin = o; result = r; compare = c }
  same_laid t o r c h i j l = rw (← h, ← i, ← j, ← l) refl

  pub laid_at : new ≡ layouts_in maps k n (operands_at to it)
  laid_at =
      same_laid (layout_in maps n it.target) (if uses_origin k then Some (layout_in maps n (at to.origin it.origin)) else None) (option_map (layout_in maps n) (option_map (at to.result) it.result)) (option_map (layout_in maps n) (option_map (at to.compare) it.compare))
      (target ∙ ap (λ (l : Layouts). l.target) laid)
      (origin_at.0 ∙ sym (laid_used maps n (uses_origin k) (at to.origin it.origin) ∙ ap (option_map (layout_in maps n)) (used_at (uses_origin k) it.origin to.origin))) result_at.0 compare_at.0

abbrev laid_of : RmaCall → Layouts
laid_of call = record { target = call.at_target; origin = call.origin; result = call.result; compare = call.compare }

laid_in_call : (origins : List Origin) (line : RmaLine) (it : Operands) → laid_of (rma_call_of origins line it) ≡ layouts_in (typemaps origins) (kind_of line.access) (moved_count (typemaps origins) (kind_of line.access) line.target it) it
unfolding rma_call_of
laid_in_call origins line it = refl

kind_in_call : (origins : List Origin) (line : RmaLine) (it : Operands) → (rma_call_of origins line it).kind ≡ kind_of line.access
unfolding rma_call_of
kind_in_call origins line it = refl

window_in_call : (origins : List Origin) (line : RmaLine) (it : Operands) → (rma_call_of origins line it).window ≡ line.window
unfolding rma_call_of
window_in_call origins line it = refl

same_call : (call : RmaCall) (target : Option Rank) (displacement : ℕ) → call.target ≡ target → call.displacement ≡ displacement →
    call ≡ record call { target = target; displacement = displacement }
same_call call target displacement h i = rw (← h, ← i) refl

module _ (types : Table) (line : RmaLine) (call moved : RmaCall) (of : IsRmaCallOf types line call) (from to : Place) (from_within : IsWithin from) (to_within : IsWithin to)
    (same : line_at line (numbers_of (kind_of line.access) from) ≡ line) (is : IsMovedCall from to call moved) where
  abbrev maps : List Typemap
  maps = typemaps types.origins

  abbrev it : Operands
  it = of.operands

  abbrev k : RmaKind
  k = kind_of line.access

  abbrev line_there : RmaLine
  line_there = line_at line (numbers_of k to)

  targets : is_none line.target ≡ false
  targets = ap (λ (l : RmaLine). is_none l.target) (sym same)

  count_is : moved_count maps k line.target it ≡ many types.origins k it
  count_is = ap (λ t. if t then 0 else many types.origins k it) targets

  at_from : it ≡ operands_at from it
  at_from =
      let both : Some it ≡ Some (operands_at from it) =
      sym of.are ∙ ap (λ (l : RmaLine). operands_of types.live l.access) (sym same) ∙ operands_of_at types.live from from_within line.access ∙ ap (option_map (operands_at from)) of.are in
      cc

  laid : laid_of call ≡ layouts_in maps k (many types.origins k it) it
  laid = ap laid_of of.is ∙ laid_in_call types.origins line it ∙ ap (λ n. layouts_in maps k n it) count_is

  stay : leave_space maps k (many types.origins k it) it ≡ false
  stay = stays types.origins k it (at_target_none types.origins k it types.committed line.target targets of.good)

  kinds : kind_of line_there.access ≡ k
  kinds = kind_of_at to line.access

  counts_there : many types.origins k it ≡ moved_count maps k (Some to.target) (operands_at to it)
  counts_there = sym (count_at to it maps k)

  laid_there : laid_of moved ≡ layouts_in maps k (moved_count maps k (Some to.target) (operands_at to it)) (operands_at to it)
  laid_there = laid_at maps k (many types.origins k it) it from to at_from (laid_of call) (laid_of moved) laid is.at_target is.origin is.result is.compare stay ∙ ap (λ n. layouts_in maps k n (operands_at to it)) counts_there

  call_there : moved ≡ rma_call_of types.origins line_there (operands_at to it)
  call_there =
      same_call moved (Some to.target) to.displacement is.target is.displacement
      ∙ call_is types.origins line_there (operands_at to it) moved.kind moved.window (laid_of moved) (is.window ∙ ap (λ (c : RmaCall). c.window) of.is ∙ window_in_call types.origins line it)
      (is.kind ∙ ap (λ (c : RmaCall). c.kind) of.is ∙ kind_in_call types.origins line it ∙ sym kinds)
      (laid_there ∙ ap (λ j. layouts_in maps j (moved_count maps j (Some to.target) (operands_at to it)) (operands_at to it))
      (sym (is.kind ∙ ap (λ (c : RmaCall). c.kind) of.is ∙ kind_in_call types.origins line it)))

  pub of_there : IsRmaCallOf types line_there moved
  of_there = record {
    operands = operands_at to it;
    are = operands_of_at types.live to to_within line.access ∙ ap (option_map (operands_at to)) of.are;
    is = call_there;
    good = subst (λ j. buffers_reason types.origins types.committed j (Some to.target) (operands_at to it) ≡ None) (sym kinds)
        (good_at types.origins k it types.committed line.target targets of.good to (space_at maps k (many types.origins k it) it from to at_from (laid_of call) (laid_of moved) laid is.at_target is.origin is.result is.compare stay));
  }

pub call_elsewhere : (call moved : RmaCall) (from_numbers to_numbers : List ℕ) (from to : Place) → IsPlaceOf call.kind from_numbers from → IsPlaceOf call.kind to_numbers to → IsMovedCall from to call moved → IsRmaCallElsewhere call from_numbers to_numbers moved
call_elsewhere call moved from_numbers to_numbers from to f t is = λ types line same of.
    let kind_is : call.kind ≡ kind_of line.access = ap (λ (c : RmaCall). c.kind) of.is ∙ kind_in_call types.origins line of.operands in
    let from_are : from_numbers ≡ numbers_of (kind_of line.access) from = f.are ∙ ap (λ k. numbers_of k from) kind_is in
    let to_are : to_numbers ≡ numbers_of (kind_of line.access) to = t.are ∙ ap (λ k. numbers_of k to) kind_is in
    subst (λ xs. IsRmaCallOf types (line_at line xs) moved) (sym to_are)
    (of_there types line call moved of from to f.within t.within (subst (λ xs. line_at line xs ≡ line) from_are same) is)

-- so does whatever was found
pub placed_elsewhere : (found : Option Placement) (call : RmaCall) (from_numbers to_numbers : List ℕ) (from to : Place) → IsPlaceOf call.kind from_numbers from → IsPlaceOf call.kind to_numbers to →
    IfSome found (λ place. IsMovedCall from to call (placed call place)) → IfSome found (λ place. IsRmaCallElsewhere call from_numbers to_numbers (placed call place))
placed_elsewhere (Some place) call from_numbers to_numbers from to f t is = call_elsewhere call (placed call place) from_numbers to_numbers from to f t is
placed_elsewhere None call from_numbers to_numbers from to f t is = tt

-- ---- a local access at another address

module _ (types : Table) (line : LocalLine) (call moved : LocalCall) (of : IsLocalCallOf types line call) (from to : ℕ) (from_within : from ≤ address_limit) (to_within : to ≤ address_limit)
    (same : local_at line (from ∷ []) ≡ line) (is : IsMovedLocal from to call moved) where
  abbrev all : List Typemap
  all = typemaps types.origins

  abbrev memory : Operand
  memory = of.memory

  abbrev number : ℕ
  number = entries_in all memory

  layout_is : call.layout ≡ layout_in all number memory
  unfolding local_call_of
  layout_is = ap (λ (c : LocalCall). c.layout) of.is

  access_is : call.access ≡ line.access
  unfolding local_call_of
  access_is = ap (λ (c : LocalCall). c.access) of.is

  address_is : memory.address ≡ from
  address_is =
      let both : Some memory ≡ Some (at from memory) =
      sym of.is_memory ∙ ap (λ (l : LocalLine). operand_of types.live l.buffer) (sym same) ∙ operand_at_other types.live line.buffer from from_within ∙ ap (option_map (at from)) of.is_memory in
      let one : memory ≡ at from memory = cc in
      ap (λ (o : Operand). o.address) one

  not_refused : refusal Local (touched_in all number memory) number ≡ None
  unfolding memory_reason
  not_refused = no_reason (refusal Local (touched_in all number memory) number) of.good
    where
      no_reason : (o : Option LayoutFault) → option_map layout_reason o ≡ None → o ≡ None
      no_reason None h = refl
      no_reason (Some fault) h = absurd (cc)

  in_space : is_all_in Local (touched_in all number memory) ≡ true
  in_space = all_in Local (touched_in all number memory) number not_refused

  there_in_space : is_all_in Local (touched_in all number (at to memory)) ≡ true
  there_in_space = in_space_at all number memory from to address_is in_space call.layout moved.layout layout_is is.layout

  refusal_there : refusal Local (touched_in all number (at to memory)) number ≡ refusal Local (touched_in all number memory) number
  unfolding refusal
  refusal_there =
      ap₂ (λ (b : ℕ) (i : Bool). first_fault (nat_lt element_limit number) (nat_lt block_limit b) (not i)) (blocks_at all number memory to) (there_in_space ∙ sym in_space)

  memory_good_there : memory_reason types.origins (at to memory) ≡ None
  unfolding memory_reason
  memory_good_there = ap (option_map layout_reason) (refusal_there ∙ not_refused)

  same_local : (a : LocalAccess) (l : Layout) → moved.access ≡ a → moved.layout ≡ l → moved ≡ record { access = a; layout = l }
  same_local a l h i = rw (← h, ← i) refl

  local_there : moved ≡ local_call_of types.origins line.access (at to memory)
  unfolding local_call_of
  local_there =
      same_local line.access (layout_in all number (at to memory)) (is.access ∙ access_is)
      (layout_at all number memory from to address_is in_space call.layout moved.layout layout_is is.layout)

  pub local_of_there : IsLocalCallOf types (local_at line (to ∷ [])) moved
  local_of_there = record {
    memory = at to memory;
    is_memory = operand_at_other types.live line.buffer to to_within ∙ ap (option_map (at to)) of.is_memory;
    is = local_there;
    good = memory_good_there;
  }

pub access_elsewhere : (call moved : LocalCall) (from_numbers to_numbers : List ℕ) (from to : ℕ) → from_numbers ≡ from ∷ [] → to_numbers ≡ to ∷ [] → from ≤ address_limit → to ≤ address_limit → IsMovedLocal from to call moved
    → IsLocalCallElsewhere call from_numbers to_numbers moved
access_elsewhere call moved from_numbers to_numbers from to f t from_within to_within is = λ types line same of.
    subst (λ xs. IsLocalCallOf types (local_at line xs) moved) (sym t)
    (local_of_there types line call moved of from to from_within to_within (subst (λ xs. local_at line xs ≡ line) f same) is)

pub accesses_elsewhere : {E : Type 0} (result : Result (Option LocalCall) E) (call : LocalCall) (from_numbers to_numbers : List ℕ) (from to : ℕ) → from_numbers ≡ from ∷ [] → to_numbers ≡ to ∷ [] → from ≤ address_limit → to ≤ address_limit →
    IfOk result (λ found. IfSome found (IsMovedLocal from to call)) → IfOk result (λ found. IfSome found (IsLocalCallElsewhere call from_numbers to_numbers))
accesses_elsewhere (Ok (Some moved)) call from_numbers to_numbers from to f t from_within to_within is = access_elsewhere call moved from_numbers to_numbers from to f t from_within to_within is
accesses_elsewhere (Ok None) call from_numbers to_numbers from to f t from_within to_within is = tt
accesses_elsewhere (Err error) call from_numbers to_numbers from to f t from_within to_within is = tt
