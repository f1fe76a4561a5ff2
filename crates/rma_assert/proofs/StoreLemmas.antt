-- Stores, and the calls behind them that publish.
use Rattle.std.proofs.Common.{◌≡◌, ◌+◌, ◌<◌, ◌≤◌, ℕ, Bool, true, false, cond, List, length, map, get_or, Some, None, option_map, slice_get, inl, inr, ◌⊎◌, refl, sym, ap, subst, ◌∙◌, arith, ⊎_elim}
use Rattle.std.specs.Prelude.{Contains}
use Rattle.std.specs.List.Sorted.{IsStrictlyIncreasing}
use Rattle.std.specs.Option.{option_and_then}
use Rattle.std.proofs.lemmas.Bool.{cases_lt}
use Rattle.std.proofs.lemmas.Option.{get_or_from_slice_get, none-some, option_and_then_some, same_Some, slice_get_within}
use Rattle.rma_base.proofs.RankSetLemmas.{rises_to}
use Rattle.rma_base.specs.declared.rank.Rank.{Rank}
use Rattle.rma_rules.specs.Access.{Access}
use Rattle.rma_rules.specs.Spans.{Spans, publishing_of}
use Rattle.rma_base.specs.declared.line.LineNo.{LineNo}
use Rattle.rma_bytes.specs.Runs.{moved}
use Rattle.rma_call.specs.Call.{Call, RankCalls}
use Rattle.rma_call.specs.declared.rma.RmaCall.{RmaCall}
use Rattle.rma_call.specs.declared.rma.RmaKind.{RmaKind}
use Rattle.rma_call.specs.declared.rma.RmaKind.TheVariants as rma
use Rattle.rma_call.specs.declared.what.What.{What}
use Rattle.rma_call.specs.declared.what.What.TheVariants.{Local, Rma, Sync}
use Rattle.rma_open.specs.Calls.{part_on}
use Rattle.rma_open.specs.Range.{touches_outside}
use Rattle.rma_rules.specs.Kind.{is_store}
use Rattle.rma_rules.specs.declared.access_name.Role.{Role}
use Rattle.rma_rules.specs.declared.access_name.Role.TheVariants as role
use Rattle.rma_rules.specs.declared.kind.Kind.TheVariants.{BufferRead}
use Rattle.rma_touch.specs.Touch.{Touch, kind_at_target}
use Rattle.rma_touch.specs.Touches.{Span, access_with, buffer_touch, has_none, if_any, own_touch, start_in, target_touch, touch_at, touch_in}
use Rattle.rma_span.specs.Span.{Origin, access_of, accesses, accesses_of, origin_of, span_of, spanned_calls}
use Rattle.rma_window.specs.declared.part.Part.{Part}
use Rattle.rma_window.specs.declared.window_id.WindowId.{WindowId}
use Rattle.rma_run.specs.Run.{IsRun, calls_of}
use Rattle.rma_run.proofs.CallLemmas.{calls_are_own}
use Rattle.rma_run.proofs.ContainLemmas.{flat_map_has}
use Rattle.rma_points.proofs.AccessLemmas.{is_of_run}
use Rattle.rma_rules.specs.Share.{MeetsPart}
use Rattle.rma_accesses.proofs.RankLemmas.{made_by_rank}
use Rattle.rma_window.specs.Windows.{Window, number_of, part_in, window_of}
use Rattle.rma_concurrent.specs.inside.Places.{HasMore}
use Rattle.rma_concurrent.proofs.ListLemmas.{contained, more_more, more_none, more_same, place_of}
use Rattle.rma_assert.specs.declared.assertion.BrokenAssertion.{BrokenAssertion}
use Rattle.rma_assert.specs.declared.publishing.Publishing.{Publishing}
use Rattle.rma_assert.specs.Stores.{IsByStore, IsDoneBy, IsNostoreBroken}
use Rattle.rma_assert.specs.inside.Gathered.{IsAtPlace, IsUpTo}
use Rattle.rma_assert.specs.inside.Stored.{IsStored, IsStoredAt, IsStoredBy, IsStoredIn, IsStoredOf, SaysNostore}
use Rattle.rma_assert.specs.inside.Updated.{IsOfIndex}
use Rattle.rma_assert.proofs.GatherLemmas.{up_to_all}
use Rattle.rma_assert.proofs.UpdateLemmas.{any_is, made_in, mapped}

pub done_later : (access : Access) (v w : ℕ) → v ≤ w → IsDoneBy access v → IsDoneBy access w
done_later access v w le done = let by = done.by in record { point = done.point; done = done.done; by = omega arith }

module _ (calls : List ℕ) (up : IsStrictlyIncreasing calls) where
  pub at_most : (i j a b : ℕ) → i ≤ j → slice_get calls i ≡ Some a → slice_get calls j ≡ Some b → a ≤ b
  at_most i j a b le here there =
      let rise = rises_to calls up i j le (slice_get_within calls j b there) in
      let first : get_or calls i 0 ≡ a = get_or_from_slice_get calls i a 0 here in
      let second : get_or calls j 0 ≡ b = get_or_from_slice_get calls j b 0 there in
      omega (arith, rise, first, second)

  pub below : (i j a b : ℕ) → i < j → slice_get calls i ≡ Some a → slice_get calls j ≡ Some b → a < b
  below i j a b less here there =
      let within = slice_get_within calls j b there in
      let step = up i (omega (arith, less, within)) in
      let rise = rises_to calls up (i + 1) j (omega arith) within in
      let first : get_or calls i 0 ≡ a = get_or_from_slice_get calls i a 0 here in
      let second : get_or calls j 0 ≡ b = get_or_from_slice_get calls j b 0 there in
      omega (arith, step, rise, first, second)

  pub place_below : (i j a b : ℕ) → a < b → slice_get calls i ≡ Some a → slice_get calls j ≡ Some b → i < j
  place_below i j a b less here there =
      ⊎_elim (λ (before : i < j). before) (λ (le : j ≤ i). let other = at_most j i b a le there here in absurd (omega (arith, other, less))) (cases_lt i j)

module _ (windows : List Window) (given : Publishing) (access : Access) (up : IsStrictlyIncreasing given.published.now) where
  -- no call before the first that comes behind the store is reported
  pub none_before : (first : ℕ) → ((k : ℕ) → k < first → get_or given.published.now k 0 < access.call + 1) → (a : List BrokenAssertion)
      → HasMore (IsUpTo (IsAtPlace (IsStored windows given access) given.published.now) first) a a
  none_before first before a =
      more_none a
      (λ x found.
      let at = found.is in
      let less = before found.number found.below in
      let earlier = at.is.earlier in
      let is : get_or given.published.now found.number 0 ≡ at.element = get_or_from_slice_get given.published.now found.number at.element 0 at.there in
      omega (arith, less, earlier, is))

  -- those that are asked are all, where none behind them is reported
  pub all_calls : (place : ℕ) (a b : List BrokenAssertion) → ((k n : ℕ) (x : BrokenAssertion) → place ≤ k → slice_get given.published.now k ≡ Some n → IsStored windows given access n x → ⊥)
      → HasMore (IsUpTo (IsAtPlace (IsStored windows given access) given.published.now) place) a b → HasMore (IsStoredBy windows given access) a b
  all_calls place a b none more =
      more_same a b more
      (λ x found. (found.is.element, found.is.is))
      (λ x (n, st).
      let at = place_of given.published.now n st.publishes in
      ⊎_elim
      (λ (before : at.0 < place). record { number = at.0; below = before; is = record { element = n; there = at.1; is = st } })
      (λ (behind : place ≤ at.0). absurd (none at.0 n x behind at.1 st))
      (cases_lt at.0 place))

  -- none is reported behind a call by which the store was done
  pub none_behind : (k v : ℕ) → slice_get given.published.now k ≡ Some v → IsDoneBy access v → (place : ℕ) → k < place → (j n : ℕ) (x : BrokenAssertion) → place ≤ j → slice_get given.published.now j ≡ Some n
      → IsStored windows given access n x → ⊥
  none_behind k v there done place less j n x le at st = st.since v (contained given.published.now k v there) (below given.published.now up k j v n (omega arith) there at) done

-- ---- the role in which a store is made

target_no_store : (own : RmaKind) → is_store (kind_at_target own) ≡ false
target_no_store rma.Put = refl
target_no_store rma.Get = refl
target_no_store (rma.Accumulate op) = refl
target_no_store (rma.GetAccumulate op) = refl
target_no_store (rma.FetchAndOp op) = refl
target_no_store rma.CompareAndSwap = refl

module _ (windows : List Window) (rank : Rank) (touch : Touch) (stores : is_store touch.kind ≡ true) where
  compare_none : (access : RmaCall) → buffer_touch rank role.Compare BufferRead access access.compare ≡ Some touch → ⊥
  compare_none access is =
      option_and_then_some (λ (target : Rank). option_and_then (own_touch rank role.Compare BufferRead) access.compare) access.target touch is
      (λ target aims at.
      option_and_then_some (own_touch rank role.Compare BufferRead) access.compare touch at
      (λ layout has touches.
      let given : Touch = record { role = role.Compare; memory = rank; runs = layout.runs; kind = BufferRead; window = None; element = None } in
      let same = ap is_store (any_is (has_none layout.runs) given touch touches) in
      cc))

  in_none : (part : Part) (id : WindowId) (target : Rank) (access : RmaCall) → touch_in part id target access ≡ Some touch → ⊥
  in_none part id target access is = by (touches_outside part access.displacement access.at_target.runs) is
    where
      given : Touch
      given = record {
        role = role.Target;
        memory = target;
        runs = map (moved (start_in part access.displacement)) access.at_target.runs;
        kind = kind_at_target access.kind;
        window = Some id;
        element = access.at_target.element;
      }

      by : (b : Bool) → cond b None (if_any given) ≡ Some touch → ⊥
      by true at = none-some touch at
      by false at = let same = ap is_store (any_is (has_none given.runs) given touch at) in let never = target_no_store access.kind in cc

  target_none : (access : RmaCall) → target_touch windows access ≡ Some touch → ⊥
  target_none access is =
      option_and_then_some (λ (target : Rank). option_and_then (λ id. option_and_then (λ part. touch_in part id target access) (part_on windows (Rma access))) (number_of windows access.window)) access.target touch is
      (λ target aims at.
      option_and_then_some (λ (id : WindowId). option_and_then (λ part. touch_in part id target access) (part_on windows (Rma access))) (number_of windows access.window) touch at
      (λ id numbered also. option_and_then_some (λ (part : Part). touch_in part id target access) (part_on windows (Rma access)) touch also (λ part has touches. in_none part id target access touches)))

  no_target : (does : What) → touch_at windows rank does role.Target ≡ Some touch → ⊥
  no_target (Local local) is = none-some touch is
  no_target (Rma access) is = target_none access is
  no_target (Sync sync) is = none-some touch is

  no_compare : (does : What) → touch_at windows rank does role.Compare ≡ Some touch → ⊥
  no_compare (Local local) is = none-some touch is
  no_compare (Rma access) is = compare_none access is
  no_compare (Sync sync) is = none-some touch is

module _ (own : Origin) (number : ℕ) (call : Call) (at : Role) (a : Access) (is : access_of own number call at ≡ Some a) where
  touched : (touch : Touch) × (touch_at own.windows own.rank call.what at ≡ Some touch) × ((span : Span) × (access_with own.rank number call touch span ≡ a))
  touched =
      option_and_then_some (λ (touch : Touch). option_map (access_with own.rank number call touch) (span_of own number call at)) (touch_at own.windows own.rank call.what at) a is
      (λ touch touches made. (touch, touches, mapped (access_with own.rank number call touch) (span_of own number call at) a made))

  pub made_rank : a.name.rank ≡ own.rank
  made_rank = ap (λ (it : Access). it.name.rank) (sym touched.2.1)

  kind_is : touched.0.kind ≡ a.kind
  kind_is = ap (λ (it : Access). it.kind) touched.2.1

not_at_target : (own : Origin) (number : ℕ) (call : Call) (a : Access) → access_of own number call role.Target ≡ Some a → is_store a.kind ≡ true → ⊥
not_at_target own number call a is stores =
    let one = touched own number call role.Target a is in
    no_target own.windows own.rank one.0 (ap is_store (kind_is own number call role.Target a is) ∙ stores) call.what one.1

not_compared : (own : Origin) (number : ℕ) (call : Call) (a : Access) → access_of own number call role.Compare ≡ Some a → is_store a.kind ≡ true → ⊥
not_compared own number call a is stores =
    let one = touched own number call role.Compare a is in
    no_compare own.windows own.rank one.0 (ap is_store (kind_is own number call role.Compare a is) ∙ stores) call.what one.1

module _ (windows : List Window) (ranks : List RankCalls) (own : RankCalls) (given : Publishing) where
  abbrev Of : ℕ → Role → BrokenAssertion → Type 0
  Of index at x = IsOfIndex ranks own at (IsStoredBy windows given) index x

  pub more_roles : (index : ℕ) (a b c d : List BrokenAssertion) → HasMore (IsOfIndex ranks own role.Local (IsStoredBy windows given) index) a b → HasMore (IsOfIndex ranks own role.Origin (IsStoredBy windows given) index) b c
      → HasMore (IsOfIndex ranks own role.Result (IsStoredBy windows given) index) c d → HasMore (IsStoredAt windows ranks own given index) a d
  more_roles index a b c d one two three =
      more_more a c d
      (more_more a b c one two (λ x is. is) (λ x is. inl is) (λ x is. inr is))
      three
      (λ x (at, found). by at x found)
      (λ x is. ⊎_elim (λ (local : Of index role.Local x). (role.Local, local)) (λ (origin : Of index role.Origin x). (role.Origin, origin)) is)
      (λ x is. (role.Result, is))
    where
      by : (at : Role) (x : BrokenAssertion) → IsOfIndex ranks own at (IsStoredBy windows given) index x
          → (IsOfIndex ranks own role.Local (IsStoredBy windows given) index x ⊎ IsOfIndex ranks own role.Origin (IsStoredBy windows given) index x) ⊎ IsOfIndex ranks own role.Result (IsStoredBy windows given) index x
      by role.Local x found = inl (inl found)
      by role.Target x found = absurd (not_at_target (origin_of ranks own) found.number found.call found.access found.made found.is.1.stores)
      by role.Origin x found = inl (inr found)
      by role.Result x found = inr found
      by role.Compare x found = absurd (not_compared (origin_of ranks own) found.number found.call found.access found.made found.is.1.stores)

  pub more_of_calls : (count : ℕ) (a b : List BrokenAssertion) → length (spanned_calls (origin_of ranks own)) ≤ count → HasMore (IsUpTo (IsStoredAt windows ranks own given) count) a b
      → HasMore (λ x. (index : ℕ) × IsStoredAt windows ranks own given index x) a b
  more_of_calls count a b all more =
      up_to_all (IsStoredAt windows ranks own given) count a b (λ x n below is. (n, is))
      (λ x (index, (at, found)). let within = slice_get_within (spanned_calls (origin_of ranks own)) index found.number found.number_is in (index, omega arith, (at, found)))
      more

  -- none is reported where no call that publishes says `nostore`
  pub none_says : (a : List BrokenAssertion) → ((number : ℕ) (line : LineNo) → Contains given.published.now number → SaysNostore given.calls.now.calls number line → ⊥)
      → HasMore (λ x. (index : ℕ) × IsStoredAt windows ranks own given index x) a a
  none_says a none =
      more_none a
      (λ x (index, (at, found)).
      let st = found.is.1 in
      none found.is.0 x.line st.publishes (record { call = st.asserting; there = st.asserting_is; says = st.says; line_is = st.line }))

  -- ---- a window, a rank, and a run

  abbrev For : Rank → List Call → List ℕ → WindowId → BrokenAssertion → Type 0
  For r l p w x = (index : ℕ) × ((at : Role) × IsOfIndex ranks own at (IsByStore windows r l p w) index x)

  pub more_of_window : (spans : Spans) (window : ℕ) (a b : List BrokenAssertion) → given.window ≡ record { 0 = window } → given.rank ≡ own.rank → given.calls.now.calls ≡ own.calls
      → given.published.now ≡ publishing_of spans own.rank (record { 0 = window }) → HasMore (λ x. (index : ℕ) × IsStoredAt windows ranks own given index x) a b → HasMore (IsStoredIn windows spans ranks own window) a b
  more_of_window spans window a b window_is rank calls published more =
      subst (λ (w : WindowId). HasMore (For own.rank own.calls (publishing_of spans own.rank (record { 0 = window })) w) a b) window_is
      (subst (λ (p : List ℕ). HasMore (For own.rank own.calls p given.window) a b) published
      (subst (λ (l : List Call). HasMore (For own.rank l given.published.now given.window) a b) calls
      (subst (λ (r : Rank). HasMore (For r given.calls.now.calls given.published.now given.window) a b) rank more)))

meets_within : (windows : List Window) (a : Access) (id : WindowId) → MeetsPart windows a (Some id) → id.0 < length windows
unfolding MeetsPart
meets_within windows a id is =
    let same : is.0 ≡ id = sym (same_Some id is.0 is.2) in
    subst (λ (w : WindowId). w.0 < length windows) same (option_and_then_some (part_in a.memory) (window_of windows is.0) is.1 is.3 (λ found there at. slice_get_within windows is.0.0 found there))

module _ (windows : List Window) (spans : Spans) (ranks : List RankCalls) where
  pub more_of_rank : (own : RankCalls) (count : ℕ) (a b : List BrokenAssertion) → length windows ≤ count → HasMore (IsUpTo (IsStoredIn windows spans ranks own) count) a b → HasMore (IsStoredOf windows spans ranks own) a b
  more_of_rank own count a b all more =
      up_to_all (IsStoredIn windows spans ranks own) count a b (λ x n below is. (n, is))
      (λ x (window, (index, (at, found))).
      let within = meets_within windows found.access (record { 0 = window }) found.is.1.meets in
      (window, omega (arith, within, all), (index, (at, found))))
      more

  pub all_stores : IsRun ranks → (a b : List BrokenAssertion) → HasMore (λ x. (own : RankCalls) × Contains ranks own × IsStoredOf windows spans ranks own x) a b
      → HasMore (IsNostoreBroken windows spans (calls_of ranks) (accesses ranks)) a b
  all_stores run a b more = more_same a b more to of
    where
      to : (x : BrokenAssertion) → (own : RankCalls) × Contains ranks own × IsStoredOf windows spans ranks own x → IsNostoreBroken windows spans (calls_of ranks) (accesses ranks) x
      to x (own, has, (window, (index, (at, found)))) =
          let id : WindowId = record { 0 = window } in
          let made = made_by_rank (origin_of ranks own) found.number found.call at found.access found.call_is found.made in
          let own_calls = calls_are_own ranks own run.in_order has in
          let first = subst (λ (l : List Call). IsByStore windows own.rank l (publishing_of spans own.rank id) id found.access x) (sym own_calls) found.is in
          let second = subst (λ (r : Rank). IsByStore windows r (calls_of ranks r.0) (publishing_of spans r id) id found.access x) (sym found.is.1.rank_is) first in
          (found.access, flat_map_has (λ (r : RankCalls). accesses_of (origin_of ranks r)) ranks own found.access has made, (id, second))

      of : (x : BrokenAssertion) → IsNostoreBroken windows spans (calls_of ranks) (accesses ranks) x → (own : RankCalls) × Contains ranks own × IsStoredOf windows spans ranks own x
      of x (access, has, (window, is)) =
          let one = is_of_run ranks access has in
          let own = one.own in
          let at = made_in (origin_of ranks own) access one.made in
          let rank : x.rank ≡ own.rank = sym is.1.own ∙ made_rank (origin_of ranks own) at.number at.call at.role access at.made in
          let first = subst (λ (r : Rank). IsByStore windows r (calls_of ranks r.0) (publishing_of spans r window) window access x) rank is in
          let second = subst (λ (l : List Call). IsByStore windows own.rank l (publishing_of spans own.rank window) window access x) (calls_are_own ranks own run.in_order one.of_run) first in
          (own, one.of_run, (window.0, (at.index, (at.role, record { number = at.number; number_is = at.number_is; call = at.call; call_is = at.call_is; access = access; made = at.made; is = second }))))
