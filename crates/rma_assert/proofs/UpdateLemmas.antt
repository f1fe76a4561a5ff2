-- Updates, and the calls that open the exposures in which they are made.
use Rattle.std.proofs.Common.{◌≡◌, ◌≤◌, ℕ, zero, suc, Bool, true, false, cond, List, [], ◌∷◌, length, map, Option, Some, None, option_map, slice_get, refl, sym, ap, subst, ◌∙◌, arith}
use Rattle.std.specs.Prelude.{Contains}
use Rattle.std.specs.Option.{option_and_then, option_map_or}
use Rattle.std.proofs.lemmas.Option.{none-some, option_and_then_some, same_Some, slice_get_within}
use Rattle.rma_base.specs.declared.rank.Rank.{Rank}
use Rattle.rma_bytes.specs.Layout.{Layout}
use Rattle.rma_call.specs.Call.{Call, RankCalls}
use Rattle.rma_call.specs.declared.local.LocalAccess.{LocalAccess}
use Rattle.rma_call.specs.declared.local.LocalAccess.TheVariants as local
use Rattle.rma_call.specs.declared.rma.RmaCall.{RmaCall}
use Rattle.rma_call.specs.declared.rma.RmaKind.{RmaKind}
use Rattle.rma_call.specs.declared.rma.RmaKind.TheVariants as rma
use Rattle.rma_call.specs.declared.what.What.{What}
use Rattle.rma_call.specs.declared.what.What.TheVariants.{Local, Rma, Sync}
use Rattle.rma_link.specs.declared.meet.Member.{Member}
use Rattle.rma_run.specs.Run.{calls_of}
use Rattle.rma_run.proofs.ContainLemmas.{flat_map_has, in_filter_map, in_flat_map}
use Rattle.rma_window.specs.Windows.{Window}
use Rattle.rma_rules.specs.Access.{Access}
use Rattle.rma_rules.specs.Kind.{is_update}
use Rattle.rma_rules.specs.declared.access_name.Role.{Role}
use Rattle.rma_rules.specs.declared.access_name.Role.TheVariants as role
use Rattle.rma_rules.specs.declared.kind.Kind.{Kind}
use Rattle.rma_rules.specs.declared.kind.Kind.TheVariants.{BufferRead, BufferWrite}
use Rattle.rma_touch.specs.Touch.{Touch, kind_at_origin, kind_of_local}
use Rattle.rma_touch.specs.Touches.{access_with, buffer_touch, has_none, own_touch, roles, touch_at}
use Rattle.rma_span.specs.Span.{Origin, access_of, accesses, accesses_at, accesses_of, call_accesses, origin_of, span_of, spanned_calls}
use Rattle.rma_span.proofs.ListedLemmas.{all_accesses}
use Rattle.rma_points.proofs.AccessLemmas.{is_of_run}
use Rattle.rma_accesses.specs.declared.rank.RankAccesses.{RankAccesses}
use Rattle.rma_accesses.specs.inside.Kept.{rank_of}
use Rattle.rma_accesses.proofs.RankLemmas.{made_by_rank}
use Rattle.rma_concurrent.specs.inside.Places.{HasMore}
use Rattle.rma_concurrent.proofs.ListLemmas.{contained, more_none, more_same, place_of}
use Rattle.rma_assert.specs.declared.assertion.BrokenAssertion.{BrokenAssertion}
use Rattle.rma_assert.specs.Updates.{IsNoputBroken, IsUpdatedIn}
use Rattle.rma_assert.specs.inside.Gathered.{IsUpTo}
use Rattle.rma_assert.specs.inside.Updated.{IsOfIndex, IsOfTargetAt, IsOfUpdates, SaysNoput}
use Rattle.rma_assert.proofs.GatherLemmas.{up_to_all}

-- ---- an update is made at a target

pub any_is : (b : Bool) (given found : Touch) → cond b None (Some given) ≡ Some found → found.kind ≡ given.kind
any_is true given found is = absurd (none-some found is)
any_is false given found is = ap (λ (t : Touch). t.kind) (sym (same_Some given found is))

local_no_update : (own : LocalAccess) → is_update (kind_of_local own) ≡ false
local_no_update local.Load = refl
local_no_update local.Store = refl
local_no_update local.Poll = refl

origin_no_update : (own : RmaKind) → is_update (kind_at_origin own) ≡ false
origin_no_update rma.Put = refl
origin_no_update rma.Get = refl
origin_no_update (rma.Accumulate op) = refl
origin_no_update (rma.GetAccumulate op) = refl
origin_no_update (rma.FetchAndOp op) = refl
origin_no_update rma.CompareAndSwap = refl

module _ (windows : List Window) (rank : Rank) (touch : Touch) (updates : is_update touch.kind ≡ true) where
  own_none : (own : Role) (kind : Kind) (layout : Layout) → is_update kind ≡ false → own_touch rank own kind layout ≡ Some touch → ⊥
  own_none own kind layout never is =
      let given : Touch = record { role = own; memory = rank; runs = layout.runs; kind = kind; window = None; element = None } in
      let same = ap is_update (any_is (has_none layout.runs) given touch is) in
      cc

  buffer_none : (own : Role) (kind : Kind) (access : RmaCall) (buffer : Option Layout) → is_update kind ≡ false → buffer_touch rank own kind access buffer ≡ Some touch → ⊥
  buffer_none own kind access buffer never is =
      option_and_then_some (λ (target : Rank). option_and_then (own_touch rank own kind) buffer) access.target touch is
      (λ target aims at. option_and_then_some (own_touch rank own kind) buffer touch at (λ layout has touches. own_none own kind layout never touches))

  at_target : (does : What) (own : Role) → touch_at windows rank does own ≡ Some touch → own ≡ role.Target
  at_target (Local local) role.Local is = absurd (own_none role.Local (kind_of_local local.access) local.layout (local_no_update local.access) is)
  at_target (Local local) role.Target is = refl
  at_target (Local local) role.Origin is = absurd (none-some touch is)
  at_target (Local local) role.Result is = absurd (none-some touch is)
  at_target (Local local) role.Compare is = absurd (none-some touch is)
  at_target (Rma access) role.Local is = absurd (none-some touch is)
  at_target (Rma access) role.Target is = refl
  at_target (Rma access) role.Origin is = absurd (buffer_none role.Origin (kind_at_origin access.kind) access access.origin (origin_no_update access.kind) is)
  at_target (Rma access) role.Result is = absurd (buffer_none role.Result BufferWrite access access.result refl is)
  at_target (Rma access) role.Compare is = absurd (buffer_none role.Compare BufferRead access access.compare refl is)
  at_target (Sync sync) role.Local is = absurd (none-some touch is)
  at_target (Sync sync) role.Target is = refl
  at_target (Sync sync) role.Origin is = absurd (none-some touch is)
  at_target (Sync sync) role.Result is = absurd (none-some touch is)
  at_target (Sync sync) role.Compare is = absurd (none-some touch is)

pub mapped : {X Y : Type 0} (f : X → Y) (o : Option X) (y : Y) → option_map f o ≡ Some y → (x : X) × (f x ≡ y)
mapped f None y is = absurd (none-some y is)
mapped f (Some x) y is = (x, same_Some (f x) y is)

update_role : (own : Origin) (number : ℕ) (call : Call) (at : Role) (a : Access) → access_of own number call at ≡ Some a → is_update a.kind ≡ true → at ≡ role.Target
update_role own number call at a is updates =
    option_and_then_some (λ (touch : Touch). option_map (access_with own.rank number call touch) (span_of own number call at)) (touch_at own.windows own.rank call.what at) a is
    (λ touch touches made.
    let span = mapped (access_with own.rank number call touch) (span_of own number call at) a made in
    at_target own.windows own.rank touch (ap (λ (it : Access). is_update it.kind) span.1 ∙ updates) call.what at touches)

-- ---- the accesses of a rank

-- an access is made by the call at an index among those that access memory, in some role
pub record IsMadeIn (own : Origin) (a : Access) : Type 0 where
  pub index : ℕ
  pub number : ℕ
  pub number_is : slice_get (spanned_calls own) index ≡ Some number
  pub call : Call
  pub call_is : slice_get own.sound number ≡ Some call
  pub role : Role
  pub made : access_of own number call role ≡ Some a

pub made_in : (own : Origin) (a : Access) → Contains (accesses_of own) a → IsMadeIn own a
made_in own a has = by (slice_get own.sound one.0) refl one.2
  where
    one : (number : ℕ) × Contains (spanned_calls own) number × Contains (accesses_at own number) a
    one = in_flat_map (accesses_at own) (spanned_calls own) a (subst (λ (l : List Access). Contains l a) (all_accesses own) has)

    by : (o : Option Call) → slice_get own.sound one.0 ≡ o → Contains (option_map_or (call_accesses own one.0) o []) a → IsMadeIn own a
    by None is of = absurd (let less = of.1 in omega arith)
    by (Some call) is of =
        let place = place_of (spanned_calls own) one.0 one.1 in
        let among = in_filter_map (access_of own one.0 call) roles a of in
        record { index = place.0; number = one.0; number_is = place.1; call = call; call_is = is; role = among.0; made = among.2 }

made_at_target : (own : Origin) (a : Access) (made : IsMadeIn own a) → is_update a.kind ≡ true → access_of own made.number made.call role.Target ≡ Some a
made_at_target own a made updates =
    subst (λ r. access_of own made.number made.call r ≡ Some a) (update_role own made.number made.call made.role a made.made updates) made.made

pub more_of_updates : (ranks : List RankCalls) (own : RankCalls) (count : ℕ) (a b : List BrokenAssertion) → length (spanned_calls (origin_of ranks own)) ≤ count → HasMore (IsUpTo (IsOfTargetAt ranks own) count) a b
    → HasMore (IsOfUpdates ranks own) a b
more_of_updates ranks own count a b all more =
    up_to_all (IsOfTargetAt ranks own) count a b (λ x n below is. (n, is))
    (λ x found. let within = slice_get_within (spanned_calls (origin_of ranks own)) found.0 found.1.number found.1.number_is in (found.0, omega arith, found.1))
    more

-- what is mapped to a list is mapped from one
unmapped : {X Y : Type 0} (f : X → Y) (xs : List X) (i : ℕ) (y : Y) → slice_get (map f xs) i ≡ Some y → (x : X) × (slice_get xs i ≡ Some x) × (f x ≡ y)
unmapped f [] i y at = absurd (let less = slice_get_within [] i y at in omega (arith, less))
unmapped f (x ∷ xs) zero y at = (x, refl, same_Some (f x) y at)
unmapped f (x ∷ xs) (suc i) y at = unmapped f xs i y at

module _ (ranks : List RankCalls) (owns : List RankAccesses) (same : map rank_of owns ≡ ranks) where
  pub rank_of_run : (i : ℕ) (own : RankAccesses) → slice_get owns i ≡ Some own → Contains ranks (rank_of own)
  rank_of_run i own at = subst (λ (l : List RankCalls). Contains l (rank_of own)) same (contained (map rank_of owns) i (rank_of own) (there owns i at))
    where
      there : (xs : List RankAccesses) (k : ℕ) → slice_get xs k ≡ Some own → slice_get (map rank_of xs) k ≡ Some (rank_of own)
      there [] k is = absurd (let less = slice_get_within [] k own is in omega (arith, less))
      there (x ∷ xs) zero is = ap (λ (o : RankAccesses). Some (rank_of o)) (same_Some x own is)
      there (x ∷ xs) (suc k) is = there xs k is

  pub all_updates : (a b : List BrokenAssertion) → HasMore (λ x. (own : RankAccesses) × Contains owns own × IsOfUpdates ranks (rank_of own) x) a b → HasMore (IsNoputBroken (calls_of ranks) (accesses ranks)) a b
  all_updates a b more = more_same a b more to of
    where
      to : (x : BrokenAssertion) → (own : RankAccesses) × Contains owns own × IsOfUpdates ranks (rank_of own) x → IsNoputBroken (calls_of ranks) (accesses ranks) x
      to x (own, has, (index, found)) =
          let place = place_of owns own has in
          let there = rank_of_run place.0 own place.1 in
          let made = made_by_rank (origin_of ranks (rank_of own)) found.number found.call role.Target found.access found.call_is found.made in
          (found.access, flat_map_has (λ (r : RankCalls). accesses_of (origin_of ranks r)) ranks (rank_of own) found.access there made, found.is)

      of : (x : BrokenAssertion) → IsNoputBroken (calls_of ranks) (accesses ranks) x → (own : RankAccesses) × Contains owns own × IsOfUpdates ranks (rank_of own) x
      of x (access, has, is) =
          let one = is_of_run ranks access has in
          let place = place_of ranks one.own one.of_run in
          let kept = unmapped rank_of owns place.0 one.own (subst (λ (l : List RankCalls). slice_get l place.0 ≡ Some one.own) (sym same) place.1) in
          let at = made_in (origin_of ranks one.own) access one.made in
          let made = made_at_target (origin_of ranks one.own) access at is.1.updates in (
            kept.0,
            contained owns place.0 kept.0 kept.1,
            subst (λ (r : RankCalls). IsOfUpdates ranks r x) (sym kept.2)
                (at.index, record { number = at.number; number_is = at.number_is; call = at.call; call_is = at.call_is; access = access; made = made; is = is }),
          )

-- ---- the call at an index

module _ (ranks : List RankCalls) (own : RankCalls) (at : Role) (Is : Access → BrokenAssertion → Type 0) (index number : ℕ) (call : Call) (number_is : slice_get (spanned_calls (origin_of ranks own)) index ≡ Some number)
    (call_is : slice_get (origin_of ranks own).sound number ≡ Some call) where
  same_made : (x : BrokenAssertion) (found : IsOfIndex ranks own at Is index x) → access_of (origin_of ranks own) number call at ≡ Some found.access
  same_made x found =
      let origin = origin_of ranks own in
      let one = same_Some found.number number (sym found.number_is ∙ number_is) in
      let here : slice_get origin.sound number ≡ Some found.call = subst (λ n. slice_get origin.sound n ≡ Some found.call) one found.call_is in
      let two = same_Some found.call call (sym here ∙ call_is) in
      subst (λ c. access_of origin number c at ≡ Some found.access) two (subst (λ n. access_of origin n found.call at ≡ Some found.access) one found.made)

  pub none_of_index : (a : List BrokenAssertion) → access_of (origin_of ranks own) number call at ≡ None → HasMore (IsOfIndex ranks own at Is index) a a
  none_of_index a none = more_none a (λ x found. none-some found.access (sym none ∙ same_made x found))

  pub more_of_index : (access : Access) (a b : List BrokenAssertion) → access_of (origin_of ranks own) number call at ≡ Some access → HasMore (Is access) a b → HasMore (IsOfIndex ranks own at Is index) a b
  more_of_index access a b made more =
      more_same a b more
      (λ x is. record { number = number; number_is = number_is; call = call; call_is = call_is; access = access; made = made; is = is })
      (λ x found. subst (λ it. Is it x) (same_Some found.access access (sym (same_made x found) ∙ made)) found.is)

-- ---- the call that opens an exposure

pub opening_is : (calls : ℕ → List Call) (access : Access) (number : ℕ) (found : BrokenAssertion) → IsUpdatedIn calls access number found → (opening : Member) → opening ≡ record { rank = found.rank; call = number }
    → SaysNoput calls opening.rank opening.call found.line
opening_is calls access number found up opening same =
    subst (λ (m : Member). SaysNoput calls m.rank m.call found.line) (sym same) (record { call = up.opening; there = up.opening_is; says = up.says; line_is = up.line })
