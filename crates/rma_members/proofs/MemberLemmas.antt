-- A rank that names a communicator or a window is one of its members.
use Rattle.std.proofs.Common.{◌≡◌, ◌≢◌, ℕ, ◌<◌, Bool, true, false, ◌&&◌, List, [], ◌∷◌, length, take, map, Option, Some, None, slice_get, cond, refl, sym, ap, subst, ◌∙◌, ⊎_elim, arith}
use Rattle.std.specs.Prelude.{Contains, nat_eq, option_map, ◌==◌}
use Rattle.std.specs.Cmp.Lexicographic.{pointwise}
use Rattle.std.specs.Option.{option_and_then, option_map_or}
use Rattle.std.proofs.lemmas.Bool.{and_parts, eqb-true, false_from_ne_true, or_cases}
use Rattle.std.proofs.lemmas.List.{length-take}
use Rattle.std.proofs.lemmas.Option.{get_or_from_slice_get, slice_get_read, slice_get_within}
use Rattle.rma_base.specs.RankSet.{has_number}
use Rattle.rma_base.specs.declared.match_reason.MatchReason.{MatchReason}
use Rattle.rma_base.specs.declared.match_reason.MatchReason.TheVariants.{CommDiffers, WindowDiffers}
use Rattle.rma_base.specs.declared.rank.Rank.{Rank}
use Rattle.rma_call.specs.Call.{Call, RankCalls}
use Rattle.rma_call.specs.declared.match_fault.MatchFault.{MatchFault}
use Rattle.rma_call.specs.declared.what.What.{What}
use Rattle.rma_judge.specs.Names.{world}
use Rattle.rma_kept.proofs.AmongLemmas.{same_itself}
use Rattle.rma_kept.proofs.ListLemmas.{slice_get_take}
use Rattle.rma_kept.specs.Naming.{Declares, DeclaresWith, NamesComm, NamesWindow, SomeCall}
use Rattle.rma_member.specs.Attribute.{created, declared, same_attributes, same_ranks}
use Rattle.rma_member.specs.Declaration.{declaration_of, declarations, declarations_of, first_of, is_of}
use Rattle.rma_member.specs.Difference.{difference, differences, differs_from}
use Rattle.rma_member.specs.Member.{comm_for, comm_of_window, members_of_comm, everyone}
use Rattle.rma_member.specs.declared.attribute.WindowAttributes.{WindowAttributes}
use Rattle.rma_member.specs.declared.declaration.Declaration.{Declaration}
use Rattle.rma_round.specs.Kind.{named}
use Rattle.rma_round.specs.declared.kind.Kind.{Kind}
use Rattle.rma_round.specs.declared.kind.Kind.TheVariants.{Collective, Free, Fence, Moving}
use Rattle.rma_run.proofs.ContainLemmas.{filter_map_has, first_or_later, flat_map_has, has_first, has_later, has_none, in_filter_map, in_flat_map}
use Rattle.rma_round.proofs.RowLemmas.{in_map}
use Rattle.rma_kept.proofs.WholeLemmas.{whole_is}
use Rattle.rma_log.specs.Ends.{AreCallsOf}
use Rattle.rma_log.specs.Logs.{Checked}
use Rattle.rma_run.specs.Run.{AreInOrder}
use Rattle.rma_sync.specs.Matching.{match_faults}
use Rattle.std.proofs.lemmas.List.Elements.{All-contains}
use Rattle.rma_members.specs.Matched.{IsMatched, IsMember}
use Rattle.rma_members.proofs.FaultLemmas.{finds, no_faults, none_in_filter, found}
use Rattle.rma_members.proofs.NameLemmas.{CreatesWith, collective_names, creates_from_names, declared_same, fence_names, free_names, moving_names, declared_group}

-- ---- lists

pub same_text : (a b : List ℕ) → pointwise nat_eq a b ≡ true → a ≡ b
same_text [] [] h = refl
same_text [] (y ∷ b) h = cc
same_text (x ∷ a) [] h = cc
same_text (x ∷ a) (y ∷ b) h =
    let parts = and_parts (nat_eq x y) (pointwise nat_eq a b) h in
    ap (λ z. z ∷ a) (eqb-true x y parts.0) ∙ ap (λ zs. y ∷ zs) (same_text a b parts.1)

module _ {X : Type 0} where
  pub contained : (xs : List X) (k : ℕ) (x : X) → slice_get xs k ≡ Some x → Contains xs x
  contained xs k x there = (k, slice_get_within xs k x there, get_or_from_slice_get xs k x x there)

  pub at_place : (xs : List X) (x : X) → Contains xs x → (k : ℕ) × (slice_get xs k ≡ Some x)
  at_place xs x (k, lt, at) = (k, slice_get_read xs (length xs) k x refl lt (sym at))

  pub earlier_at : (xs : List X) (k : ℕ) (x : X) → Contains (take k xs) x → (j : ℕ) × (slice_get xs j ≡ Some x)
  earlier_at xs k x among =
      let at = at_place (take k xs) x among in
      let within = slice_get_within (take k xs) at.0 x at.1 in
      let below : at.0 < k = omega (arith, within, length-take k xs) in
      (at.0, sym (slice_get_take at.0 k xs below) ∙ at.1)

map_has : {X Y : Type 0} → (f : X → Y) (xs : List X) (x : X) → Contains xs x → Contains (map f xs) (f x)
map_has f [] x among = has_none x among
map_has f (z ∷ xs) x among =
    first_or_later z x xs (λ same. subst (λ y. Contains (f z ∷ map f xs) y) (ap f same) (has_first (f z) (map f xs))) (λ later. has_later (f z) (f x) (map f xs) (map_has f xs x later)) among

number_in : (n : ℕ) (numbers : List ℕ) → has_number n numbers ≡ true → Contains numbers n
number_in n [] h = cc
number_in n (m ∷ numbers) h = ⊎_elim
    (λ (here : (m == n) ≡ true). subst (Contains (m ∷ numbers)) (eqb-true m n here) (has_first m numbers))
    (λ (later : has_number n numbers ≡ true). has_later m n numbers (number_in n numbers later))
    (or_cases (m == n) (has_number n numbers) h)

-- ---- declarations

module _ {T : Type 0} (stated : What → Option (List ℕ × T)) (ranks : List RankCalls) where
  -- a call that declares something makes a declaration
  pub declaration_has : (own : RankCalls) (k : ℕ) (call : Call) (name : List ℕ) (attributes : T) → Contains ranks own → slice_get own.calls k ≡ Some call → stated call.what ≡ Some (name, attributes)
      → Contains (declarations stated ranks) (record { rank = own.rank; line = call.line; name = name; attributes = attributes })
  declaration_has own k call name attributes among there is =
      let made : Declaration T = record { rank = own.rank; line = call.line; name = name; attributes = attributes } in
      flat_map_has (λ (r : RankCalls). declarations_of stated r.rank r.calls) ranks own made among
      (filter_map_has (declaration_of stated own.rank) own.calls call made (contained own.calls k call there)
      (ap (option_map (λ (s : List ℕ × T). record { rank = own.rank; line = call.line; name = s.0; attributes = s.1 })) is))

  -- a declaration is made by a call
  pub record IsMadeBy (made : Declaration T) : Type 0 where
    pub own : RankCalls
    pub number : ℕ
    pub call : Call
    pub among : Contains ranks own
    pub there : slice_get own.calls number ≡ Some call
    pub is : stated call.what ≡ Some (made.name, made.attributes)

  pub made_by : (made : Declaration T) → Contains (declarations stated ranks) made → IsMadeBy made
  made_by made has =
      let one = in_flat_map (λ (r : RankCalls). declarations_of stated r.rank r.calls) ranks made has in
      let own = one.0 in
      let call = in_filter_map (declaration_of stated own.rank) own.calls made one.2 in
      let at = at_place own.calls call.0 call.1 in
      record { own = own; number = at.0; call = call.0; among = one.1; there = at.1; is = by own.rank call.0 (stated call.0.what) call.2 }
    where
      by : (rank : Rank) (call : Call) (said : Option (List ℕ × T)) → option_map (λ (s : List ℕ × T). record { rank = rank; line = call.line; name = s.0; attributes = s.1 }) said ≡ Some made
          → said ≡ Some (made.name, made.attributes)
      by rank call None h = cc
      by rank call (Some (name, attributes)) h =
          let own : Declaration T = record { rank = rank; line = call.line; name = name; attributes = attributes } in
          let same : own ≡ made = cc in
          ap (λ (d : Declaration T). Some (d.name, d.attributes)) same

  -- where no declaration differs, each agrees with the first of its name
  pub agrees_with : (agrees : T → T → Bool) (reason : MatchReason) (own : Declaration T) → differences agrees reason (declarations stated ranks) ≡ [] → Contains (declarations stated ranks) own
      → (first : Declaration T) × (first_of (declarations stated ranks) own.name ≡ Some first) × (agrees first.attributes own.attributes ≡ true)
  agrees_with agrees reason own none among =
      let first = finds (is_of own.name) (declarations stated ranks) own among (same_itself own.name) in
      let nothing = none_in_filter (difference agrees reason (declarations stated ranks)) (declarations stated ranks) own none among in (
        first.0,
        first.1,
        by (agrees first.0.attributes own.attributes) (differs_from reason own first.0)
            (sym (ap (option_and_then (λ (f : Declaration T). cond (agrees f.attributes own.attributes) None (Some (differs_from reason own f)))) first.1) ∙ nothing),
      )
    where
      by : (b : Bool) (fault : MatchFault) → cond b None (Some fault) ≡ None → b ≡ true
      by true fault h = refl
      by false fault h = cc

-- ---- members

module _ (ranks : List RankCalls) (h : IsMatched ranks) where
  -- the members of a communicator are those with which each rank declares it
  members_are : (own : RankCalls) (k : ℕ) (call : Call) (comm numbers : List ℕ) → Contains ranks own → slice_get own.calls k ≡ Some call → DeclaresWith comm numbers call → comm ≢ world
      → members_of_comm ranks comm ≡ numbers
  members_are own k call comm numbers among there declares other =
      let made : Declaration (List ℕ) = record { rank = own.rank; line = call.line; name = comm; attributes = numbers } in
      let has = declaration_has declared ranks own k call comm numbers among there (sym (declared_same call.what) ∙ declares) in
      let first = agrees_with declared ranks same_ranks CommDiffers made (no_faults ranks h.matched 8 CommDiffers refl) has in
      let not_world : pointwise nat_eq comm world ≡ false = false_from_ne_true (pointwise nat_eq comm world) (λ same. other (same_text comm world same)) in
      let same : numbers ≡ first.0.attributes = same_text numbers first.0.attributes first.2 in
      rw (not_world, first.1) (sym same)

  pub comm_member : (own : RankCalls) (k : ℕ) (call : Call) (comm : List ℕ) → Contains ranks own → slice_get own.calls k ≡ Some call → NamesComm comm call → Contains (members_of_comm ranks comm) own.rank.0
  comm_member own k call comm among there names = ⊎_elim
      (λ (all : comm ≡ world). rw all (map_has (λ (r : RankCalls). r.rank.0) ranks own among))
      (λ (some : SomeCall (Declares comm) (take k own.calls)).
      let at = earlier_at own.calls k some.0 some.1 in
      let kept = h.kept own among at.0 some.0 at.1 in
      let declares = some.2 in
      subst (λ numbers. Contains numbers own.rank.0) (sym (members_are own at.0 some.0 comm declares.0 among at.1 declares.1 (kept.comm_is_new comm declares).0))
      (number_in own.rank.0 declares.0 (kept.comm_has_rank comm declares.0 declares.1)))
      ((h.kept own among k call there).comm_is_there comm names)

  -- the communicator of a window is that on which each rank creates it
  pub window_comm : (own : RankCalls) (k : ℕ) (call : Call) (window : List ℕ) → Contains ranks own → slice_get own.calls k ≡ Some call → (creates : CreatesWith call.what window)
      → comm_of_window ranks window ≡ Some creates.attributes.comm
  window_comm own k call window among there creates =
      let made : Declaration WindowAttributes = record { rank = own.rank; line = call.line; name = window; attributes = creates.attributes } in
      let has = declaration_has created ranks own k call window creates.attributes among there creates.created in
      let first = agrees_with created ranks same_attributes WindowDiffers made (no_faults ranks h.matched 7 WindowDiffers refl) has in
      ap (option_map (λ (c : Declaration WindowAttributes). c.attributes.comm)) first.1 ∙ ap Some (sym (same_text creates.attributes.comm first.0.attributes.comm (same_comm first.0.attributes creates.attributes first.2)))
    where
      same_comm : (first other : WindowAttributes) → same_attributes first other ≡ true → pointwise nat_eq other.comm first.comm ≡ true
      same_comm first other same = and_first (pointwise nat_eq other.comm first.comm) _ (and_first _ _ (and_first _ _ same))
        where
          and_first : (a b : Bool) → (a && b) ≡ true → a ≡ true
          and_first a b both = (and_parts a b both).0

  pub creation_member : (own : RankCalls) (k : ℕ) (call : Call) (window : List ℕ) → Contains ranks own → slice_get own.calls k ≡ Some call → CreatesWith call.what window → IsMember Free ranks window own.rank.0
  creation_member own k call window among there creates =
      rw (window_comm own k call window among there creates) (comm_member own k call creates.attributes.comm among there creates.needs)

  window_member : (own : RankCalls) (k : ℕ) (call : Call) (window : List ℕ) → Contains ranks own → slice_get own.calls k ≡ Some call → NamesWindow window call → IsMember Free ranks window own.rank.0
  window_member own k call window among there names =
      let some = ((h.kept own among k call there).window_is_there window names).0 in
      let at = earlier_at own.calls k some.0 some.1 in
      let creates = some.2 in
      creation_member own at.0 some.0 window among at.1 (creates_from_names some.0.what window creates.0 creates.1)

  -- a rank that makes a call of a kind on a name is a member
  pub call_member : (kind : Kind) (own : RankCalls) (k : ℕ) (call : Call) (name : List ℕ) → Contains ranks own → slice_get own.calls k ≡ Some call → named kind call.what ≡ Some name
      → IsMember kind ranks name own.rank.0
  call_member Collective own k call name among there is = comm_member own k call name among there (collective_names call.what name is)
  call_member Free own k call name among there is = window_member own k call name among there (free_names call.what name is)
  call_member Fence own k call name among there is = window_member own k call name among there (fence_names call.what name is)
  call_member Moving own k call name among there is = comm_member own k call name among there (moving_names call.what name is)

  -- ---- members have logs

  comm_below : (comm : List ℕ) (rank : ℕ) → Contains (members_of_comm ranks comm) rank → rank < length ranks
  comm_below comm rank = by (pointwise nat_eq comm world) (first_of (declarations declared ranks) comm) refl
    where
      by : (all : Bool) (first : Option (Declaration (List ℕ))) → first_of (declarations declared ranks) comm ≡ first
          → Contains (cond all (everyone ranks) (option_map_or (λ (d : Declaration (List ℕ)). d.attributes) first [])) rank → rank < length ranks
      by true first is has =
          let one = in_map (λ (r : RankCalls). r.rank.0) ranks rank has in
          let at = at_place ranks one.0 one.1 in
          let order = h.in_order at.0 one.0 at.1 in
          let within = slice_get_within ranks at.0 one.0 at.1 in
          let same = one.2 in
          omega arith
      by false None is has = has_none rank has
      by false (Some first) is has =
          let one = found (is_of comm) (declarations declared ranks) first is in
          let made = made_by declared ranks first one.0 in
          let kept = h.kept made.own made.among made.number made.call made.there in
          All-contains (λ n. n < length ranks) first.attributes rank (kept.group_has_logs first.attributes (declared_group made.call.what first.name first.attributes made.is)) has

  pub member_below : (kind : Kind) (name : List ℕ) (rank : ℕ) → IsMember kind ranks name rank → rank < length ranks
  member_below kind name rank member = by (comm_for kind ranks name) member
    where
      by : (comm : Option (List ℕ)) → Contains (option_map_or (members_of_comm ranks) comm []) rank → rank < length ranks
      by None has = has_none rank has
      by (Some comm) has = comm_below comm rank has

-- the logs of a run that are good, where no call is at fault for those of other ranks
pub matched_of : (ranks : List RankCalls) → AreInOrder ranks → ((own : RankCalls) → Contains ranks own → (lines : List Checked) × AreCallsOf own.rank.0 (length ranks) lines own) → match_faults ranks ≡ []
    → IsMatched ranks
matched_of ranks in_order good none = record {
  in_order = in_order;
  kept = λ own among. let log = good own among in (whole_is own.rank.0 (length ranks) log.0 own log.1).kept;
  matched = none;
}
