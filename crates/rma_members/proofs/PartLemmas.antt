-- The ranks that have a part of a window are exactly its members.
use Rattle.std.proofs.Common.{◌≡◌, ℕ, zero, suc, ◌+◌, Bool, true, false, List, [], ◌∷◌, take, Option, Some, None, IsSome, slice_get, cond, refl, sym, ap, subst, ◌∙◌, ◌↔◌, arith, eq-eqb}
use Rattle.std.specs.Prelude.{Contains, find, nat_eq, option_map, ◌==◌}
use Rattle.std.specs.Cmp.Lexicographic.{pointwise}
use Rattle.std.specs.List.{cons_option}
use Rattle.std.specs.Option.{option_and_then, option_map_or}
use Rattle.std.proofs.lemmas.Bool.{and_from, and_parts, eqb-true, false≢true}
use Rattle.rma_agreement.specs.Argument.{arguments_of, same_arguments}
use Rattle.rma_agreement.specs.Collective.{RoundCall, place_of, round_call_at, round_calls}
use Rattle.rma_agreement.specs.Round.{difference_reason, differs, is_at, kept, round_difference}
use Rattle.rma_agreement.specs.declared.argument.Arguments.{Arguments}
use Rattle.rma_agreement.specs.declared.argument.Arguments.TheVariants.{Barrier, Creation, Fence, Moving, Nothing}
use Rattle.rma_base.specs.declared.match_reason.MatchReason.TheVariants.{CollectiveDiffers}
use Rattle.rma_base.specs.declared.rank.Rank.{Rank}
use Rattle.rma_call.specs.Call.{Call, RankCalls}
use Rattle.rma_call.specs.declared.match_fault.MatchFault.{MatchFault}
use Rattle.rma_kept.proofs.AmongLemmas.{same_itself}
use Rattle.rma_member.specs.Attribute.{created}
use Rattle.rma_member.specs.Declaration.{declarations, first_of, is_of}
use Rattle.rma_member.specs.Member.{members_of_comm}
use Rattle.rma_member.specs.declared.attribute.WindowAttributes.{WindowAttributes}
use Rattle.rma_member.specs.declared.declaration.Declaration.{Declaration}
use Rattle.rma_round.proofs.NumberLemmas.{some_number}
use Rattle.rma_round.specs.Kind.{count_of}
use Rattle.rma_round.specs.Round.{numbers}
use Rattle.rma_round.specs.declared.kind.Kind.TheVariants as kind
use Rattle.rma_run.proofs.ContainLemmas.{flat_map_has, has_first, has_later, has_none, first_or_later, in_flat_map}
use Rattle.rma_window.proofs.WholeLemmas.{parts_are}
use Rattle.rma_window.specs.Creation.{Creation as CreationOf, creation_of, creations, creations_from, is_by}
use Rattle.rma_members.specs.Matched.{HasPart, IsMatched, IsMember}
use Rattle.rma_members.proofs.FaultLemmas.{finds, found, no_faults, none_in_filter, walked_all_has}
use Rattle.rma_members.proofs.MemberLemmas.{at_place, creation_member, made_by, same_text, window_comm}
use Rattle.rma_members.proofs.NameLemmas.{CreatesWith, creates_from_arguments, creates_from_created, creates_from_creation}
use Rattle.rma_members.proofs.RoundLemmas.{Makes, member_makes, stands_at}

-- ---- creations among calls

cons_later : {Y : Type 0} → (o : Option Y) (ys : List Y) (y : Y) → Contains ys y → Contains (cons_option o ys) y
cons_later None ys y has = has
cons_later (Some x) ys y has = has_later x y ys has

-- a creation of a rank is that of one of its calls
record IsOfCall (rank : Rank) (n : ℕ) (calls : List Call) (creation : CreationOf) : Type 0 where
  index : ℕ
  call : Call
  there : slice_get calls index ≡ Some call
  is : creation_of rank (n + index) call.what ≡ Some creation

of_call : (rank : Rank) (n : ℕ) (calls : List Call) (creation : CreationOf) → Contains (creations_from rank n calls) creation → IsOfCall rank n calls creation
of_call rank n [] creation has = has_none creation has
of_call rank n (c ∷ cs) creation has = by (creation_of rank n c.what) refl has (of_call rank (n + 1) cs creation)
  where
    later : IsOfCall rank (n + 1) cs creation → IsOfCall rank n (c ∷ cs) creation
    later one = record {
      index = suc one.index;
      call = one.call;
      there = one.there;
      is = subst (λ m. creation_of rank m one.call.what ≡ Some creation) (let e : n + 1 + one.index ≡ n + suc one.index = omega arith in e) one.is;
    }

    by : (o : Option CreationOf) → creation_of rank n c.what ≡ o → Contains (cons_option o (creations_from rank (n + 1) cs)) creation
        → (Contains (creations_from rank (n + 1) cs) creation → IsOfCall rank (n + 1) cs creation) → IsOfCall rank n (c ∷ cs) creation
    by None is has rest = later (rest has)
    by (Some own) is has rest = first_or_later own creation (creations_from rank (n + 1) cs)
        (λ same. record {
          index = 0;
          call = c;
          there = refl;
          is = subst (λ m. creation_of rank m c.what ≡ Some creation) (let e : n ≡ n + 0 = omega arith in e) (is ∙ ap Some same);
        })
        (λ among. later (rest among)) has

call_has : (rank : Rank) (n : ℕ) (calls : List Call) (k : ℕ) (call : Call) (creation : CreationOf) → slice_get calls k ≡ Some call → creation_of rank (n + k) call.what ≡ Some creation
    → Contains (creations_from rank n calls) creation
call_has rank n [] k call creation there is = cc
call_has rank n (c ∷ cs) zero call creation there is =
    let same : c ≡ call = cc in
    let own : creation_of rank n c.what ≡ Some creation = ap (λ (it : Call). creation_of rank n it.what) same ∙ subst (λ m. creation_of rank m call.what ≡ Some creation) (let e : n + 0 ≡ n = omega arith in e) is in
    rw own (has_first creation (creations_from rank (n + 1) cs))
call_has rank n (c ∷ cs) (suc k) call creation there is =
    cons_later (creation_of rank n c.what) (creations_from rank (n + 1) cs) creation
    (call_has rank (n + 1) cs k call creation there (subst (λ m. creation_of rank m call.what ≡ Some creation) (let e : n + suc k ≡ n + 1 + k = omega arith in e) is))

-- ---- what the calls of a round agree on

creation_first : (first : Arguments) (window : List ℕ) → same_arguments first (Creation window) ≡ true → first ≡ Creation window
creation_first Barrier window h = cc
creation_first (Creation own) window h = ap Creation (sym (same_text window own h))
creation_first (Fence noprecede nosucceed) window h = cc
creation_first (Moving transfer) window h = cc
creation_first Nothing window h = cc

creation_other : (other : Arguments) (window : List ℕ) → same_arguments (Creation window) other ≡ true → other ≡ Creation window
creation_other Barrier window h = cc
creation_other (Creation own) window h = ap Creation (same_text own window h)
creation_other (Fence noprecede nosucceed) window h = cc
creation_other (Moving transfer) window h = cc
creation_other Nothing window h = cc

module _ (ranks : List RankCalls) (h : IsMatched ranks) where
  abbrev all : List RoundCall
  all = round_calls kind.Collective ranks

  -- the call that a rank makes of a round, as it is compared
  abbrev compared : (comm : List ℕ) (place : ℕ) (rank : Rank) → Makes kind.Collective ranks comm place rank → RoundCall
  compared comm place rank makes = record {
    rank = makes.own.rank;
    line = makes.call.line;
    name = comm;
    number = place;
    arguments = arguments_of (place_of (take makes.number makes.own.calls) makes.call.what) makes.call.what;
  }

  compared_has : (comm : List ℕ) (place : ℕ) (rank : Rank) (makes : Makes kind.Collective ranks comm place rank) → Contains all (compared comm place rank makes)
  compared_has comm place rank makes =
      walked_all_has (round_call_at kind.Collective) ranks makes.own makes.number makes.call (compared comm place rank makes) makes.among makes.there
      (ap (option_map (λ (name : List ℕ). with_number name (count_of kind.Collective name (take makes.number makes.own.calls)))) makes.is ∙ ap (λ n. Some (with_number comm n)) makes.count)
    where
      with_number : List ℕ → ℕ → RoundCall
      with_number name number = record {
        rank = makes.own.rank;
        line = makes.call.line;
        name = name;
        number = number;
        arguments = arguments_of (place_of (take makes.number makes.own.calls) makes.call.what) makes.call.what;
      }

  -- it agrees with the first call of the round
  agrees : (comm : List ℕ) (place : ℕ) (own first : RoundCall) → Contains all own → own.name ≡ comm → own.number ≡ place → find (is_at comm place) all ≡ Some first → same_arguments first.arguments own.arguments ≡ true
  agrees comm place own first among name number is =
      let none = none_in_filter (round_difference kind.Collective all) all own (no_faults ranks h.matched 2 CollectiveDiffers refl) among in
      let same : find (is_at own.name own.number) all ≡ Some first = ap (λ n. find (is_at n own.number) all) name ∙ ap (λ n. find (is_at comm n) all) number ∙ is in
      let fault : MatchFault = record { reason = difference_reason kind.Collective; rank = own.rank; line = own.line; other = Some (first.rank, first.line) } in
      by (same_arguments first.arguments own.arguments) fault (sym (ap (option_and_then (λ (f : RoundCall). differs kind.Collective (kept f) (kept own))) same) ∙ none)
    where
      by : (b : Bool) (fault : MatchFault) → cond b None (Some fault) ≡ None → b ≡ true
      by true fault h = refl
      by false fault h = cc

  -- where one call of a round creates a window, each does
  creates_too : (comm window : List ℕ) (place : ℕ) (one other : Rank) (makes : Makes kind.Collective ranks comm place one) (also : Makes kind.Collective ranks comm place other)
      → CreatesWith makes.call.what window → CreatesWith also.call.what window
  creates_too comm window place one other makes also creates =
      let mine = compared comm place one makes in
      let its = compared comm place other also in
      let here : is_at comm place mine ≡ true = and_from (pointwise nat_eq comm comm) (place == place) (same_itself comm) (eq-eqb place place refl) in
      let first = finds (is_at comm place) all mine (compared_has comm place one makes) here in
      let said = agrees comm place mine first.0 (compared_has comm place one makes) refl refl first.1 in
      let also_said = agrees comm place its first.0 (compared_has comm place other also) refl refl first.1 in
      let created = creates.arguments (place_of (take makes.number makes.own.calls) makes.call.what) in
      let is_first = creation_first first.0.arguments window (ap (same_arguments first.0.arguments) (sym created) ∙ said) in
      creates_from_arguments also.call.what window (place_of (take also.number also.own.calls) also.call.what)
      (creation_other its.arguments window (ap (λ a. same_arguments a its.arguments) (sym is_first) ∙ also_said))

  -- ---- parts

  member_of_part : (window : List ℕ) (rank : Rank) → HasPart ranks window rank → IsMember kind.Free ranks window rank.0
  member_of_part window rank has = by (find (is_by window rank) (creations ranks)) refl (subst IsSome (parts_are window rank (creations ranks)) has)
    where
      by : (o : Option CreationOf) → find (is_by window rank) (creations ranks) ≡ o → IsSome (option_map (λ (c : CreationOf). c.part) o) → IsMember kind.Free ranks window rank.0
      by None is some = absurd (false≢true some)
      by (Some creation) is some =
          let it = found (is_by window rank) (creations ranks) creation is in
          let parts = and_parts (pointwise nat_eq window creation.name) (rank.0 == creation.rank.0) it.1 in
          let one = in_flat_map (λ (r : RankCalls). creations_from r.rank 0 r.calls) ranks creation it.0 in
          let call = of_call one.0.rank 0 one.0.calls creation one.2 in
          let creates = creates_from_creation call.call.what one.0.rank (0 + call.index) creation call.is in
          let member = creation_member ranks h one.0 call.index call.call creation.name one.1 call.there creates.0 in
          let own : one.0.rank.0 ≡ rank.0 = ap (λ (r : Rank). r.0) (sym creates.1) ∙ sym (eqb-true rank.0 creation.rank.0 parts.1) in
          subst (IsMember kind.Free ranks window) own (subst (λ name. IsMember kind.Free ranks name one.0.rank.0) (sym (same_text window creation.name parts.0)) member)

  part_of_makes : (comm window : List ℕ) (place : ℕ) (rank : Rank) (makes : Makes kind.Collective ranks comm place rank) → CreatesWith makes.call.what window → HasPart ranks window rank
  part_of_makes comm window place rank makes creates =
      let made = creates.creation makes.own.rank makes.number in
      let among = flat_map_has (λ (r : RankCalls). creations_from r.rank 0 r.calls) ranks makes.own made.0 makes.among
      (call_has makes.own.rank 0 makes.own.calls makes.number makes.call made.0 makes.there
      (subst (λ m. creation_of makes.own.rank m makes.call.what ≡ Some made.0) (let e : makes.number ≡ 0 + makes.number = omega arith in e) made.1)) in
      let own : is_by window rank made.0 ≡ true =
      and_from (pointwise nat_eq window made.0.name) (rank.0 == made.0.rank.0) (ap (pointwise nat_eq window) made.2 ∙ same_itself window)
      (eq-eqb rank.0 made.0.rank.0 (ap (λ (r : Rank). r.0) (sym (made.3 ∙ makes.rank_is)))) in
      let first = finds (is_by window rank) (creations ranks) made.0 among own in
      subst IsSome (sym (parts_are window rank (creations ranks))) (subst (λ (o : Option CreationOf). IsSome (option_map (λ (c : CreationOf). c.part) o)) (sym first.1) refl)

  part_of_member : (window : List ℕ) (rank : Rank) → IsMember kind.Free ranks window rank.0 → HasPart ranks window rank
  part_of_member window rank member = by (first_of (declarations created ranks) window) refl member
    where
      from : (own : RankCalls) (k : ℕ) (call : Call) → Contains ranks own → slice_get own.calls k ≡ Some call → CreatesWith call.what window → HasPart ranks window rank
      from own k call among there creates =
          let comm = creates.attributes.comm in
          let its : IsMember kind.Collective ranks comm rank.0 =
          subst (λ (c : Option (List ℕ)). Contains (option_map_or (members_of_comm ranks) c []) rank.0) (window_comm ranks h own k call window among there creates) member in
          let at = at_place (numbers kind.Collective comm own.calls) (0 + k) (some_number kind.Collective comm own.calls k call there creates.collective) in
          let place = at.0 in
          let number : slice_get (numbers kind.Collective comm own.calls) place ≡ Some k = at.1 ∙ ap Some (let e : 0 + k ≡ k = omega arith in e) in
          let stands = stands_at kind.Collective comm 0 own.calls place k number in
          let same : stands.index ≡ k = let is = stands.number_is in omega arith in
          let makes : Makes kind.Collective ranks comm place own.rank = record {
            own = own;
            number = k;
            call = call;
            among = among;
            there = there;
            is = creates.collective;
            at = number;
            count = subst (λ n. count_of kind.Collective comm (take n own.calls) ≡ place) same stands.count;
            rank_is = refl;
          } in
          let also = member_makes ranks h kind.Collective comm place own.rank rank makes its in
          part_of_makes comm window place rank also (creates_too comm window place own.rank rank makes also creates)

      by : (o : Option (Declaration WindowAttributes)) → first_of (declarations created ranks) window ≡ o → IsMember kind.Free ranks window rank.0 → HasPart ranks window rank
      by None is member =
          has_none rank.0 (subst (λ (o : Option (Declaration WindowAttributes)). Contains (option_map_or (members_of_comm ranks) (option_map (λ (c : Declaration WindowAttributes). c.attributes.comm) o) []) rank.0) is member)
      by (Some first) is member =
          let one = found (is_of window) (declarations created ranks) first is in
          let made = made_by created ranks first one.0 in
          from made.own made.number made.call made.among made.there
          (subst (CreatesWith made.call.what) (same_text first.name window one.1) (creates_from_created made.call.what first.name first.attributes made.is))

  pub parts_of_members : (window : List ℕ) (rank : Rank) → HasPart ranks window rank ↔ IsMember kind.Free ranks window rank.0
  parts_of_members window rank = (member_of_part window rank, part_of_member window rank)
