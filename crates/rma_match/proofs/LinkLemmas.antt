-- The calls of its round that the return of a call waits for are linked to it.
use Rattle.std.proofs.Common.{◌≡◌, ◌≤◌, ℕ, ◌⊎◌, inl, inr, ⊎_elim, Bool, true, false, cond, not, ◌∷◌, List, [], length, Option, Some, None, nat_eq, slice_get, map, refl, sym, ap, subst, ◌∙◌, arith}
use Rattle.std.specs.Prelude.{Contains, option_map}
use Rattle.std.specs.Option.{option_and_then, option_map_or, option_or}
use Rattle.std.proofs.lemmas.Option.{slice_get_within, get_or_from_slice_get}
use Rattle.rma_base.specs.declared.point.Point.{Point}
use Rattle.rma_call.specs.Call.{Call, RankCalls}
use Rattle.rma_call.specs.declared.what.What.{What}
use Rattle.rma_link.specs.declared.meet.Member.{Member}
use Rattle.rma_link.specs.declared.meet.Meet.{Meet}
use Rattle.rma_link.specs.Point.{entry, return_of}
use Rattle.rma_link.specs.Link.{IsMet}
use Rattle.rma_run.specs.Run.{AreInOrder, calls_of}
use Rattle.rma_run.proofs.CallLemmas.{calls_are_own, itself}
use Rattle.rma_run.proofs.ContainLemmas.{has_none, first_or_later, filter_map_has}
use Rattle.rma_round.specs.declared.kind.Kind.{Kind}
use Rattle.rma_round.specs.declared.kind.Kind.TheVariants.{Collective, Free, Fence, Moving}
use Rattle.rma_round.specs.Kind.{named}
use Rattle.rma_round.specs.Round.{numbers, place_in, match_of, matched_at, matched, partner_of}
use Rattle.rma_round.specs.Edge.{round_edges}
use Rattle.rma_round.specs.Meet.{waits_for_all, member_at, round_at, round_meets, IsRoundMeet}
use Rattle.rma_round.proofs.NumberLemmas.{place_has}
use Rattle.rma_round.proofs.MeetLemmas.{meet_has}
use Rattle.rma_match.specs.Membership.{members}
use Rattle.rma_match.specs.Source.{others, round_entry, round_entries}
use Rattle.rma_round.proofs.RowLemmas.{in_map}

-- a call of another rank is of the round of a call that does this
record IsPartner (calls : ℕ → List Call) (rank number other found : ℕ) (what : What) : Type 0 where
  kind : Kind
  name : List ℕ
  place : ℕ
  is_named : named kind what ≡ Some name
  is_at : place_in kind name (calls rank) number ≡ Some place
  there : slice_get (numbers kind name (calls other)) place ≡ Some found

or_is : (a b : Option ℕ) (found : ℕ) → option_or a b ≡ Some found → (a ≡ Some found) ⊎ (b ≡ Some found)
or_is None b found is = inr is
or_is (Some x) b found is = inl is

module _ (calls : ℕ → List Call) (rank number other found : ℕ) where
  matched_at_is : (kind : Kind) (what : What) → matched_at kind calls rank number other what ≡ Some found → IsPartner calls rank number other found what
  matched_at_is kind what is = by (named kind what) refl is
    where
      by_place : (name : List ℕ) → named kind what ≡ Some name → (o : Option ℕ) → place_in kind name (calls rank) number ≡ o → option_and_then (slice_get (numbers kind name (calls other))) o ≡ Some found → IsPartner calls rank number other found what
      by_place name is_named None is_at at = absurd (cc)
      by_place name is_named (Some place) is_at at = record { kind = kind; name = name; place = place; is_named = is_named; is_at = is_at; there = at }

      by : (o : Option (List ℕ)) → named kind what ≡ o → option_and_then (λ name. match_of kind name calls rank number other) o ≡ Some found → IsPartner calls rank number other found what
      by None is_named at = absurd (cc)
      by (Some name) is_named at = by_place name is_named (place_in kind name (calls rank) number) refl at

  matched_is : (what : What) → matched calls rank number other what ≡ Some found → IsPartner calls rank number other found what
  matched_is what is =
      let a = matched_at Collective calls rank number other what in
      let b = matched_at Free calls rank number other what in
      let c = matched_at Fence calls rank number other what in
      let d = matched_at Moving calls rank number other what in
      ⊎_elim (matched_at_is Collective what)
      (λ (rest : option_or b (option_or c d) ≡ Some found).
      ⊎_elim (matched_at_is Free what)
      (λ (more : option_or c d ≡ Some found). ⊎_elim (matched_at_is Fence what) (matched_at_is Moving what) (or_is c d found more))
      (or_is b (option_or c d) found rest))
      (or_is a (option_or b (option_or c d)) found is)

  partner_is : (call : Call) → slice_get (calls rank) number ≡ Some call → partner_of calls rank number other ≡ Some found → IsPartner calls rank number other found call.what
  partner_is call there is = matched_is call.what (sym (ap (option_and_then (λ (c : Call). matched calls rank number other c.what)) there) ∙ is)

-- ---- lists

in_others : (rank : ℕ) (ms : List ℕ) (other : ℕ) → Contains (others rank ms) other → nat_eq other rank ≡ false
in_others rank [] other has = has_none other has
in_others rank (m ∷ ms) other has = by (nat_eq m rank) refl has (in_others rank ms other)
  where
    by : (b : Bool) → nat_eq m rank ≡ b → Contains (cond (not b) (m ∷ others rank ms) (others rank ms)) other → (Contains (others rank ms) other → nat_eq other rank ≡ false) → nat_eq other rank ≡ false
    by true test among rest = rest among
    by false test among rest =
        first_or_later m other (others rank ms)
        (λ (at : m ≡ other). subst (λ k. nat_eq k rank ≡ false) at test)
        rest
        among

two_of : (xs : List Member) (a b : Member) → (a ≡ b → ⊥) → Contains xs a → Contains xs b → 2 ≤ length xs
two_of [] a b differ has_a has_b = has_none a has_a
two_of (x ∷ []) a b differ has_a has_b =
    first_or_later x a []
    (λ (is_a : x ≡ a). first_or_later x b [] (λ (is_b : x ≡ b). absurd (differ (sym is_a ∙ is_b))) (λ (later : Contains [] b). has_none b later) has_b)
    (λ (later : Contains [] a). has_none a later)
    has_a
two_of (x ∷ y ∷ xs) a b differ has_a has_b = omega arith

-- ---- the meet of a round

module _ (ranks : List RankCalls) (in_order : AreInOrder ranks) (own : RankCalls) (number : ℕ) (call : Call) (point : Point)
    (of_run : Contains ranks own) (there : slice_get own.calls number ≡ Some call) (waits : waits_for_all call.what ≡ true) where
  abbrev calls : ℕ → List Call
  calls = calls_of ranks

  abbrev Goal : Type 0
  Goal = IsMet (record { edges = round_edges ranks; meets = round_meets ranks }) point (return_of own.rank number)

  -- the meet of two calls of a round
  met_by : (other found : ℕ) (own2 : RankCalls) → nat_eq other own.rank.0 ≡ false → slice_get ranks other ≡ Some own2 → IsPartner calls own.rank.0 number other found call.what → entry (record { 0 = other }) found ≡ point → Goal
  met_by other found own2 apart there2 is at =
      let of2 : Contains ranks own2 = (other, slice_get_within ranks other own2 there2, get_or_from_slice_get ranks other own2 own2 there2) in
      let first : Member = record { rank = own2.rank; call = found } in
      let second : Member = record { rank = own.rank; call = number } in
      let met : Meet = record { calls = round_at is.kind is.name ranks is.place } in
      let calls2 : calls other ≡ own2.calls = ap (λ o. option_map_or (λ (r : RankCalls). r.calls) o []) there2 in
      let first_at : slice_get (numbers is.kind is.name own2.calls) is.place ≡ Some found = ap (λ l. slice_get (numbers is.kind is.name l) is.place) (sym calls2) ∙ is.there in
      let second_at : slice_get (numbers is.kind is.name own.calls) is.place ≡ Some number =
      ap (λ l. slice_get (numbers is.kind is.name l) is.place) (sym (calls_are_own ranks own in_order of_run)) ∙ place_has is.kind is.name (calls own.rank.0) is.place number is.is_at in
      let has_first : Contains met.calls first =
      filter_map_has (member_at is.kind is.name is.place) ranks own2 first of2 (ap (option_map (λ c. let m : Member = record { rank = own2.rank; call = c } in m)) first_at) in
      let has_second : Contains met.calls second =
      filter_map_has (member_at is.kind is.name is.place) ranks own second of_run (ap (option_map (λ c. let m : Member = record { rank = own.rank; call = c } in m)) second_at) in
      let rank2 : own2.rank.0 ≡ other = in_order other own2 there2 in
      let differ : first ≡ second → ⊥ = λ same.
      let e : other ≡ own.rank.0 = sym rank2 ∙ ap (λ (m : Member). m.rank.0) same in
      let one : nat_eq own.rank.0 own.rank.0 ≡ false = subst (λ k. nat_eq k own.rank.0 ≡ false) e apart in
      let two = itself own.rank.0 in
      absurd (cc) in
      let is_met : IsRoundMeet ranks met = record {
        own = own;
        number = number;
        call = call;
        kind = is.kind;
        name = is.name;
        place = is.place;
        of_run = of_run;
        there = there;
        waits = waits;
        is_named = is.is_named;
        is_at = is.is_at;
        several = two_of met.calls first second differ has_first has_second;
        calls_are = refl;
      } in
      record {
        meet = met;
        first = first;
        second = second;
        is_meet = meet_has ranks met is_met;
        has_first = has_first;
        has_second = has_second;
        differ = differ;
        from_entry = sym at ∙ ap (λ k. entry (record { 0 = k }) found) (sym rank2);
        to_return = refl;
      }

  met_of : (other found : ℕ) → nat_eq other own.rank.0 ≡ false → IsPartner calls own.rank.0 number other found call.what → entry (record { 0 = other }) found ≡ point → Goal
  met_of other found apart is at = by (slice_get ranks other) refl
    where
      by : (o : Option RankCalls) → slice_get ranks other ≡ o → Goal
      by None none =
          let empty : calls other ≡ [] = ap (λ o. option_map_or (λ (r : RankCalls). r.calls) o []) none in
          let no : None ≡ Some found = ap (λ l. slice_get (numbers is.kind is.name l) is.place) (sym empty) ∙ is.there in
          absurd (cc)
      by (Some own2) there2 = met_by other found own2 apart there2 is at

  pub awaited_is_met : (count : ℕ) → Contains (round_entries count calls own.rank.0 number call.what) (Some point) → Goal
  awaited_is_met count has =
      let ms = members count (calls own.rank.0) call.what in
      let among : Contains (map (round_entry calls own.rank.0 number) (others own.rank.0 ms)) (Some point) = rw waits at has in
      let one = in_map (round_entry calls own.rank.0 number) (others own.rank.0 ms) (Some point) among in
      by one.0 (in_others own.rank.0 ms one.0 one.1) (partner_of calls own.rank.0 number one.0) refl one.2
    where
      by : (other : ℕ) → nat_eq other own.rank.0 ≡ false → (o : Option ℕ) → partner_of calls own.rank.0 number other ≡ o → option_map (entry (record { 0 = other })) o ≡ Some point → Goal
      by other apart None is at = absurd (cc)
      by other apart (Some found) is at =
          let here : slice_get (calls own.rank.0) number ≡ Some call = ap (λ l. slice_get l number) (calls_are_own ranks own in_order of_run) ∙ there in
          let same : entry (record { 0 = other }) found ≡ point = cc in
          met_of other found apart (partner_is calls own.rank.0 number other found call here is) same
