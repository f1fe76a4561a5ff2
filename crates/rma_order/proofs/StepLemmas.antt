-- A run whose ranks go in step.
use Rattle.std.proofs.Common.{◌≡◌, ℕ, List, [], length, Option, Some, None, slice_get, replicate, sym, ap, subst, ◌∙◌}
use Rattle.std.specs.Prelude.{All, Contains, option_map}
use Rattle.std.proofs.lemmas.Option.{same_Some}
use Rattle.rma_call.specs.Call.{RankCalls}
use Rattle.rma_link.specs.declared.meet.Meet.{Meet}
use Rattle.rma_link.specs.declared.meet.Member.{Member}
use Rattle.rma_run.specs.Run.{AreInOrder, calls_of, lens_of}
use Rattle.rma_run.proofs.CallLemmas.{calls_are_own}
use Rattle.rma_run.proofs.ContainLemmas.{all_from_contains, in_filter_map}
use Rattle.rma_round.specs.declared.kind.Kind.{Kind}
use Rattle.rma_round.specs.Meet.{IsRoundMeet, member_at, round_meets}
use Rattle.rma_round.specs.Round.{numbers}
use Rattle.rma_round.specs.Step.{GoInStep}
use Rattle.rma_round.proofs.MeetLemmas.{meet_is}
use Rattle.rma_round.proofs.NumberLemmas.{place_has}
use Rattle.rma_walk.specs.Step.{AreOfOneNumber, IsEdgeOn}
use Rattle.rma_walk.proofs.StepLemmas.{in_step_is_possible}
use Rattle.rma_order.specs.RunLinks.{LinkTheSame, links_of}
use Rattle.rma_order.specs.Impossible.{AreImpossibleCalls}
use Rattle.rma_order.proofs.SameLinks.{none_impossible}
use Rattle.rma_order.proofs.ToldLemmas.{first_at_none, told_none}

-- the number that a member has in its round
number_of : (kind : Kind) (name : List ℕ) (place : ℕ) (own : RankCalls) (m : Member) → member_at kind name place own ≡ Some m → slice_get (numbers kind name own.calls) place ≡ Some m.call
number_of kind name place own m is = by (slice_get (numbers kind name own.calls) place) is
  where
    by : (o : Option ℕ) → option_map {U = Member} (λ call. record { rank = own.rank; call = call }) o ≡ Some m → o ≡ Some m.call
    by None at = absurd (cc)
    by (Some n) at = ap Some (ap (λ (it : Member). it.call) (same_Some (record { rank = own.rank; call = n }) m at))

module _ (ranks : List RankCalls) (in_order : AreInOrder ranks) (step : GoInStep (calls_of ranks)) where
  of_one_number : (meet : Meet) → Contains (round_meets ranks) meet → AreOfOneNumber meet.calls
  of_one_number meet has =
      let is : IsRoundMeet ranks meet = meet_is ranks meet has in
      let first = place_has is.kind is.name (calls_of ranks is.own.rank.0) is.place is.number is.is_at in
      record {
        number = is.number;
        all = all_from_contains (λ m. m.call ≡ is.number) meet.calls
            (λ m among.
            let one = in_filter_map (member_at is.kind is.name is.place) ranks m (subst (λ (ms : List Member). Contains ms m) is.calls_are among) in
            let own = number_of is.kind is.name is.place one.0 m one.2 in
            let second = ap (λ calls. slice_get (numbers is.kind is.name calls) is.place) (calls_are_own ranks one.0 in_order one.1) ∙ own in
            sym (step is.kind is.name is.place is.own.rank.0 one.0.rank.0 is.number m.call first second));
      }

  -- no call of such a run is impossible
  pub none_in_step : All IsEdgeOn (links_of ranks).edges → AreImpossibleCalls ranks []
  none_in_step edges =
      let lens = lens_of ranks in
      let links = links_of ranks in
      let same : LinkTheSame links links = record { only = λ from to linked. linked; all = λ from to linked. linked } in
      let possible = in_step_is_possible links (record { edges = edges; meets = all_from_contains (λ meet. AreOfOneNumber meet.calls) links.meets of_one_number }) in
      (replicate (length lens) None, none_impossible lens links links same possible, sym (told_none ranks (replicate (length lens) None) (first_at_none (length lens))))
