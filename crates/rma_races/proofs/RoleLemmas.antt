-- What a call of a rank makes in a role is of the run, and still to come where the call is the next one.
use Rattle.std.proofs.Common.{◌≡◌, ℕ, List, Option, Some, None, IfSome, slice_get, sym, ap, subst, ◌∙◌, arith}
use Rattle.std.specs.Prelude.{Contains}
use Rattle.std.proofs.lemmas.Option.{get_or_from_slice_get}
use Rattle.rma_call.specs.Call.{Call, RankCalls}
use Rattle.rma_run.specs.Run.{IsRun}
use Rattle.rma_run.proofs.ContainLemmas.{flat_map_has}
use Rattle.rma_rules.specs.Access.{Access}
use Rattle.rma_rules.specs.declared.access_name.Role.{Role}
use Rattle.rma_span.specs.Span.{access_of, accesses, accesses_of, origin_of}
use Rattle.rma_points.proofs.AccessLemmas.{at_rank}
use Rattle.rma_history.specs.History.{IsNextOf, IsToCome}
use Rattle.rma_races.specs.declared.taking.Taking.{Taking}
use Rattle.rma_races.specs.inside.Taking.{IsBegun, numbers}
use Rattle.rma_races.proofs.CallLemmas.{made_by_call, of_role}

pub of_run : (ranks : List RankCalls) (own : RankCalls) (access : Option Access) → Contains ranks own → IfSome access (Contains (accesses_of (origin_of ranks own))) → IfSome access (Contains (accesses ranks))
of_run ranks own None of_ranks has = has
of_run ranks own (Some a) of_ranks has = flat_map_has (λ (r : RankCalls). accesses_of (origin_of ranks r)) ranks own a of_ranks has

module _ (ranks : List RankCalls) (run : IsRun ranks) (own : RankCalls) (of_ranks : Contains ranks own) (taking : Taking) (begun : IsBegun ranks taking) (index number : ℕ) (call : Call) (does : Role)
    (at : slice_get taking.taken.items own.rank.0 ≡ Some index) (is : slice_get (numbers ranks own) index ≡ Some number) where
  -- the call comes next
  is_next : IsNextOf taking.next.items own.rank number
  is_next =
      begun.at own.rank.0 own (at_rank ranks run own of_ranks)
      ∙ ap (λ n. Some (slice_get (numbers ranks own) n)) (get_or_from_slice_get taking.taken.items own.rank.0 index 0 at)
      ∙ ap Some is

  pub to_come : (access : Option Access) → access ≡ access_of (origin_of ranks own) number call does → IfSome access (IsToCome taking.next.items)
  to_come None made = tt
  to_come (Some a) made =
      let by_call = made_by_call (origin_of ranks own) number call a (of_role (origin_of ranks own) number call does a (sym made)) in
      let same = by_call.0 in
      (number, subst (λ rank. IsNextOf taking.next.items rank number) (sym by_call.1) is_next, omega (arith, same))
