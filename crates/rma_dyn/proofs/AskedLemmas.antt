-- What is asked of the clocks for an access of a run.
use Rattle.std.proofs.Common.{◌≡◌, ◌<◌, ◌≤◌, ◌^◌, ℕ, List, [], length, Some, sym, ap, subst, arith}
use Rattle.std.specs.Prelude.{Contains}
use Rattle.std.specs.Option.{option_map_or}
use Rattle.std.proofs.lemmas.Option.{slice_get_within}
use Rattle.rma_base.specs.declared.rank.Rank.{Rank}
use Rattle.rma_call.specs.Call.{RankCalls}
use Rattle.rma_clock.specs.Reached.{points_of}
use Rattle.rma_link.specs.Point.{entry}
use Rattle.rma_run.specs.Run.{IsRun, calls_of, lens_of}
use Rattle.rma_window.specs.Creation.{creations}
use Rattle.rma_window.specs.Windows.{windows_by}
use Rattle.rma_window.specs.declared.window_id.WindowId.{WindowId}
use Rattle.rma_rules.specs.Access.{Access}
use Rattle.rma_span.specs.Span.{accesses, origin_of}
use Rattle.rma_points.proofs.AccessLemmas.{done_at_point, is_of_run, memory_of_run, on_windows}
use Rattle.rma_points.proofs.SpanLemmas.{IsOfRun, entered, returned, sound_count}
use Rattle.rma_dyn.specs.inside.Reached.{IsAskable}
use Rattle.rma_dyn.proofs.MadeLemmas.{number_of_made}

module _ (ranks : List RankCalls) (run : IsRun ranks) (a : Access) (has : Contains (accesses ranks) a) where
  pub memory_there : a.memory.0 < length ranks
  memory_there = let own = memory_of_run ranks run a has in slice_get_within ranks a.memory.0 own.0 own.1

  few : length (calls_of ranks a.memory.0) ≤ 2 ^ 31
  few =
      let own = memory_of_run ranks run a has in
      let calls : calls_of ranks a.memory.0 ≡ own.0.calls = ap (λ o. option_map_or (λ (r : RankCalls). r.calls) o []) own.1 in
      let least = run.few a.memory.0 own.0 own.1 in
      let lengths = ap length calls in
      omega arith

  entering : IsOfRun ranks (entry a.name.rank a.call)
  entering =
      let made = is_of_run ranks a has in
      let number = number_of_made (origin_of ranks made.own) a made.made in
      let count = sound_count ranks run made.own made.of_run in
      let less = number.1 in
      subst (λ (r : Rank). IsOfRun ranks (entry r a.call)) (sym number.0) (entered ranks made.own.rank a.call (omega arith))

  pub may_ask : IsAskable (points_of (lens_of ranks)) a a.memory (length (calls_of ranks a.memory.0))
  may_ask = record {
    entered = entering;
    done = λ p is. done_at_point ranks run a has p is;
    calls = λ call less. (entered ranks a.memory call less, returned ranks a.memory call less);
    small = few;
  }

  pub asked : (rank : Rank) (count : ℕ) → a.memory ≡ rank → count ≡ length (calls_of ranks rank.0) → IsAskable (points_of (lens_of ranks)) a rank count
  asked rank count memory is =
      subst (IsAskable (points_of (lens_of ranks)) a rank) (sym is) (subst (λ (r : Rank). IsAskable (points_of (lens_of ranks)) a r (length (calls_of ranks r.0))) memory may_ask)

  pub on_window : (window : WindowId) → a.window ≡ Some window → window.0 < length (windows_by (creations ranks))
  on_window window is = let made = is_of_run ranks a has in on_windows (origin_of ranks made.own) a made.made window is
