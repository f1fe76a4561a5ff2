-- Accesses of a run may be asked for their order and their conflict.
use Rattle.std.proofs.Common.{◌≡◌, ◌<◌, ℕ, List, length, sym, ap, subst, arith}
use Rattle.std.specs.Prelude.{Contains}
use Rattle.std.proofs.lemmas.List.Elements.{All-contains}
use Rattle.std.proofs.lemmas.Option.{get_or_from_slice_get, slice_get_within}
use Rattle.rma_base.specs.declared.rank.Rank.{Rank}
use Rattle.rma_call.specs.Call.{Call, RankCalls}
use Rattle.rma_clock.specs.Reached.{points_of}
use Rattle.rma_link.specs.Point.{entry, return_of}
use Rattle.rma_epoch.specs.Table.{sound_calls}
use Rattle.rma_rules.specs.Access.{Access, IsOnWindowOf}
use Rattle.rma_rules.specs.Before.{AreReached}
use Rattle.rma_rules.specs.Spans.{Spans, publishing_of, visible_of}
use Rattle.rma_run.specs.Run.{IsRun, lens_of}
use Rattle.rma_visibility.specs.Visibility.{AreListed, publishing_calls, visible_calls}
use Rattle.rma_visibility.proofs.ListedLemmas.{publishing_below, visible_below}
use Rattle.rma_window.specs.Creation.{creations}
use Rattle.rma_window.specs.Windows.{windows_by}
use Rattle.rma_window.specs.declared.window_id.WindowId.{WindowId}
use Rattle.rma_span.specs.Span.{accesses, origin_of}
use Rattle.rma_points.specs.Points.{AreRunCalls, IsCallOfRun}
use Rattle.rma_points.proofs.AccessLemmas.{at_rank, done_at_point, is_of_run, memory_of_run, on_windows, start_at_points}
use Rattle.rma_points.proofs.SpanLemmas.{IsOfRun, count, entered, returned, sound_count}

module _ (ranks : List RankCalls) (run : IsRun ranks) (spans : Spans) (are : AreRunCalls ranks spans) where
  module _ (own : RankCalls) (of_run : Contains ranks own) (window : WindowId) (v : ℕ) where
    -- a sound call of the rank is one of the run
    sound_of_run : v < length (sound_calls (windows_by (creations ranks)) own.calls) → IsCallOfRun ranks own.rank v
    sound_of_run less =
        let few = sound_count ranks run own of_run in
        let within : v < count ranks own.rank = omega arith in
        (entered ranks own.rank v within, returned ranks own.rank v within)

    abbrev sound : List Call
    sound = sound_calls (windows_by (creations ranks)) own.calls

    listed : AreListed (windows_by (creations ranks)) own.rank (sound_calls (windows_by (creations ranks)) own.calls) spans
    listed = are own.rank.0 own (at_rank ranks run own of_run)

    pub published_of_run : Contains (publishing_of spans own.rank window) v → IsCallOfRun ranks own.rank v
    published_of_run has =
        sound_of_run
        (All-contains (λ k. k < length sound) (publishing_calls (windows_by (creations ranks)) sound window) v (publishing_below (windows_by (creations ranks)) sound window)
        (subst (λ l. Contains l v) (listed.publishing window) has))

    pub shown_of_run : Contains (visible_of spans own.rank window) v → IsCallOfRun ranks own.rank v
    shown_of_run has =
        sound_of_run
        (All-contains (λ k. k < length sound) (visible_calls (windows_by (creations ranks)) sound window) v (visible_below (windows_by (creations ranks)) sound window)
        (subst (λ l. Contains l v) (listed.visible window) has))

  -- a rank whose memory an access touches is that of its log
  record IsMemory (a : Access) : Type 0 where
    own : RankCalls
    of_run : Contains ranks own
    rank_is : own.rank ≡ a.memory

  is_memory : (a : Access) → Contains (accesses ranks) a → IsMemory a
  is_memory a has =
      let one = memory_of_run ranks run a has in
      let in_order = run.in_order a.memory.0 one.0 one.1 in
      let rank = λ (r : ℕ). let it : Rank = record { 0 = r } in it in
      record {
        own = one.0;
        of_run = (a.memory.0, slice_get_within ranks a.memory.0 one.0 one.1, get_or_from_slice_get ranks a.memory.0 one.0 one.0 one.1);
        rank_is = ap rank in_order;
      }

  on_windows_of_run : (a : Access) → Contains (accesses ranks) a → IsOnWindowOf (windows_by (creations ranks)) a
  on_windows_of_run a has = let one = is_of_run ranks a has in on_windows (origin_of ranks one.own) a one.made

  pub may_be_asked : (a b : Access) → Contains (accesses ranks) a → Contains (accesses ranks) b
      → AreReached (points_of (lens_of ranks)) spans a b × IsOnWindowOf (windows_by (creations ranks)) a × IsOnWindowOf (windows_by (creations ranks)) b
  may_be_asked a b has also =
      let memory = is_memory a has in (
        record {
          done = done_at_point ranks run a has;
          starts = start_at_points ranks run b also;
          visible = λ window through v among before. subst (λ (r : Rank). IsOfRun ranks (return_of r v)) memory.rank_is
              (shown_of_run memory.own memory.of_run window v (subst (λ (r : Rank). Contains (visible_of spans r window) v) (sym memory.rank_is) among)).1;
          publishing = λ window through v among. subst (λ (r : Rank). IsOfRun ranks (entry r v)) memory.rank_is
              (published_of_run memory.own memory.of_run window v (subst (λ (r : Rank). Contains (publishing_of spans r window) v) (sym memory.rank_is) among)).0;
        },
        on_windows_of_run a has,
        on_windows_of_run b also,
      )
