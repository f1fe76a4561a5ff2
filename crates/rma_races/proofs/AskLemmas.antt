-- What the histories of memories ask is known of a run.
use Rattle.std.proofs.Common.{◌≡◌, ◌<◌, ◌^◌, ℕ, zero, suc, List, [], ◌∷◌, length, Option, Some, None, slice_get, slice_index, refl, sym, subst, ◌∙◌, arith}
use Rattle.std.specs.Prelude.{Contains}
use Rattle.std.proofs.lemmas.Option.{none-some, same_Some, slice_get_within}
use Rattle.rma_base.specs.declared.rank.Rank.{Rank}
use Rattle.rma_call.specs.Call.{RankCalls}
use Rattle.rma_clock.specs.Reached.{points_of}
use Rattle.rma_link.specs.Point.{entry}
use Rattle.rma_run.specs.Run.{lens_of}
use Rattle.rma_window.specs.Creation.{creations}
use Rattle.rma_window.specs.Windows.{Window, windows_by}
use Rattle.rma_rules.specs.Access.{Access, IsOnWindowOf}
use Rattle.rma_rules.specs.Spans.{Spans, publishing_of}
use Rattle.rma_span.specs.Span.{accesses, origin_of}
use Rattle.rma_epoch.proofs.SoundLemmas.{sound_within}
use Rattle.rma_points.proofs.AccessLemmas.{done_at_point, is_of_run, memory_of_run, on_windows}
use Rattle.rma_points.proofs.AskedLemmas.{may_be_asked, published_of_run}
use Rattle.rma_points.proofs.SpanLemmas.{IsOfRun, entered, sound_count}
use Rattle.rma_accesses.proofs.RankLemmas.{contained}
use Rattle.rma_chain.specs.Asked.{MayBeAsked}
use Rattle.rma_history.specs.History.{AreKnown}
use Rattle.rma_races.specs.declared.taking.Taking.{Taking}
use Rattle.rma_races.specs.inside.Taking.{IsBegun, IsKnown, numbers}
use Rattle.rma_races.proofs.CallLemmas.{is_number}

pub some_at : {X : Type 0} (xs : List X) (i : ℕ) → i < length xs → (x : X) × (slice_get xs i ≡ Some x)
some_at [] i less = absurd (omega arith)
some_at (x ∷ xs) zero less = (x, refl)
some_at (x ∷ xs) (suc i) less = some_at xs i (omega arith)

rank_from : (rank other : Rank) → rank.0 ≡ other.0 → rank ≡ other
rank_from rank other same = λ k. record { 0 = same k }

module _ (ranks : List RankCalls) (windows : List Window) (spans : Spans) (known : IsKnown ranks windows spans) where
  pub on_window : (a : Access) → Contains (accesses ranks) a → IsOnWindowOf windows a
  on_window a has =
      let one = is_of_run ranks a has in
      subst (λ them. IsOnWindowOf them a) (sym known.windows_are) (on_windows (origin_of ranks one.own) a one.made)

  pub may_ask : (a b : Access) → Contains (accesses ranks) a → Contains (accesses ranks) b → MayBeAsked (points_of (lens_of ranks)) windows spans a b
  may_ask a b has also = record {
    on_a = on_window a has;
    on_b = on_window b also;
    reached = (may_be_asked ranks known.run spans known.calls a b has also).0;
    reached_back = (may_be_asked ranks known.run spans known.calls b a also has).0;
  }

  module _ (taking : Taking) (begun : IsBegun ranks taking) where
    -- the next call of a rank is a call of the run
    entered_next : (rank : Rank) (call : ℕ) → slice_get taking.next.items rank.0 ≡ Some (Some call) → (call < 2 ^ 31) × IsOfRun ranks (entry rank call)
    entered_next rank call comes = by (slice_get ranks rank.0) refl
      where
        by : (o : Option RankCalls) → slice_get ranks rank.0 ≡ o → (call < 2 ^ 31) × IsOfRun ranks (entry rank call)
        by None is =
            let within = slice_get_within taking.next.items rank.0 (Some call) comes in
            let long = begun.next in
            let there = some_at ranks rank.0 (omega (arith, within, long)) in
            absurd (none-some there.0 (sym is ∙ there.1))
        by (Some own) is =
            let at = same_Some (Some call) (slice_get (numbers ranks own) (slice_index taking.taken.items rank.0)) (sym comes ∙ begun.at rank.0 own is) in
            let one = is_number (origin_of ranks own) (slice_index taking.taken.items rank.0) call (sym at) in
            let within = slice_get_within (origin_of ranks own).sound call one.0 one.1 in
            let of_run = contained ranks rank.0 own is in
            let same = rank_from own.rank rank (known.run.in_order rank.0 own is) in
            let fits = known.run.few rank.0 own is in
            let fewer = sound_within (windows_by (creations ranks)) own.calls in
            let all = sound_count ranks known.run own of_run in (
              (omega (arith, within, fits, fewer)),
              subst (λ r. IsOfRun ranks (entry r call)) same (entered ranks own.rank call (omega (arith, within, all))),
            )

    pub are_known : (a : Access) → Contains (accesses ranks) a → AreKnown (points_of (lens_of ranks)) windows spans taking.next.items a
    are_known a has = record {
      on_window = on_window a has;
      done = done_at_point ranks known.run a has;
      entered = entered_next;
      publishing = λ window v among.
          let memory = memory_of_run ranks known.run a has in
          let same = rank_from memory.0.rank a.memory (known.run.in_order a.memory.0 memory.0 memory.1) in
          let of_run = contained ranks a.memory.0 memory.0 memory.1 in
          subst (λ r. IsOfRun ranks (entry r v)) same (published_of_run ranks known.run spans known.calls memory.0 of_run window v (subst (λ r. Contains (publishing_of spans r window) v) (sym same) among)).0;
    }
