-- Where accesses start and are done are points of the run.
use Rattle.std.proofs.Common.{◌≡◌, ◌<◌, ◌≤◌, ◌*◌, ℕ, zero, suc, List, [], ◌∷◌, length, Bool, true, false, if◌then◌else◌, Option, Some, None, IfSome, option_map, get_or, slice_get, refl, sym, subst, arith}
use Rattle.std.specs.Prelude.{Contains}
use Rattle.std.proofs.lemmas.Option.{none-some, option_and_then_some, same_Some}
use Rattle.rma_base.specs.declared.point.Point.{Point}
use Rattle.rma_base.specs.declared.rank.Rank.{Rank}
use Rattle.rma_call.specs.Call.{Call, RankCalls}
use Rattle.rma_call.specs.declared.what.What.{What}
use Rattle.rma_call.specs.declared.what.What.TheVariants.{Local, Rma, Sync}
use Rattle.rma_clock.specs.Reached.{IsReached, points_of}
use Rattle.rma_link.specs.Point.{entry, return_of}
use Rattle.rma_run.specs.Run.{IsRun, calls_of, lens_of}
use Rattle.rma_run.proofs.CallLemmas.{calls_are_own}
use Rattle.rma_window.specs.Creation.{creations}
use Rattle.rma_window.specs.Windows.{windows_by}
use Rattle.rma_open.specs.declared.opening.EpochKind.{EpochKind}
use Rattle.rma_open.specs.declared.opening.EpochKind.TheVariants.{Fence, Lock, LockAll, Post, Start}
use Rattle.rma_epoch.specs.declared.epoch.Epoch.{Epoch}
use Rattle.rma_epoch.specs.Table.{epoch_at, epochs_of, placed_of}
use Rattle.rma_epoch.proofs.SoundLemmas.{sound_within}
use Rattle.rma_side.specs.declared.side.Side.{Side}
use Rattle.rma_side.specs.Side.{ending_point, side_of}
use Rattle.rma_rules.specs.declared.access_name.Role.{Role}
use Rattle.rma_touch.specs.Touches.{Span}
use Rattle.rma_completion.specs.Done.{local_completion, remote_completion}
use Rattle.rma_span.specs.Span.{Origin, buffer_span, done_at_caller, done_at_target, epoch_of, freeing_call, is_at_target, local_span, origin_of, own_span_of, span_of, target_span, target_span_of}
use Rattle.rma_points.proofs.EpochLemmas.{close_within, ends_within, opens_within}
use Rattle.rma_points.proofs.NumberLemmas.{AreWithin, local_within, remote_within}
use Rattle.rma_points.proofs.OptionLemmas.{map_some, mapped}

-- ---- the points of calls

points_are : (ranks : List RankCalls) (rank : ℕ) → get_or (points_of (lens_of ranks)) rank 0 ≡ 2 * length (calls_of ranks rank)
points_are [] rank = refl
points_are (r ∷ rs) zero = refl
points_are (r ∷ rs) (suc rank) = points_are rs rank

module _ (ranks : List RankCalls) where
  -- a point of the run
  abbrev pub IsOfRun : Point → Type 0
  IsOfRun = IsReached (points_of (lens_of ranks))

  -- how many calls a rank makes
  abbrev pub count : Rank → ℕ
  count rank = length (calls_of ranks rank.0)

  pub entered : (rank : Rank) (number : ℕ) → number < count rank → IsOfRun (entry rank number)
  entered rank number less = let all = points_are ranks rank.0 in omega arith

  pub returned : (rank : Rank) (number : ℕ) → number < count rank → IsOfRun (return_of rank number)
  returned rank number less = let all = points_are ranks rank.0 in omega arith

  entered_if : (rank : Rank) (number : Option ℕ) → AreWithin (count rank) number → IfSome (option_map (entry rank) number) IsOfRun
  entered_if rank number within = map_some (λ n. n < count rank) IsOfRun (entry rank) (entered rank) number within

  returned_if : (rank : Rank) (number : Option ℕ) → AreWithin (count rank) number → IfSome (option_map (return_of rank) number) IsOfRun
  returned_if rank number within = map_some (λ n. n < count rank) IsOfRun (return_of rank) (returned rank) number within

  -- ---- where accesses are done

  ended : (kind : EpochKind) (target : Rank) (side : Side) → AreWithin (count target) side.ending → IfSome (ending_point kind target side) IsOfRun
  ended Fence target side within = entered_if target side.ending within
  ended Start target side within = returned_if target side.ending within
  ended (Lock exclusive) target side within = entered_if target side.ending within
  ended LockAll target side within = entered_if target side.ending within
  ended Post target side within = entered_if target side.ending within

  at_target : (kind : EpochKind) (rank target : Rank) (side : Side) (completion : Option ℕ) → AreWithin (count target) side.ending → AreWithin (count rank) completion
      → IfSome (done_at_target kind rank target side completion) IsOfRun
  at_target Fence rank target side completion ends completes = ended Fence target side ends
  at_target Start rank target side completion ends completes = ended Start target side ends
  at_target (Lock exclusive) rank target side completion ends completes = returned_if rank completion completes
  at_target LockAll rank target side completion ends completes = returned_if rank completion completes
  at_target Post rank target side completion ends completes = tt

  at_caller : (kind : EpochKind) (rank : Rank) (number : Option ℕ) → AreWithin (count rank) number → IfSome (done_at_caller kind rank number) IsOfRun
  at_caller Fence rank number within = entered_if rank number within
  at_caller Start rank number within = returned_if rank number within
  at_caller (Lock exclusive) rank number within = returned_if rank number within
  at_caller LockAll rank number within = returned_if rank number within
  at_caller Post rank number within = returned_if rank number within

  -- ---- spans

  -- a span opens, and is done, at points of the run
  pub record IsSpanOfRun (span : Span) : Type 0 where
    pub opening : IfSome span.opening IsOfRun
    pub done : IfSome span.done IsOfRun

freed : (count : ℕ) (kind : EpochKind) (close completion : Option ℕ) → AreWithin count close → AreWithin count completion → AreWithin count (freeing_call kind close completion)
freed count Fence close completion closes completes = closes
freed count Start close completion closes completes = completes
freed count (Lock exclusive) close completion closes completes = completes
freed count LockAll close completion closes completes = completes
freed count Post close completion closes completes = completes

-- fewer are among more
among_more : (few many : ℕ) (number : Option ℕ) → few ≤ many → AreWithin few number → AreWithin many number
among_more few many None le within = tt
among_more few many (Some n) le within = omega arith

module _ (ranks : List RankCalls) (run : IsRun ranks) (own : RankCalls) (of_run : Contains ranks own) where
  abbrev origin : Origin
  origin = origin_of ranks own

  -- its sound calls are calls of the rank
  pub sound_count : length origin.sound ≤ count ranks own.rank
  sound_count =
      subst (λ (calls : List Call). length origin.sound ≤ length calls) (sym (calls_are_own ranks own run.in_order of_run)) (sound_within (windows_by (creations ranks)) own.calls)

  of_rank : (number : Option ℕ) → AreWithin (length origin.sound) number → AreWithin (count ranks own.rank) number
  of_rank number within = among_more (length origin.sound) (count ranks own.rank) number sound_count within

  local_at : (number : ℕ) → number < length origin.sound → IsSpanOfRun ranks (local_span origin number)
  local_at number less = record {
    opening = tt;
    done = let few = sound_count in entered ranks own.rank number (omega arith);
  }

  target_at : (epoch : Epoch) (target : Rank) (number : ℕ) → IsSpanOfRun ranks (target_span origin epoch target number)
  target_at epoch target number =
      let side = side_of (calls_of ranks) origin.windows own.rank epoch target in
      let completion = remote_completion origin.windows origin.sound epoch.window target number in
      record {
        opening = entered_if ranks target side.opening (opens_within ranks run epoch.kind own.rank epoch target);
        done = at_target ranks epoch.kind own.rank target side completion (ends_within ranks run epoch.kind own.rank epoch target)
            (of_rank completion (remote_within origin.windows origin.sound epoch.window target number));
      }

  buffer_at : (index : ℕ) (epoch : Epoch) (target : Rank) (request : Option ℕ) (number : ℕ) → slice_get (epochs_of origin.windows origin.sound) index ≡ Some epoch
      → IsSpanOfRun ranks (buffer_span origin epoch target request number)
  buffer_at index epoch target request number there =
      let completion = local_completion origin.windows origin.sound epoch.window target request number in
      let call = freeing_call epoch.kind epoch.close completion in
      record {
        opening = tt;
        done = at_caller ranks epoch.kind own.rank call
            (of_rank call
            (freed (length origin.sound) epoch.kind epoch.close completion (close_within origin.windows origin.sound index epoch there) (local_within origin.windows origin.sound epoch.window target request number)));
      }

  -- what a call of a number does to memory of its own rank
  own_at : (number : ℕ) (call : Call) (does : What) (span : Span) → number < length origin.sound → own_span_of origin number call does ≡ Some span → IsSpanOfRun ranks span
  own_at number call (Local local) span less is = subst (IsSpanOfRun ranks) (same_Some (local_span origin number) span is) (local_at number less)
  own_at number call (Rma access) span less is =
      option_and_then_some (λ (epoch : Epoch). option_map (λ target. buffer_span origin epoch target call.request number) access.target) (epoch_of origin number) span is
      (λ epoch stands at.
      option_and_then_some (slice_get (epochs_of origin.windows origin.sound)) (epoch_at (placed_of origin.windows origin.sound) number) epoch stands
      (λ index placed there.
      let one = mapped (λ target. buffer_span origin epoch target call.request number) access.target span at in
      subst (IsSpanOfRun ranks) one.2 (buffer_at index epoch one.0 call.request number there)))
  own_at number call (Sync sync) span less is = absurd (none-some span is)

  -- what it does at its target
  there_at : (number : ℕ) (does : What) (span : Span) → target_span_of origin number does ≡ Some span → IsSpanOfRun ranks span
  there_at number (Rma access) span is =
      option_and_then_some (λ (epoch : Epoch). option_map (λ target. target_span origin epoch target number) access.target) (epoch_of origin number) span is
      (λ epoch stands at.
      let one = mapped (λ target. target_span origin epoch target number) access.target span at in
      subst (IsSpanOfRun ranks) one.2 (target_at epoch one.0 number))
  there_at number (Local local) span is = absurd (none-some span is)
  there_at number (Sync sync) span is = absurd (none-some span is)

  -- what it does in a role
  pub span_at : (number : ℕ) (call : Call) (role : Role) (span : Span) → number < length origin.sound → span_of origin number call role ≡ Some span → IsSpanOfRun ranks span
  span_at number call role span less is = by (is_at_target role) is
    where
      by : (b : Bool) → (if b then target_span_of origin number call.what else own_span_of origin number call call.what) ≡ Some span → IsSpanOfRun ranks span
      by true at = there_at number call.what span at
      by false at = own_at number call call.what span less at
