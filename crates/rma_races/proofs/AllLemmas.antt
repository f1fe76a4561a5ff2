-- Where the calls of all points were taken, all accesses of the run were.
use Rattle.std.proofs.Common.{◌≡◌, ◌<◌, ◌+◌, ◌*◌, ◌/◌, ◌↔◌, ℕ, List, [], length, Some, slice_get, slice_index, subst, arith}
use Rattle.std.specs.Prelude.{Contains}
use Rattle.std.proofs.lemmas.Option.{get_or_from_slice_get, slice_get_within}
use Rattle.rma_base.specs.declared.point.Point.{Point}
use Rattle.rma_call.specs.Call.{RankCalls}
use Rattle.rma_finding.specs.declared.finding.FoundRace.{FoundRace}
use Rattle.rma_link.specs.declared.links.Links.{Links}
use Rattle.rma_link.specs.Point.{IsPoint, entry}
use Rattle.rma_run.specs.Run.{IsRun, lens_of}
use Rattle.rma_run.proofs.ContainLemmas.{has_none, in_flat_map}
use Rattle.rma_window.specs.Creation.{creations}
use Rattle.rma_window.specs.Windows.{Window, windows_by}
use Rattle.rma_epoch.proofs.SoundLemmas.{sound_within}
use Rattle.rma_pairs.specs.Races.{IsFound}
use Rattle.rma_rules.specs.Access.{Access}
use Rattle.rma_rules.specs.Spans.{Spans}
use Rattle.rma_span.specs.Span.{accesses, accesses_at, origin_of}
use Rattle.rma_span.proofs.ListedLemmas.{all_accesses}
use Rattle.rma_points.proofs.AccessLemmas.{at_rank, is_of_run}
use Rattle.rma_accesses.proofs.RankLemmas.{mapped, place_of}
use Rattle.rma_races.specs.declared.taking.Taking.{Taking}
use Rattle.rma_races.specs.inside.Taking.{AreTaken, HasTaken, IsBegun, IsFurther, IsThrough, numbers}
use Rattle.rma_races.proofs.CallLemmas.{is_number}

half : (n : ℕ) → n < (2 * n) / 2 + 1
half n = omega arith

module _ (ranks : List RankCalls) (run : IsRun ranks) where
  -- a call that accesses memory is entered at a point of the run
  is_point : (own : RankCalls) → Contains ranks own → (k number : ℕ) → slice_get (numbers ranks own) k ≡ Some number → IsPoint (lens_of ranks) (entry own.rank number)
  is_point own of_run k number at =
      let call = is_number (origin_of ranks own) k number at in
      let within = slice_get_within (origin_of ranks own).sound number call.0 call.1 in
      let fewer = sound_within (windows_by (creations ranks)) own.calls in
      let there = mapped (λ (r : RankCalls). length r.calls) ranks own.rank.0 own (at_rank ranks run own of_run) in
      let len : slice_index (lens_of ranks) own.rank.0 ≡ length own.calls = get_or_from_slice_get (lens_of ranks) own.rank.0 (length own.calls) 0 there in
      omega (arith, within, fewer, len)

  pub all_taken : (points : List Point) (seen : List Access) (taken : List ℕ) → ((p : Point) → IsPoint (lens_of ranks) p → Contains points p)
      → ((j : ℕ) (p : Point) → slice_get points j ≡ Some p → IsThrough ranks taken p.rank.0 (p.pos / 2)) → HasTaken ranks seen taken → (a : Access) → Contains (accesses ranks) a → Contains seen a
  all_taken points seen taken all through has a of =
      let one = is_of_run ranks a of in
      let own = one.own in
      let origin = origin_of ranks own in
      let of_call = in_flat_map (accesses_at origin) (numbers ranks own) a (subst (λ (l : List Access). Contains l a) (all_accesses origin) one.made) in
      let number = of_call.0 in
      let place = place_of (numbers ranks own) number of_call.1 in
      let point = entry own.rank number in
      let at = place_of points point (all point (is_point own one.of_run place.0 number place.1)) in
      let there = at_rank ranks run own one.of_run in
      has own.rank.0 own place.0 number a there (through at.0 point at.1 own place.0 number there place.1 (half number)) place.1 of_call.2

-- what a rank was taken through it stays taken through
pub still_through : (ranks : List RankCalls) (before after : List ℕ) (rank call : ℕ) → IsFurther before after → IsThrough ranks before rank call → IsThrough ranks after rank call
still_through ranks before after rank call further through own k number there at le =
    let was = through own k number there at le in
    let now = further rank in
    omega (arith, was, now)

-- what is found among what was taken is what is found in the run, where all was taken
pub found_all : (links : Links) (windows : List Window) (spans : Spans) (ranks : List RankCalls) (seen : List Access) (race : FoundRace) → ((a : Access) → Contains seen a → Contains (accesses ranks) a)
    → ((a : Access) → Contains (accesses ranks) a → Contains seen a) → IsFound links windows spans seen race ↔ IsFound links windows spans (accesses ranks) race
found_all links windows spans ranks seen race only all = (
  λ found. record { a = found.a; b = found.b; has_a = only found.a found.has_a; has_b = only found.b found.has_b; is = found.is },
  λ found. record { a = found.a; b = found.b; has_a = all found.a found.has_a; has_b = all found.b found.has_b; is = found.is },
)

-- nothing is taken yet
pub none_taken : (links : Links) (windows : List Window) (spans : Spans) (ranks : List RankCalls) (taking : Taking) → IsBegun ranks taking → taking.found.items ≡ []
    → ((i : ℕ) (history : List Access) → slice_get taking.memories.items i ≡ Some history → history ≡ []) → AreTaken links windows spans ranks [] taking
none_taken links windows spans ranks taking begun none empty = record {
  begun = begun;
  of_run = λ a has. has_none a has;
  kept = λ memory history a at has. has_none a (subst (λ (h : List Access). Contains h a) (empty memory history at) has);
  gone = λ a has. has_none a has;
  found = λ race. (λ has. has_none race (subst (λ (l : List FoundRace). Contains l race) none has), λ found. has_none found.a found.has_a);
}
