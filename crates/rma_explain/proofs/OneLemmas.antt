-- A race of a run has one pair of cuts, whichever lists stand beside its accesses.
use Rattle.std.proofs.Common.{◌≡◌, ℕ, List, length, inl, inr, sym, ap, subst, ◌∙◌}
use Rattle.std.specs.Prelude.{Contains}
use Rattle.rma_base.specs.declared.point.Point.{Point}
use Rattle.rma_base.specs.declared.rank.Rank.{Rank}
use Rattle.rma_call.specs.Call.{RankCalls}
use Rattle.rma_kept.specs.Kept.{AreKept}
use Rattle.rma_run.specs.Run.{AreInOrder}
use Rattle.rma_link.specs.declared.links.Links.{Links}
use Rattle.rma_window.specs.Windows.{Window}
use Rattle.rma_window.specs.declared.window_id.WindowId.{WindowId}
use Rattle.rma_rules.specs.Access.{Access}
use Rattle.rma_rules.specs.Spans.{Spans, visible_of}
use Rattle.rma_span.specs.Span.{accesses}
use Rattle.rma_points.specs.Points.{AreRunCalls}
use Rattle.rma_finding.specs.declared.finding.FoundRace.{FoundRace}
use Rattle.rma_cut.specs.Show.{AreLeast, IsAsked, IsLastVisible, IsLeast}
use Rattle.rma_cut.specs.declared.cuts.Cuts.{Cuts}
use Rattle.rma_cut.proofs.LeastLemmas.{least_pair_is_one}
use Rattle.rma_explain.specs.Explanation.{AreCutsOf}
use Rattle.rma_explain.proofs.MemoryLemmas.{memory_in_order}
use Rattle.rma_explain.proofs.NameLemmas.{have_names}

-- ---- lists with the same calls

-- the same calls make updates visible to a rank
abbrev AreSeenAlike : Spans → Spans → Rank → Type 0
AreSeenAlike lists others rank = (window : WindowId) → visible_of lists rank window ≡ visible_of others rank window

-- to a rank whose memory an access touches
seen_alike : (ranks : List RankCalls) → AreInOrder ranks → (lists others : Spans) → AreRunCalls ranks lists → AreRunCalls ranks others → (a : Access) → Contains (accesses ranks) a
    → AreSeenAlike lists others a.memory
seen_alike ranks in_order lists others are also a has window =
    let (own, there) = memory_in_order ranks in_order a has in
    let rank : own.rank ≡ a.memory = ap (λ (r : ℕ). let it : Rank = record { 0 = r } in it) (in_order a.memory.0 own there) in
    subst (λ (r : Rank). visible_of lists r window ≡ visible_of others r window) rank ((are a.memory.0 own there).visible window ∙ sym ((also a.memory.0 own there).visible window))

last_visible : (lists others : Spans) (rank : Rank) (window : WindowId) (call v : ℕ) → AreSeenAlike lists others rank → IsLastVisible lists rank window call v → IsLastVisible others rank window call v
last_visible lists others rank window call v same is = record {
  listed = subst (λ (l : List ℕ). Contains l v) (same window) is.listed;
  before = is.before;
  last = λ other among. is.last other (subst (λ (l : List ℕ). Contains l other) (sym (same window)) among);
}

module _ (links : Links) (lens : List ℕ) (windows : List Window) (lists others : Spans) (a b : Access) where
  asked_with : AreSeenAlike lists others a.memory → (p : Point) → IsAsked windows lists a b p → IsAsked windows others a b p
  asked_with same p (inl (done, window, v, is, needs, last, at)) = inl (done, window, v, is, needs, last_visible lists others a.memory window b.call v same last, at)
  asked_with same p (inr starts) = inr starts

module _ (links : Links) (lens : List ℕ) (windows : List Window) (lists others : Spans) where
  least_with : (a b : Access) → AreSeenAlike lists others a.memory → (cut : List ℕ) → IsLeast links lens windows lists a b cut → IsLeast links lens windows others a b cut
  least_with a b same cut least = record {
    is_cut = least.is_cut;
    has = λ p. (
      λ reached. let one = (least.has p).0 reached in (one.0, asked_with links lens windows lists others a b same one.0 one.1, one.2),
      λ asked. (least.has p).1 (asked.0, asked_with links lens windows others lists a b (λ window. sym (same window)) asked.0 asked.1, asked.2),
    );
  }

  are_least_with : (a b : Access) (cuts : Cuts) → AreSeenAlike lists others a.memory → AreSeenAlike lists others b.memory → AreLeast links lens windows lists a b cuts → AreLeast links lens windows others a b cuts
  are_least_with a b cuts same_a same_b least = record { first = least_with a b same_a cuts.first least.first; second = least_with b a same_b cuts.second least.second }

-- ---- one pair of cuts

pub one_explanation : (ranks : List RankCalls) (links : Links) (lens : List ℕ) (windows : List Window) (spans others : Spans) (race : FoundRace) (cuts more : Cuts)
    → AreInOrder ranks → ((own : RankCalls) → Contains ranks own → AreKept own.rank.0 (length ranks) own.calls) → AreRunCalls ranks spans → AreRunCalls ranks others
    → AreCutsOf links lens windows spans (accesses ranks) race cuts → AreCutsOf links lens windows others (accesses ranks) race more → cuts ≡ more
one_explanation ranks links lens windows spans others race cuts more in_order kept are also one two =
    let names = have_names ranks in_order kept in
    let same_a : one.a ≡ two.a = names one.a two.a one.has_a two.has_a (sym one.found.first_is ∙ two.found.first_is) in
    let same_b : one.b ≡ two.b = names one.b two.b one.has_b two.has_b (sym one.found.second_is ∙ two.found.second_is) in
    let back : AreLeast links lens windows others one.a one.b more =
    subst (λ (a : Access). AreLeast links lens windows others a one.b more) (sym same_a) (subst (λ (b : Access). AreLeast links lens windows others two.a b more) (sym same_b) two.least) in
    let there : AreLeast links lens windows others one.a one.b cuts =
    are_least_with links lens windows spans others one.a one.b cuts (seen_alike ranks in_order spans others are also one.a one.has_a) (seen_alike ranks in_order spans others are also one.b one.has_b) one.least in
    least_pair_is_one links lens windows others one.a one.b cuts more there back
