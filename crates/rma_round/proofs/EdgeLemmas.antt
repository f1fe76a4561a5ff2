-- The edges of a run, one by one.
use Rattle.std.proofs.Common.{◌≡◌, ℕ, ◌<◌, Bool, true, false, cond, List, [], ◌∷◌, Option, Some, None, nat_eq, get_or, slice_get, position, refl, sym, ap, subst, ◌∙◌}
use Rattle.std.specs.Prelude.{All, Contains, option_map}
use Rattle.std.specs.List.{cons_option}
use Rattle.std.specs.Option.{option_and_then}
use Rattle.std.proofs.lemmas.Option.{slice_get_within, none-some}
use Rattle.rma_call.specs.Call.{Call, RankCalls}
use Rattle.rma_link.specs.declared.edge.Edge.{Edge}
use Rattle.rma_link.specs.Point.{entry, return_of}
use Rattle.rma_link.specs.Within.{IsEdgeWithin}
use Rattle.rma_run.specs.Run.{AreInOrder, calls_of, lens_of}
use Rattle.rma_run.proofs.CallLemmas.{lens_are, number_below}
use Rattle.rma_run.proofs.ContainLemmas.{has_first, has_none, first_or_later, in_by_rank, by_rank_has, IsCallIn, all_from_contains}
use Rattle.rma_round.specs.declared.kind.Kind.TheVariants.{Moving}
use Rattle.rma_round.specs.declared.kind_rounds.KindRounds.{KindRounds}
use Rattle.rma_round.specs.Round.{numbers, match_of}
use Rattle.rma_round.specs.inside.Rounds.{kept, numbers_in, AreOfKind}
use Rattle.rma_round.specs.Edge.{Rooted, rooted_of, edge_with, edge_of, edge_at, edges_at, round_edges, IsRoundEdge}
use Rattle.rma_round.proofs.NumberLemmas.{match_is}

module _ (ranks : List RankCalls) (own : RankCalls) (number : ℕ) (call : Call) (isin : IsCallIn ranks own number call) (edge : Edge) where
  of_match : (at : Rooted) → rooted_of call.what ≡ Some at → nat_eq at.root.0 own.rank.0 ≡ false → (o : Option ℕ) → match_of Moving at.comm (calls_of ranks) own.rank.0 number at.root.0 ≡ o
      → option_map (edge_with own.rank number at) o ≡ Some edge → IsRoundEdge ranks edge
  of_match at moves other None is leads = absurd (cc)
  of_match at moves other (Some root_call) is leads = record {
    own = own;
    number = number;
    call = call;
    at = at;
    root_call = root_call;
    of_run = isin.of_run;
    there = isin.there;
    moves = moves;
    is_not_root = other;
    matched = is;
    leads = cc;
  }

  of_test : (at : Rooted) → rooted_of call.what ≡ Some at → (b : Bool) → nat_eq at.root.0 own.rank.0 ≡ b
      → option_map (edge_with own.rank number at) (cond b None (match_of Moving at.comm (calls_of ranks) own.rank.0 number at.root.0)) ≡ Some edge → IsRoundEdge ranks edge
  of_test at moves true is leads = absurd (cc)
  of_test at moves false is leads = of_match at moves is (match_of Moving at.comm (calls_of ranks) own.rank.0 number at.root.0) refl leads

  of_movement : (o : Option Rooted) → rooted_of call.what ≡ o → option_and_then (edge_of (calls_of ranks) own.rank number) o ≡ Some edge → IsRoundEdge ranks edge
  of_movement None is leads = absurd (cc)
  of_movement (Some at) is leads = of_test at is (nat_eq at.root.0 own.rank.0) refl leads

  of_edge : (o : Option Edge) → edge_at (calls_of ranks) own.rank number call.what ≡ o → Contains (cons_option o []) edge → IsRoundEdge ranks edge
  of_edge None is has = has_none edge has
  of_edge (Some e) is has = of_movement (rooted_of call.what) refl (is ∙ ap Some (first_or_later e edge [] (λ at. at) (λ later. has_none edge later) has))

-- an edge of the list is one of the run
pub edge_is : (ranks : List RankCalls) (edge : Edge) → Contains (round_edges ranks) edge → IsRoundEdge ranks edge
edge_is ranks edge has =
    let one = in_by_rank (edges_at (calls_of ranks)) ranks edge has in
    of_edge ranks one.0 one.1 one.2 one.3 edge (edge_at (calls_of ranks) one.0.rank one.1 one.2.what) refl one.4

-- an edge of the run is in the list
pub edge_has : (ranks : List RankCalls) (edge : Edge) → IsRoundEdge ranks edge → Contains (round_edges ranks) edge
edge_has ranks edge is =
    let from : edge_at (calls_of ranks) is.own.rank is.number is.call.what ≡ Some edge = rw (is.moves, is.is_not_root, is.matched) (ap Some is.leads) in
    by_rank_has (edges_at (calls_of ranks)) ranks is.own is.number is.call edge (record { of_run = is.of_run; there = is.there })
    (subst (λ o. Contains (cons_option o []) edge) (sym from) (has_first edge []))

none_there : {X : Type 0} (xs : List X) → ((x : X) → Contains xs x → ⊥) → [] ≡ xs
none_there [] none = refl
none_there (x ∷ xs) none = absurd (none x (has_first x xs))

-- where no call moves data there is no edge
pub no_edges : (ranks : List RankCalls) (rounds : KindRounds) → AreOfKind Moving (calls_of ranks) rounds → rounds.names.entries ≡ [] → [] ≡ round_edges ranks
no_edges ranks rounds are none =
    none_there (round_edges ranks)
    (λ edge has.
    let is = edge_is ranks edge has in
    let no : [] ≡ numbers Moving is.at.comm (calls_of ranks is.own.rank.0) = ap (λ names. numbers_in (kept names is.at.comm) is.own.rank.0) (sym none) ∙ are.numbers_are is.at.comm is.own.rank.0 in
    let unmatched : None ≡ Some is.root_call = ap (λ l. option_and_then (slice_get (numbers Moving is.at.comm (calls_of ranks is.at.root.0))) (position (λ m. nat_eq m is.number) l)) no ∙ is.matched in
    none-some is.root_call unmatched)

edge_within : (ranks : List RankCalls) (edge : Edge) → AreInOrder ranks → IsRoundEdge ranks edge → IsEdgeWithin (lens_of ranks) edge
edge_within ranks edge in_order is = subst (IsEdgeWithin (lens_of ranks)) is.leads (by is.at.to_root)
  where
    own : is.number < get_or (lens_of ranks) is.own.rank.0 0
    own = number_below ranks is.own is.number is.call in_order is.of_run is.there

    root : is.root_call < get_or (lens_of ranks) is.at.root.0 0
    root =
        let one = match_is Moving is.at.comm (calls_of ranks) is.own.rank.0 is.number is.at.root.0 is.root_call is.matched in
        rw (lens_are ranks is.at.root.0) (slice_get_within (calls_of ranks is.at.root.0) is.root_call one.0 one.1)

    by : (b : Bool) → IsEdgeWithin (lens_of ranks) (cond b (record { from = entry is.own.rank is.number; to = return_of is.at.root is.root_call }) (record { from = entry is.at.root is.root_call; to = return_of is.own.rank is.number }))
    by true = ((is.number, own, refl), (is.root_call, root, refl))
    by false = ((is.root_call, root, refl), (is.number, own, refl))

-- the edges of a run are between its calls
pub edges_are_within : (ranks : List RankCalls) → AreInOrder ranks → All (IsEdgeWithin (lens_of ranks)) (round_edges ranks)
edges_are_within ranks in_order = all_from_contains (IsEdgeWithin (lens_of ranks)) (round_edges ranks) (λ edge has. edge_within ranks edge in_order (edge_is ranks edge has))
