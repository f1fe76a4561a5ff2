-- The links of a run are between its calls, and links with the same edges and meets link the same.
use Rattle.std.proofs.Common.{◌≡◌, ◌⊎◌, inl, inr, List, [], ◌++◌, subst, sym, arith}
use Rattle.std.specs.Prelude.{All, Contains}
use Rattle.std.proofs.lemmas.List.Elements.{All-append, All-contains, All-contains_itself}
use Rattle.rma_base.specs.declared.point.Point.{Point}
use Rattle.rma_call.specs.Call.{RankCalls}
use Rattle.rma_run.specs.Run.{AreInOrder, lens_of}
use Rattle.rma_message.proofs.NumberLemmas as message
use Rattle.rma_exposure.proofs.EdgeLemmas as exposure
use Rattle.rma_round.proofs.EdgeLemmas as round
use Rattle.rma_round.proofs.MeetLemmas.{meets_are_within}
use Rattle.rma_link.specs.declared.edge.Edge.{Edge}
use Rattle.rma_link.specs.declared.meet.Meet.{Meet}
use Rattle.rma_link.specs.declared.links.Links.{Links}
use Rattle.rma_link.specs.Link.{IsLinked}
use Rattle.rma_link.specs.Within.{AreWithin, IsEdgeWithin, IsMeetWithin}
use Rattle.rma_message.specs.Messages.{message_edges}
use Rattle.rma_exposure.specs.Edge.{exposure_edges}
use Rattle.rma_round.specs.Edge.{round_edges}
use Rattle.rma_round.specs.Meet.{HasMeets, round_meets}
use Rattle.rma_order.specs.RunLinks.{LinkTheSame, links_of}

pub links_are_within : (ranks : List RankCalls) → AreInOrder ranks → AreWithin (lens_of ranks) (links_of ranks)
links_are_within ranks in_order =
    let P = IsEdgeWithin (lens_of ranks) in
    record {
      edges = All-append P (message_edges ranks ++ exposure_edges ranks) (round_edges ranks)
          (All-append P (message_edges ranks) (exposure_edges ranks) (message.edges_are_within ranks in_order) (exposure.edges_are_within ranks)) (round.edges_are_within ranks in_order);
      meets = meets_are_within ranks in_order;
    }

-- a meet that a list has beside none is one of the others
one_of : (all more : List Meet) → HasMeets all [] more → (meet : Meet) → Contains all meet → Contains more meet
one_of all more has meet there = either ((has meet).0 there)
  where
    either : Contains [] meet ⊎ Contains more meet → Contains more meet
    either (inl none) = absurd (omega (arith, none.1))
    either (inr other) = other

module _ (ranks : List RankCalls) (links : Links) (edges : links.edges ≡ (links_of ranks).edges) (meets : HasMeets links.meets [] (round_meets ranks)) where
  pub links_are_same : LinkTheSame links (links_of ranks)
  links_are_same = record { only = forth; all = back }
    where
      forth : (from to : Point) → IsLinked links from to → IsLinked (links_of ranks) from to
      forth from to (inl has) = inl (subst (λ (es : List Edge). Contains es (record { from = from; to = to })) edges has)
      forth from to (inr met) = inr (record {
        meet = met.meet;
        first = met.first;
        second = met.second;
        is_meet = one_of links.meets (round_meets ranks) meets met.meet met.is_meet;
        has_first = met.has_first;
        has_second = met.has_second;
        differ = met.differ;
        from_entry = met.from_entry;
        to_return = met.to_return;
      })

      back : (from to : Point) → IsLinked (links_of ranks) from to → IsLinked links from to
      back from to (inl has) = inl (subst (λ (es : List Edge). Contains es (record { from = from; to = to })) (sym edges) has)
      back from to (inr met) = inr (record {
        meet = met.meet;
        first = met.first;
        second = met.second;
        is_meet = (meets met.meet).1 (inr met.is_meet);
        has_first = met.has_first;
        has_second = met.has_second;
        differ = met.differ;
        from_entry = met.from_entry;
        to_return = met.to_return;
      })

  pub same_within : AreWithin (lens_of ranks) (links_of ranks) → AreWithin (lens_of ranks) links
  same_within within = record {
    edges = subst (All (IsEdgeWithin (lens_of ranks))) (sym edges) within.edges;
    meets = λ k d lt.
        All-contains (IsMeetWithin (lens_of ranks)) (round_meets ranks) _ within.meets
        (one_of links.meets (round_meets ranks) meets _ (All-contains_itself links.meets k d lt));
  }
