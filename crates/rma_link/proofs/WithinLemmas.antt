-- Links between the calls of a run, as they are pushed.
use Rattle.std.proofs.Common.{◌≡◌, ℕ, List, [], ◌∷◌, ◌++◌, sym, subst}
use Rattle.std.specs.Prelude.{All}
use Rattle.std.proofs.lemmas.List.Elements.{All-nil, All-push}
use Rattle.rma_link.specs.declared.edge.Edge.{Edge}
use Rattle.rma_link.specs.declared.meet.Meet.{Meet}
use Rattle.rma_link.specs.declared.links.Links.{Links}
use Rattle.rma_link.specs.Within.{IsEdgeWithin, IsMeetWithin, AreWithin}

pub within_none : (lens : List ℕ) (links : Links) → links.edges ≡ [] → links.meets ≡ [] → AreWithin lens links
within_none lens links edges meets = record {
  edges = subst (All (IsEdgeWithin lens)) (sym edges) (All-nil (IsEdgeWithin lens));
  meets = subst (All (IsMeetWithin lens)) (sym meets) (All-nil (IsMeetWithin lens));
}

pub within_edge : (lens : List ℕ) (links new : Links) (edge : Edge) → new ≡ record links { edges = links.edges ++ edge ∷ [] } → IsEdgeWithin lens edge → AreWithin lens links → AreWithin lens new
within_edge lens links new edge is fine ok =
    subst (AreWithin lens) (sym is) (record { edges = All-push (IsEdgeWithin lens) links.edges edge ok.edges fine; meets = ok.meets })

pub within_meet : (lens : List ℕ) (links new : Links) (meet : Meet) → new ≡ record links { meets = links.meets ++ meet ∷ [] } → IsMeetWithin lens meet → AreWithin lens links → AreWithin lens new
within_meet lens links new meet is fine ok =
    subst (AreWithin lens) (sym is) (record { edges = ok.edges; meets = All-push (IsMeetWithin lens) links.meets meet ok.meets fine })
