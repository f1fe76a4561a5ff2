-- The accesses of a run, and what may be asked of them.
use Rattle.std.proofs.Common.{◌≡◌, ℕ, ◌<◌, List, [], ◌∷◌, Option, Some, None, get_or, length, sym, subst}
use Rattle.std.specs.Prelude.{Contains, IfSome}
use Rattle.std.proofs.lemmas.List.Elements.{All-cons, All-get_or, All-head, All-nil, All-tail}
use Rattle.rma_run.proofs.ContainLemmas.{flat_map_has}
use Rattle.rma_call.specs.Call.{RankCalls}
use Rattle.rma_clock.specs.Reached.{points_of}
use Rattle.rma_clock.specs.declared.shared.SharedClocks.{SharedClocks}
use Rattle.rma_link.specs.declared.links.Links.{Links}
use Rattle.rma_points.proofs.AskedLemmas.{may_be_asked}
use Rattle.rma_rules.specs.Access.{Access, IsOnWindowOf}
use Rattle.rma_rules.specs.Before.{AreReached}
use Rattle.rma_run.specs.Run.{lens_of}
use Rattle.rma_span.specs.Span.{accesses, accesses_of, origin_of}
use Rattle.rma_probe.specs.declared.table.Order.{Order}
use Rattle.rma_probe.specs.Pairs.{IsOrderOf, MayBeAsked}

-- two accesses of a run
pub record AreTwo (are_of : SharedClocks → List ℕ → Links → Type 0) (given : Order) (a b : Access) : Type 0 where
  pub ranks : List RankCalls
  pub order : IsOrderOf are_of ranks given
  pub first : Contains (accesses ranks) a
  pub second : Contains (accesses ranks) b

pub two_of : (are_of : SharedClocks → List ℕ → Links → Type 0) (given : Order) (a b : Access) → MayBeAsked are_of given (a ∷ b ∷ []) → AreTwo are_of given a b
two_of are_of given a b may =
    let P = Contains (accesses may.0) in
    record { ranks = may.0; order = may.1; first = All-head P a (b ∷ []) may.2; second = All-head P b [] (All-tail P a (b ∷ []) may.2) }

-- the window of each is one of the run
pub first_on_window : (are_of : SharedClocks → List ℕ → Links → Type 0) (given : Order) (a b : Access) → AreTwo are_of given a b → IsOnWindowOf given.windows.now a
first_on_window are_of given a b two =
    subst (λ ws. IsOnWindowOf ws a) (sym two.order.windows) (may_be_asked two.ranks two.order.run given.lists.now two.order.lists a b two.first two.second).1

pub second_on_window : (are_of : SharedClocks → List ℕ → Links → Type 0) (given : Order) (a b : Access) → AreTwo are_of given a b → IsOnWindowOf given.windows.now b
second_on_window are_of given a b two =
    subst (λ ws. IsOnWindowOf ws b) (sym two.order.windows) (may_be_asked two.ranks two.order.run given.lists.now two.order.lists a b two.first two.second).2

-- their points are reached
pub reached : (are_of : SharedClocks → List ℕ → Links → Type 0) (given : Order) (a b : Access) → AreTwo are_of given a b
    → (points : List ℕ) × (links : Links) × are_of given.clocks.now points links × AreReached points given.lists.now a b
reached are_of given a b two =
    (points_of (lens_of two.ranks), two.order.clocks.0, two.order.clocks.1, (may_be_asked two.ranks two.order.run given.lists.now two.order.lists a b two.first two.second).0)

-- whichever is the first
pub swapped : (are_of : SharedClocks → List ℕ → Links → Type 0) (given : Order) (a b : Access) → AreTwo are_of given a b → AreTwo are_of given b a
swapped are_of given a b two = record { ranks = two.ranks; order = two.order; first = two.second; second = two.first }

-- two accesses of a list
pub with_two : (are_of : SharedClocks → List ℕ → Links → Type 0) (given : Order) (all : List Access) (i j : ℕ) (a b : Access) → MayBeAsked are_of given all → i < length all → j < length all
    → a ≡ get_or all i a → b ≡ get_or all j b → MayBeAsked are_of given (a ∷ b ∷ [])
with_two are_of given all i j a b may first second is also =
    let P = Contains (accesses may.0) in
    (may.0, may.1, All-cons P a (b ∷ []) (subst P (sym is) (All-get_or P all i a first may.2)) (All-cons P b [] (subst P (sym also) (All-get_or P all j b second may.2)) (All-nil P)))

-- an access of a rank of the run is one of the run
pub of_run : (ranks : List RankCalls) (own : RankCalls) (a : Access) → Contains ranks own → Contains (accesses_of (origin_of ranks own)) a → Contains (accesses ranks) a
of_run ranks own a there has = flat_map_has (λ (r : RankCalls). accesses_of (origin_of ranks r)) ranks own a there has

-- what a call makes is one of the run
pub some_of_run : (ranks : List RankCalls) (own : RankCalls) (made : Option Access) → Contains ranks own → IfSome made (Contains (accesses_of (origin_of ranks own))) → IfSome made (Contains (accesses ranks))
some_of_run ranks own None there has = tt
some_of_run ranks own (Some a) there has = of_run ranks own a there has
