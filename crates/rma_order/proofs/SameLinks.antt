-- Links that lead from and to the same points give the same order.
use Rattle.std.proofs.Common.{◌≡◌, ℕ, zero, suc, inl, inr, List, length, replicate, slice_get, Option, Some, None}
use Rattle.std.specs.Prelude.{◌↔◌}
use Rattle.std.proofs.lemmas.List.{length-replicate}
use Rattle.rma_base.specs.declared.rank.Rank.{Rank}
use Rattle.rma_base.specs.declared.point.Point.{Point}
use Rattle.rma_link.specs.declared.links.Links.{Links}
use Rattle.rma_link.specs.Point.{entry, return_of}
use Rattle.rma_link.specs.Link.{IsLinked}
use Rattle.rma_link.specs.Order.{IsDirectlyBefore, IsAtOrBefore, IsOnCycle, IsAfterCycle, IsPossible}
use Rattle.rma_link.specs.Order.IsAtOrBefore.{at, before}
use Rattle.rma_walk.specs.Outcome.{IsImpossible, IsFirstImpossible, AreFirstImpossible, IsOrder}
use Rattle.rma_order.specs.RunLinks.{LinkTheSame}

-- links that lead from and to the points of others, and maybe more
abbrev LinkAll : Links → Links → Type 0
LinkAll links others = (from to : Point) → IsLinked links from to → IsLinked others from to

pub directly_before_all : (links others : Links) → LinkAll links others → (p q : Point) → IsDirectlyBefore links p q → IsDirectlyBefore others p q
directly_before_all links others all p q (inl within) = inl within
directly_before_all links others all p q (inr (inl next)) = inr (inl next)
directly_before_all links others all p q (inr (inr linked)) = inr (inr (all p q linked))

pub before_all : (links others : Links) → LinkAll links others → {p q : Point} → IsAtOrBefore links p q → IsAtOrBefore others p q
before_all links others all at = at
before_all links others all (before {q = q} {r = r} first step) = before (before_all links others all first) (directly_before_all links others all q r step)

pub on_cycle_all : (links others : Links) → LinkAll links others → (p : Point) → IsOnCycle links p → IsOnCycle others p
on_cycle_all links others all p on = (on.0, on.1, before_all links others all on.2, before_all links others all on.3)

after_cycle_all : (links others : Links) → LinkAll links others → (p : Point) → IsAfterCycle links p → IsAfterCycle others p
after_cycle_all links others all p after = (after.0, on_cycle_all links others all after.0 after.1, before_all links others all after.2)

-- what gives the order of one gives that of the other
pub one_order : (links others : Links) → LinkTheSame links others → (p q : Point) → IsAtOrBefore links p q ↔ IsAtOrBefore others p q
one_order links others same p q = (λ le. before_all links others same.only le, λ le. before_all others links same.all le)

pub possible_same : (links others : Links) → LinkTheSame links others → IsPossible links → IsPossible others
possible_same links others same possible p on = possible p (on_cycle_all others links same.all p on)

pub order_same : (links others : Links) → LinkTheSame links others → (lens : List ℕ) (list : List Point) → IsOrder lens links list → IsOrder lens others list
order_same links others same lens list order = record {
  listed = order.listed;
  only = order.only;
  once = order.once;
  ordered = λ j k p q j_at k_at le. order.ordered j k p q j_at k_at (before_all others links same.all le);
}

pub link_back : (links others : Links) → LinkTheSame links others → LinkTheSame others links
link_back links others same = record { only = same.all; all = same.only }

impossible_all : (links others : Links) → LinkAll links others → (rank : Rank) (call : ℕ) → IsImpossible links rank call → IsImpossible others rank call
impossible_all links others all rank call (inl enters) = inl (after_cycle_all links others all (entry rank call) enters)
impossible_all links others all rank call (inr returns) = inr (after_cycle_all links others all (return_of rank call) returns)

first_same : (links others : Links) → LinkTheSame links others → (rank : Rank) (len : ℕ) (first : Option ℕ) → IsFirstImpossible links rank len first
    → IsFirstImpossible others rank len first
first_same links others same rank len None none = λ call below is. none call below (impossible_all others links same.all rank call is)
first_same links others same rank len (Some first) some =
    (some.0, impossible_all links others same.only rank first some.1, λ call below is. some.2 call below (impossible_all others links same.all rank call is))

-- so the same calls are impossible first
pub first_impossible_same : (lens : List ℕ) (links others : Links) (firsts : List (Option ℕ)) → LinkTheSame links others → AreFirstImpossible lens links firsts
    → AreFirstImpossible lens others firsts
first_impossible_same lens links others firsts same are = record {
  each = are.each;
  first = λ rank call is. first_same links others same (record { 0 = rank }) _ call (are.first rank call is);
}

-- and where no point is on a cycle, no call is impossible
pub none_impossible : (lens : List ℕ) (links others : Links) → LinkTheSame links others → IsPossible links → AreFirstImpossible lens others (replicate (length lens) None)
none_impossible lens links others same possible = record {
  each = length-replicate (length lens) None;
  first = λ rank call is. rw (none_at (length lens) rank call is) (λ number below impossible. never (record { 0 = rank }) number (impossible_all others links same.all (record { 0 = rank }) number impossible));
}
  where
    none_at : (n i : ℕ) (o : Option ℕ) → slice_get (replicate n None) i ≡ Some o → o ≡ None
    none_at zero i o is = absurd (let no : ⊥ = cc in no)
    none_at (suc n) zero o is = cc
    none_at (suc n) (suc i) o is = none_at n i o is

    never : (rank : Rank) (number : ℕ) → IsImpossible links rank number → ⊥
    never rank number (inl after) = possible after.0 after.1
    never rank number (inr after) = possible after.0 after.1
