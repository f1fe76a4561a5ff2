-- How the faults of accesses are gathered.
use Rattle.std.proofs.Common.{◌≡◌, ◌+◌, ◌↔◌, inl, inr, ℕ, zero, suc, List, [], ◌∷◌, ◌++◌, length, map, Option, Some, None, IfSome, slice_get, refl, sym, ap, subst, ◌∙◌, arith, ⊎_elim}
use Rattle.std.specs.Prelude.{Contains}
use Rattle.std.specs.List.Sorted.{IsPermutation}
use Rattle.std.proofs.lemmas.Option.{none-some, same_Some, slice_get_within}
use Rattle.std.proofs.lemmas.List.Elements.{Contains-append_left, Contains-push, Contains-push_cases}
use Rattle.rma_call.specs.Call.{Call, RankCalls}
use Rattle.rma_link.specs.declared.links.Links.{Links}
use Rattle.rma_window.specs.Windows.{Window}
use Rattle.rma_rules.specs.Access.{Access}
use Rattle.rma_rules.specs.declared.access_name.Role.TheVariants.{Target}
use Rattle.rma_rules.specs.declared.access_name.Role.TheVariants as role
use Rattle.rma_window.specs.declared.window_id.WindowId.{WindowId}
use Rattle.rma_touch.specs.Touches.{roles}
use Rattle.rma_run.proofs.ContainLemmas.{by_number_has, filter_map_has, flat_map_has, has_first, has_later}
use Rattle.rma_span.specs.Span.{Origin, access_of, accesses, accesses_of, call_accesses, origin_of, spanned_calls}
use Rattle.rma_points.proofs.AccessLemmas.{is_of_run}
use Rattle.rma_concurrent.specs.inside.Places.{HasMore, IsOf}
use Rattle.rma_concurrent.proofs.ListLemmas.{more_none, more_same, place_of}
use Rattle.rma_dyn.specs.declared.change.Change.{Change}
use Rattle.rma_dyn.specs.declared.fault.RegionFault.{RegionFault}
use Rattle.rma_dyn.specs.Fault.{IsAtAccess, IsAtSome}
use Rattle.rma_dyn.specs.Region.{Covers, IsDetachOf}
use Rattle.rma_dyn.specs.inside.Run.{IsAtNumber, IsAtOption, IsOfRank}
use Rattle.rma_dyn.proofs.KnownLemmas.{back, forth}
use Rattle.rma_dyn.proofs.MadeLemmas.{is_listed}

-- ---- one access

module _ {X : Type 0} (P : X → Type 0) where
  pub more_one : (old : List X) (x : X) → ((y : X) → (Some x ≡ Some y) ↔ P y) → HasMore P old (old ++ x ∷ [])
  more_one old x told = record {
    only = λ y has. ⊎_elim (λ before. inl before) (λ same. inr (subst P same ((told x).0 refl))) (Contains-push_cases old x y has);
    kept = λ y has. Contains-append_left old (x ∷ []) y has;
    all = λ y is. subst (Contains (old ++ x ∷ [])) (same_Some x y ((told y).1 is)) (Contains-push old x);
  }

  pub more_no : (old : List X) → ((y : X) → (None ≡ Some y) ↔ P y) → HasMore P old old
  more_no old told = more_none old (λ y is. none-some y ((told y).1 is))

module _ (links : Links) (windows : List Window) (list : List Change) (own : Origin) (number : ℕ) (call : Call) (at : slice_get own.sound number ≡ Some call) where
  pub more_at : (a : Option Access) (old new : List RegionFault) → a ≡ access_of own number call Target → HasMore (IsAtOption links windows list a) old new → HasMore (IsAtNumber links windows list own number) old new
  more_at a old new same more =
      more_same old new more
      (λ fault is. record { call = call; at = at; is = subst (λ o. IsAtOption links windows list o fault) same is })
      (λ fault found.
      let one = same_Some found.call call (sym found.at ∙ at) in
      subst (λ o. IsAtOption links windows list o fault) (sym same) (subst (λ (c : Call). IsAtOption links windows list (access_of own number c Target) fault) one found.is))

-- ---- all accesses of a run

module _ (links : Links) (windows : List Window) (ranks : List RankCalls) (list all : List Change) (same : IsPermutation all list) where
  detach_moved : (from to : List Change) → ((c : Change) → Contains from c → Contains to c) → ((c : Change) → Contains to c → Contains from c) → (g h : Change) → IsDetachOf from g h → IsDetachOf to g h
  detach_moved from to there back g h of = record { there = there h of.there; detaches = of.detaches; same = of.same; later = of.later; first = λ c has. of.first c (back c has) }

  covers_moved : (from to : List Change) → ((c : Change) → Contains from c → Contains to c) → (a : Access) (g : Change) → Covers links from a g → Covers links to a g
  covers_moved from to there a g covers = record { there = there g covers.there; holds = covers.holds; before = covers.before }

  pub moved : (from to : List Change) → ((c : Change) → Contains from c → Contains to c) → ((c : Change) → Contains to c → Contains from c) → (a : Access) (fault : RegionFault) → IsAtAccess links windows from a fault
      → IsAtAccess links windows to a fault
  moved from to there back a fault (inl found) = inl (record { through = found.through; none = λ g covers. found.none g (covers_moved to from back a g covers); is = found.is })
  moved from to there back a fault (inr found) =
      inr
      (record {
        through = found.through;
        last = found.last;
        covers = covers_moved from to there a found.last found.covers;
        is_last = λ g covers. found.is_last g (covers_moved to from back a g covers);
        detach = found.detach;
        of_last = detach_moved from to there back found.last found.detach found.of_last;
        each = λ g covers. let may = found.each g (covers_moved to from back a g covers) in record { detach = may.detach; of = detach_moved from to there back g may.detach may.of; not_done = may.not_done };
        is = found.is;
      })

  -- ---- what is gathered is all

  windowed : (a : Access) (fault : RegionFault) → IsAtAccess links windows list a fault → (id : WindowId) × (a.window ≡ Some id)
  windowed a fault (inl found) = (found.through.0, found.through.2)
  windowed a fault (inr found) = (found.through.0, found.through.2)

  option_is : (o : Option Access) (fault : RegionFault) → IsAtOption links windows list o fault → (a : Access) × (o ≡ Some a) × IsAtAccess links windows list a fault
  option_is None fault is = absurd is
  option_is (Some a) fault is = (a, refl, is)

  target_there : Contains roles Target
  target_there = has_later role.Local Target (Target ∷ role.Origin ∷ role.Result ∷ role.Compare ∷ []) (has_first Target (role.Origin ∷ role.Result ∷ role.Compare ∷ []))

  made_there : (own : Origin) (number : ℕ) (call : Call) (a : Access) → slice_get own.sound number ≡ Some call → access_of own number call Target ≡ Some a → Contains (accesses_of own) a
  made_there own number call a at is =
      by_number_has (call_accesses own) 0 own.sound number call a at
      (subst (λ n. Contains (call_accesses own n call) a) (let e : number ≡ 0 + number = omega arith in e) (filter_map_has (access_of own number call) roles Target a target_there is))

  pub at_some : (own : RankCalls) (fault : RegionFault) → Contains ranks own → IsOfRank links windows list ranks own fault → IsAtSome links windows all (accesses ranks) fault
  at_some own fault of_ranks found =
      let origin = origin_of ranks own in
      let is = found.is in
      let it = option_is (access_of origin found.element is.call Target) fault is.is in
      (it.0, flat_map_has (λ (r : RankCalls). accesses_of (origin_of ranks r)) ranks own it.0 of_ranks (made_there origin found.element is.call it.0 is.at it.1), moved list all (back all list same) (forth all list same) it.0 fault it.2)

  pub of_some_rank : (fault : RegionFault) → IsAtSome links windows all (accesses ranks) fault → IsOf (IsOfRank links windows list ranks) ranks fault
  of_some_rank fault at =
      let here = moved all list (forth all list same) (back all list same) at.0 fault at.2 in
      let window = windowed at.0 fault here in
      let made = is_of_run ranks at.0 at.1 in
      let origin = origin_of ranks made.own in
      let listed = is_listed origin at.0 window.0 made.made window.1 in
      let place = place_of (spanned_calls origin) listed.number listed.listed in
      let rank = place_of ranks made.own made.of_run in
      record {
        place = rank.0;
        element = made.own;
        from = omega arith;
        below = slice_get_within ranks rank.0 made.own rank.1;
        there = rank.1;
        is = record {
          place = place.0;
          element = listed.number;
          from = omega arith;
          below = slice_get_within (spanned_calls origin) place.0 listed.number place.1;
          there = place.1;
          is = record { call = listed.call; at = listed.there; is = subst (λ o. IsAtOption links windows list o fault) (sym listed.of) here };
        };
      }

-- ---- one rank

pub of_run : (ranks : List RankCalls) (own : RankCalls) (access : Option Access) → Contains ranks own → IfSome access (Contains (accesses_of (origin_of ranks own))) → IfSome access (Contains (accesses ranks))
of_run ranks own None of_ranks has = has
of_run ranks own (Some a) of_ranks has = flat_map_has (λ (r : RankCalls). accesses_of (origin_of ranks r)) ranks own a of_ranks has

pub map_at : {X Y : Type 0} (f : X → Y) (xs : List X) (i : ℕ) (x : X) → slice_get xs i ≡ Some x → slice_get (map f xs) i ≡ Some (f x)
map_at f [] i x at = absurd (none-some x at)
map_at f (y ∷ ys) zero x at = ap (λ z. Some (f z)) (same_Some y x at)
map_at f (y ∷ ys) (suc i) x at = map_at f ys i x at

pub map_length : {X Y : Type 0} (f : X → Y) (xs : List X) → length (map f xs) ≡ length xs
map_length f [] = refl
map_length f (y ∷ ys) = ap suc (map_length f ys)
