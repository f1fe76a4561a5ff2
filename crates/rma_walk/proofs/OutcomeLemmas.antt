-- What a walk comes to.
use Rattle.std.proofs.Common.{◌≡◌, ℕ, ◌+◌, ◌*◌, ◌/◌, ◌<◌, ◌≤◌, ◌⊎◌, inl, inr, Bool, true, false, cond, List, [], length, get_or, replicate, Option, Some, None, refl, sym, ap, subst, ◌∙◌, arith, ⊎_elim}
use Rattle.std.specs.Prelude.{Contains, IfSome, MatchOption, slice_get, slice_index, slice_index_or, nat_lt}
use Rattle.std.proofs.lemmas.Bool.{cases_lt, false≢true, lt-ltb, le-ltb}
use Rattle.std.proofs.lemmas.List.{nil_from_length, same_lists, length-replicate}
use Rattle.std.proofs.lemmas.Option.{same_Some, slice_get_within, slice_get-get_or}
use Rattle.rma_base.specs.declared.rank.Rank.{Rank}
use Rattle.rma_base.specs.declared.point.Point.{Point}
use Rattle.rma_link.specs.declared.links.Links.{Links}
use Rattle.rma_link.specs.Point.{entry, return_of}
use Rattle.rma_link.specs.Order.{IsOnCycle, IsAfterCycle, IsPossible}
use Rattle.rma_link.specs.Within.{AreWithin}
use Rattle.rma_link.proofs.OrderLemmas.{same_point, on_cycle_within}
use Rattle.rma_walk.specs.Outcome.{IsOrder, IsStuck, IsImpossible, IsFirstImpossible, AreFirstImpossible}
use Rattle.rma_walk.specs.inside.Run.{IsRun, next_point}
use Rattle.rma_walk.specs.inside.Front.{IsFront, IsKept}
use Rattle.rma_walk.specs.inside.Pending.{IsPending}
use Rattle.rma_walk.specs.inside.Search.{IsStopped, IsSettled, IsStack, IsIdle, IsSearch, line}
use Rattle.rma_walk.specs.inside.Stop.{AreStops, IsWhole, stopped_at}
use Rattle.rma_walk.specs.declared.search.Search.{Search}
use Rattle.rma_walk.proofs.ListLemmas.{contains_none, replicate_at}
use Rattle.rma_walk.proofs.FrontLemmas.{front_at_start, passed_clear, whole_possible, whole_order}
use Rattle.rma_walk.proofs.StackLemmas.{line_of_one}

kept_at_start : (kept : Option (List Point)) → IfSome kept (λ list. list ≡ []) → IsKept kept []
kept_at_start None empty = tt
kept_at_start (Some list) empty = empty

-- a walk that is past no point
pub idle_at_start : (lens : List ℕ) (links : Links) (search : Search) → IsRun lens links → search.front.next.items ≡ replicate (length lens) 0 → IfSome search.front.order (λ list. list ≡ [])
    → IsPending lens links (replicate (length lens) 0) search.pending → search.waiting.items ≡ [] → search.free.items ≡ replicate (length lens) true → IsIdle lens links search 0
idle_at_start lens links search run next empty pending nobody free = record {
  walk = record {
    run = run;
    order = [];
    front = subst (λ n. IsFront lens links n []) (sym next) (front_at_start lens links);
    kept = kept_at_start search.front.order empty;
    pending = subst (λ n. IsPending lens links n search.pending) (sym next) pending;
    size = ap length free ∙ length-replicate (length lens) true;
  };
  nobody = nobody;
  held = λ r taken. absurd (false≢true (sym taken ∙ ap (λ (bs : List Bool). slice_index_or bs r true) free ∙ replicate_at (length lens) r true));
  done = λ r less. absurd (omega arith);
}

-- a rank is followed for itself
pub search_from_idle : (lens : List ℕ) (links : Links) (search : Search) (rank : ℕ) → rank < length lens → IsIdle lens links search rank → IsSearch lens links search rank rank
search_from_idle lens links search rank lt idle =
    let P : List ℕ → Type 0 = λ ws. IsStack lens links search.front.next.items search.free.items ws rank rank in
    record {
      walk = idle.walk;
      stack = subst P (sym idle.nobody) (record {
        size = idle.walk.size;
        within = lt;
        root = refl;
        followed = λ some. absurd (omega arith);
        in_line = line_of_one links search.front.next.items rank;
        once = λ j k less small same. absurd (omega arith);
        waits = λ j small. absurd (omega arith);
        held = λ r taken. inr (idle.held r taken);
        done = λ r less. ⊎_elim (λ end. inl end) (λ taken. inr (taken, contains_none r)) (idle.done r less);
      });
    }

module _ (lens : List ℕ) (links : Links) (search : Search) (rank current : ℕ) (is : IsSearch lens links search rank current)
    (over : (2 * slice_index lens current ≤ slice_index search.front.next.items current) ⊎ (slice_index_or search.free.items current true ≡ false)) where
  nobody : search.waiting.items ≡ []
  nobody =
      ⊎_elim
      (λ (some : 0 < length search.waiting.items).
      let followed = is.stack.followed some in
      ⊎_elim
      (λ (end : 2 * slice_index lens current ≤ slice_index search.front.next.items current). let more = followed.1 in absurd (omega arith))
      (λ (taken : slice_index_or search.free.items current true ≡ false). absurd (false≢true (sym taken ∙ followed.0)))
      over)
      (λ (none : length search.waiting.items ≤ 0). nil_from_length search.waiting.items (omega arith))
      (cases_lt 0 (length search.waiting.items))

  itself : current ≡ rank
  itself = ap (λ ws. slice_index (line ws current) 0) (sym nobody) ∙ is.stack.root

  idle_held : (r : ℕ) → slice_index_or search.free.items r true ≡ false → IsStopped lens links search.front.next.items r
  idle_held r taken =
      ⊎_elim
      (λ (has : Contains search.waiting.items r). absurd (contains_none r (subst (λ ws. Contains ws r) nobody has)))
      (λ stopped. stopped)
      (is.stack.held r taken)

  idle_done : (r : ℕ) → r < rank + 1 → (slice_index search.front.next.items r ≡ 2 * slice_index lens r) ⊎ (slice_index_or search.free.items r true ≡ false)
  idle_done r lt =
      ⊎_elim
      (λ (less : r < rank). ⊎_elim
      (λ end. inl end)
      (λ (taken : (slice_index_or search.free.items r true ≡ false) × (Contains search.waiting.items r → ⊥)). inr taken.0)
      (is.stack.done r less))
      (λ (last : rank ≤ r).
      let here : r ≡ current = (let same = itself in omega arith) in
      ⊎_elim
      (λ (end : 2 * slice_index lens current ≤ slice_index search.front.next.items current).
      let bound = is.walk.front.within current in
      let all : slice_index search.front.next.items current ≡ 2 * slice_index lens current = omega arith in
      let P : ℕ → Type 0 = λ i. slice_index search.front.next.items i ≡ 2 * slice_index lens i in
      inl (subst P (sym here) all))
      (λ (taken : slice_index_or search.free.items current true ≡ false). inr (ap (λ i. slice_index_or search.free.items i true) here ∙ taken))
      over)
      (cases_lt r rank)

  pub idle_from_search : IsIdle lens links search (rank + 1)
  idle_from_search = record {
    walk = is.walk;
    nobody = nobody;
    held = idle_held;
    done = idle_done;
  }

-- once it is done with all ranks, each is settled
pub settled_of : (lens : List ℕ) (links : Links) (search : Search) → IsIdle lens links search (length lens) → (r : ℕ) → r < length lens → IsSettled lens links search.front.next.items r
settled_of lens links search idle r lt = ⊎_elim (λ end. inl end) (λ taken. inr (idle.held r taken)) (idle.done r lt)

module _ (lens : List ℕ) (links : Links) (next : List ℕ) (order : List Point) (front : IsFront lens links next order) where
  call_clear : (r call : ℕ) → 2 * call + 1 < slice_index next r → IsImpossible links (record { 0 = r }) call → ⊥
  call_clear r call past either =
      ⊎_elim
      (λ at_entry. passed_clear lens links next order front (entry (record { 0 = r }) call) (omega arith) at_entry)
      (λ at_return. passed_clear lens links next order front (return_of (record { 0 = r }) call) past at_return)
      either

  first_of : (r : ℕ) → IsSettled lens links next r → IsFirstImpossible links (record { 0 = r }) (slice_index lens r) (stopped_at (slice_index lens r) (slice_index next r))
  first_of r settled =
      let len = slice_index lens r in
      let pos = slice_index next r in
      ⊎_elim
      (λ (end : slice_index next r ≡ 2 * slice_index lens r).
      let test : nat_lt (slice_index next r) (2 * slice_index lens r) ≡ false = le-ltb (slice_index next r) (2 * slice_index lens r) (omega arith) in
      let none : stopped_at (slice_index lens r) (slice_index next r) ≡ None = ap (λ b. cond b (Some (slice_index next r / 2)) None) test in
      subst (IsFirstImpossible links (record { 0 = r }) (slice_index lens r)) (sym none) (λ call lt. call_clear r call (omega arith)))
      (λ (stopped : IsStopped lens links next r).
      let call = stopped.0.0 in
      let lt : call < slice_index lens r = stopped.0.1 in
      let odd : slice_index next r ≡ 2 * call + 1 = stopped.0.2 in
      let test : nat_lt (slice_index next r) (2 * slice_index lens r) ≡ true = lt-ltb (slice_index next r) (2 * slice_index lens r) (omega arith) in
      let half : slice_index next r / 2 ≡ call = omega arith in
      let some : stopped_at (slice_index lens r) (slice_index next r) ≡ Some call = ap (λ b. cond b (Some (slice_index next r / 2)) None) test ∙ ap Some half in
      let here : next_point next r ≡ return_of (record { 0 = r }) call = same_point (next_point next r) (return_of (record { 0 = r }) call) refl odd in
      subst (IsFirstImpossible links (record { 0 = r }) (slice_index lens r)) (sym some)
      (lt, inr (subst (IsAfterCycle links) here stopped.1), λ earlier less. call_clear r earlier (omega arith)))
      settled

  pub firsts_of : ((r : ℕ) → r < length lens → IsSettled lens links next r) → (stops : List (Option ℕ)) → length stops ≡ length lens
      → ((r : ℕ) → r < length lens → slice_get stops r ≡ Some (stopped_at (slice_index lens r) (slice_index next r))) → AreFirstImpossible lens links stops
  firsts_of settled stops size each = record {
    each = size;
    first = λ r call is.
        let within : r < length stops = slice_get_within stops r call is in
        let there : r < length lens = omega arith in
        let same : stopped_at (slice_index lens r) (slice_index next r) ≡ call = same_Some _ call (sym (each r there) ∙ is) in
        subst (IsFirstImpossible links (record { 0 = r }) (slice_index lens r)) same (first_of r (settled r there));
  }

pub cycle_of : (lens : List ℕ) (links : Links) (next : List ℕ) (r : ℕ) → IsSettled lens links next r → (slice_index next r ≡ 2 * slice_index lens r → ⊥) → (p : Point) × IsOnCycle links p
cycle_of lens links next r settled differs =
    ⊎_elim
    (λ end. absurd (differs end))
    (λ (stopped : IsStopped lens links next r). (stopped.1.0, stopped.1.1))
    settled

-- what a walk that is done with all ranks tells
module _ (lens : List ℕ) (links : Links) (search : Search) (idle : IsIdle lens links search (length lens)) where
  pub possible_of : IsWhole lens search.front.next.items → IsPossible links
  possible_of whole = whole_possible lens links search.front.next.items idle.walk.order idle.walk.front idle.walk.run.within whole

  pub stuck_of : (stops : List (Option ℕ)) → AreStops lens search.front.next.items stops → IsStuck lens links stops
  stuck_of stops are =
      let r = are.part.0 in (
        cycle_of lens links search.front.next.items r (settled_of lens links search idle r are.part.1) are.part.2,
        firsts_of lens links search.front.next.items idle.walk.order idle.walk.front (settled_of lens links search idle) stops are.each are.at,
      )

  pub told_of : (found : Option (List (Option ℕ))) → MatchOption found (IsWhole lens search.front.next.items) (AreStops lens search.front.next.items)
      → MatchOption found (IsPossible links) (IsStuck lens links)
  told_of None whole = possible_of whole
  told_of (Some stops) are = stuck_of stops are

  pub order_of : IsWhole lens search.front.next.items → (list : List Point) → search.front.order ≡ Some list → IsOrder lens links list
  order_of whole list is =
      let kept : list ≡ idle.walk.order = subst (λ o. IsKept o idle.walk.order) is idle.walk.kept in
      subst (IsOrder lens links) (sym kept) (whole_order lens links search.front.next.items idle.walk.order idle.walk.front idle.walk.run.within whole)

first_once : (links : Links) (rank : Rank) (len : ℕ) (one other : Option ℕ) → IsFirstImpossible links rank len one → IsFirstImpossible links rank len other → one ≡ other
first_once links rank len None None a b = refl
first_once links rank len None (Some k) a b = absurd (a k b.0 b.1)
first_once links rank len (Some j) None a b = absurd (b j a.0 a.1)
first_once links rank len (Some j) (Some k) a b =
    ⊎_elim
    (λ (less : j < k). absurd (b.2 j less a.1))
    (λ (upto : k ≤ j). ⊎_elim
    (λ (more : k < j). absurd (a.2 k more b.1))
    (λ (both : j ≤ k). let same : j ≡ k = omega arith in ap Some same)
    (cases_lt k j))
    (cases_lt j k)

pub firsts_once : (lens : List ℕ) (links : Links) (firsts others : List (Option ℕ)) → AreFirstImpossible lens links firsts → AreFirstImpossible lens links others → firsts ≡ others
firsts_once lens links firsts others one other =
    same_lists firsts others (one.each ∙ sym other.each)
    (λ k d lt.
    let size : length firsts ≡ length others = one.each ∙ sym other.each in
    first_once links (record { 0 = k }) (slice_index lens k) (get_or firsts k d) (get_or others k d)
    (one.first k (get_or firsts k d) (slice_get-get_or firsts k d lt))
    (other.first k (get_or others k d) (slice_get-get_or others k d (omega arith))))

-- two points that are each before the other have no places in an order
pub order_possible : (lens : List ℕ) (links : Links) (list : List Point) → AreWithin lens links → IsOrder lens links list → IsPossible links
order_possible lens links list within order p (q, differ, there, back) =
    let here = order.listed p (on_cycle_within lens links p within (q, differ, there, back)) in
    let too = order.listed q (on_cycle_within lens links q within (p, (λ same. differ (sym same)), back, there)) in
    let le : here.0 ≤ too.0 = order.ordered here.0 too.0 p q here.1 too.1 there in
    let ge : too.0 ≤ here.0 = order.ordered too.0 here.0 q p too.1 here.1 back in
    let same : here.0 ≡ too.0 = omega arith in
    let at : slice_get list too.0 ≡ Some p = subst (λ k. slice_get list k ≡ Some p) same here.1 in
    differ (same_Some p q (sym at ∙ too.1))
