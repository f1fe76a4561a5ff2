-- Walks that are past more points of other ranks.
use Rattle.std.proofs.Common.{◌≡◌, ℕ, ◌+◌, ◌*◌, ◌/◌, ◌<◌, ◌≤◌, ◌⊎◌, inl, inr, Bool, true, false, List, [], ◌∷◌, length, get_or, set, Some, is_some, refl, sym, ap, subst, ◌∙◌, arith, ⊎_elim}
use Rattle.std.specs.Prelude.{slice_get, slice_index, slice_index_or}
use Rattle.std.specs.List.{AllWithin}
use Rattle.std.proofs.lemmas.Bool.{cases_eq, cases_lt, false≢true}
use Rattle.std.proofs.lemmas.List.{get_or-set_same, get_or-set_other, get_or_default, length-set, length_push}
use Rattle.std.proofs.lemmas.Option.{same_Some, slice_get_within}
use Rattle.rma_base.specs.declared.point.Point.{Point}
use Rattle.rma_link.specs.declared.links.Links.{Links}
use Rattle.rma_link.specs.declared.meet.Member.{Member}
use Rattle.rma_link.specs.declared.meet.Meet as meet
use Rattle.rma_link.specs.Point.{entry, IsReturn}
use Rattle.rma_link.specs.Order.{IsAtOrBefore, IsAfterCycle}
use Rattle.rma_walk.specs.inside.Run.{IsPassed, IsReady, next_point}
use Rattle.rma_walk.specs.inside.Front.{IsFront, IsKept, HasAdvanced}
use Rattle.rma_walk.specs.declared.source.Source.{Source}
use Rattle.rma_walk.specs.declared.source.Source.TheVariants.{Meet}
use Rattle.rma_walk.specs.Source.{sources_of}
use Rattle.rma_walk.specs.inside.Pending.{IsInbox, IsPending, IsAlone, IsSourcePassed}
use Rattle.rma_walk.specs.inside.Search.{line, IsLine, IsStopped, IsStack, IsWalk, IsAhead, IsSearch, work}
use Rattle.rma_walk.specs.declared.front.Front.{Front}
use Rattle.rma_walk.specs.declared.search.Search.{Search}
use Rattle.rma_walk.proofs.PendingLemmas.{in_ranks, no_member}
use Rattle.rma_walk.proofs.FrontLemmas.{passed_kept}
use Rattle.rma_walk.proofs.BlockerLemmas.{pending_later, ready_gathered}
use Rattle.rma_walk.proofs.StackLemmas.{line_front, line_last}
use Rattle.rma_walk.proofs.WorkLemmas.{less_by_passing}

module _ (lens : List ℕ) (links : Links) (current : ℕ) where
  pub ahead_then : (old mid new : Search) → IsAhead lens links current old mid → IsAhead lens links current mid new → IsAhead lens links current old new
  ahead_then old mid new one two = record {
    walk = two.walk;
    free = two.free ∙ one.free;
    waiting = two.waiting ∙ one.waiting;
    keeps = two.keeps ∙ one.keeps;
    more = λ r. let first = one.more r in let second = two.more r in omega arith;
    still = λ r own.
        let T : Type 0 = slice_index_or old.free.items r true ≡ false in
        two.still r (⊎_elim (λ (same : r ≡ current). inl same) (λ (taken : T). inr (ap (λ free. slice_index_or free r true) one.free ∙ taken)) own) ∙ one.still r own;
    less = let first = one.less in let second = two.less in omega arith;
  }

  -- another rank that may be followed passes points
  module _ (old new : Search) (rank : ℕ) (walk : IsWalk lens links old) (is_free : slice_index_or old.free.items rank true ≡ true) (differs : rank ≡ current → ⊥)
      (has_next : slice_index old.front.next.items rank < 2 * slice_index lens rank) (advanced : HasAdvanced lens links rank old.front new.front)
      (free : new.free ≡ old.free) (waiting : new.waiting ≡ old.waiting) (pending : new.pending ≡ old.pending) where
    there : rank < length old.front.next.items
    there = let lt = in_ranks lens rank 0 (omega arith) in let size = walk.front.ranks in omega arith

    found : (later : List Point) × IsFront lens links new.front.next.items later × IsKept new.front.order later
    found = advanced.front walk.order walk.front walk.kept

    pub advanced_less : work lens new.front.next.items new.free.items < work lens old.front.next.items old.free.items
    advanced_less =
        let P : List ℕ → Type 0 = λ next. work lens next old.free.items < work lens old.front.next.items old.free.items in
        let Q : List Bool → Type 0 = λ f. work lens new.front.next.items f < work lens old.front.next.items old.free.items in
        let F : List ℕ → Type 0 = λ next. IsFront lens links next found.0 in
        let front : IsFront lens links (set old.front.next.items rank advanced.pos) found.0 = subst F advanced.next found.1 in
        subst Q (sym (ap (λ v. v.items) free)) (subst P (sym advanced.next)
        (less_by_passing lens old.front.next.items old.free.items rank advanced.pos there advanced.more walk.front.ranks front.within front.ranks))

    advanced_more : (r : ℕ) → slice_index old.front.next.items r ≤ slice_index new.front.next.items r
    advanced_more r =
        let now : slice_index new.front.next.items r ≡ slice_index (set old.front.next.items rank advanced.pos) r = ap (λ next. slice_index next r) advanced.next in
        ⊎_elim
        (λ (own : r ≡ rank).
        let set_is : slice_index (set old.front.next.items rank advanced.pos) r ≡ advanced.pos = ap (slice_index (set old.front.next.items rank advanced.pos)) own ∙ get_or-set_same old.front.next.items rank advanced.pos 0 there in
        let then : slice_index old.front.next.items r ≡ slice_index old.front.next.items rank = ap (slice_index old.front.next.items) own in
        let more = advanced.more in
        omega arith)
        (λ (other : r ≡ rank → ⊥).
        let same : slice_index (set old.front.next.items rank advanced.pos) r ≡ slice_index old.front.next.items r = get_or-set_other old.front.next.items rank r advanced.pos 0 other in
        omega arith)
        (cases_eq r rank)

    advanced_still : (r : ℕ) → (r ≡ current) ⊎ (slice_index_or old.free.items r true ≡ false) → slice_index new.front.next.items r ≡ slice_index old.front.next.items r
    advanced_still r own =
        let other : r ≡ rank → ⊥ = λ same. ⊎_elim
        (λ (here : r ≡ current). differs (sym same ∙ here))
        (λ (taken : slice_index_or old.free.items r true ≡ false). false≢true (sym taken ∙ ap (λ i. slice_index_or old.free.items i true) same ∙ is_free))
        own in
        ap (λ next. slice_index next r) advanced.next ∙ get_or-set_other old.front.next.items rank r advanced.pos 0 other

    pub advanced_ahead : IsAhead lens links current old new
    advanced_ahead =
        let R : List ℕ → Type 0 = λ next. IsPending lens links next new.pending in
        let later : IsPending lens links (set old.front.next.items rank advanced.pos) old.pending =
        pending_later links old.front.next.items (set old.front.next.items rank advanced.pos) (passed_kept old.front.next.items rank advanced.pos there advanced.more) lens old.pending walk.pending in
        record {
          walk = record {
            run = walk.run;
            order = found.0;
            front = found.1;
            kept = found.2;
            pending = subst R (sym advanced.next) (subst (IsPending lens links (set old.front.next.items rank advanced.pos)) (sym pending) later);
            size = ap (λ v. length v.items) free ∙ walk.size;
          };
          free = ap (λ v. v.items) free;
          waiting = ap (λ v. v.items) waiting;
          keeps = advanced.keeps;
          more = advanced_more;
          still = advanced_still;
          less = let lt = advanced_less in omega arith;
        }

  -- it is past no more points, but knows more of what returns wait for
  pub pending_ahead : (old new : Search) → IsWalk lens links old → new.front ≡ old.front → new.free ≡ old.free → new.waiting ≡ old.waiting → IsPending lens links old.front.next.items new.pending → IsAhead lens links current old new
  pending_ahead old new walk front free waiting pending =
      let F : Front → Type 0 = λ f. IsFront lens links f.next.items walk.order in
      let K : Front → Type 0 = λ f. IsKept f.order walk.order in
      let P : Front → Type 0 = λ f. IsPending lens links f.next.items new.pending in
      let same_free : new.free.items ≡ old.free.items = ap (λ v. v.items) free in
      let next : new.front.next.items ≡ old.front.next.items = ap (λ f. f.next.items) front in
      let W : Front → List Bool → Type 0 = λ f free. work lens f.next.items free ≤ work lens old.front.next.items old.free.items in
      record {
        walk = record {
          run = walk.run;
          order = walk.order;
          front = subst F (sym front) walk.front;
          kept = subst K (sym front) walk.kept;
          pending = subst P (sym front) pending;
          size = ap length same_free ∙ walk.size;
        };
        free = same_free;
        waiting = ap (λ v. v.items) waiting;
        keeps = ap (λ f. is_some f.order) front;
        more = λ r. let same = ap (λ n. slice_index n r) next in omega arith;
        still = λ r own. ap (λ n. slice_index n r) next;
        less = subst (λ f. W f new.free.items) (sym front) (subst (W old.front) (sym same_free) (omega arith));
      }

  -- one more member of a meet is known to be entered
  module _ (old new : Search) (index member : ℕ) (m : meet.Meet) (walk : IsWalk lens links old) (at : slice_get links.meets index ≡ Some m) (lt : member < length m.calls)
      (so_far : slice_index old.pending.known.items index ≡ member) (passed : IsPassed old.front.next.items (entry (slice_index_or m.calls member no_member).rank (slice_index_or m.calls member no_member).call))
      (front : new.front ≡ old.front) (inboxes : new.pending.inboxes ≡ old.pending.inboxes) (known : new.pending.known.items ≡ set old.pending.known.items index (member + 1))
      (free : new.free ≡ old.free) (waiting : new.waiting ≡ old.waiting) where
    entered_more : (i : ℕ) (other : meet.Meet) → slice_get links.meets i ≡ Some other
        → (slice_index new.pending.known.items i ≤ length other.calls) × AllWithin (λ t. IsPassed old.front.next.items (entry t.rank t.call)) other.calls 0 (slice_index new.pending.known.items i)
    entered_more i other at_other =
        let P : Member → Type 0 = λ t. IsPassed old.front.next.items (entry t.rank t.call) in
        let there : index < length links.meets = slice_get_within links.meets index m at in
        let size = walk.pending.known.size in
        ⊎_elim
        (λ (same : i ≡ index).
        let now : slice_index new.pending.known.items i ≡ member + 1 = ap (slice_index new.pending.known.items) same ∙ ap (λ xs. slice_index xs index) known ∙ get_or-set_same old.pending.known.items index (member + 1) 0 (omega arith) in
        let is : m ≡ other = same_Some m other (sym at ∙ ap (slice_get links.meets) (sym same) ∙ at_other) in
        let before = walk.pending.known.entered index m at in
        let Q : meet.Meet → Type 0 = λ t. (slice_index new.pending.known.items i ≤ length t.calls) × AllWithin P t.calls 0 (slice_index new.pending.known.items i) in
        subst Q is (
          omega arith,
          λ k d low high. ⊎_elim
              (λ (less : k < member). before.1 k d low (omega arith))
              (λ (last : member ≤ k).
              let here : k ≡ member = omega arith in
              let read : get_or m.calls k d ≡ get_or m.calls member no_member = ap (λ j. get_or m.calls j d) here ∙ get_or_default m.calls member d no_member lt in
              subst P (sym read) passed)
              (cases_lt k member),
        ))
        (λ (differs : i ≡ index → ⊥).
        let now : slice_index new.pending.known.items i ≡ slice_index old.pending.known.items i = ap (λ xs. slice_index xs i) known ∙ get_or-set_other old.pending.known.items index i (member + 1) 0 differs in
        let Q : ℕ → Type 0 = λ n. (n ≤ length other.calls) × AllWithin P other.calls 0 n in
        subst Q (sym now) (walk.pending.known.entered i other at_other))
        (cases_eq i index)

    pub known_ahead : IsAhead lens links current old new
    known_ahead =
        let B : List (List (List Source)) → Type 0 = λ boxes. (length boxes ≡ length lens) × ((r : ℕ) → length (slice_index_or boxes r []) ≡ slice_index lens r)
        × ((r : ℕ) → r < length lens → IsInbox links old.front.next.items r (slice_index_or boxes r [])) in
        let boxes : B new.pending.inboxes.items = subst B (ap (λ v. v.items) (sym inboxes)) (walk.pending.size, walk.pending.sizes, walk.pending.inboxes) in
        pending_ahead old new walk front free waiting (record {
          size = boxes.0;
          sizes = boxes.1;
          inboxes = boxes.2;
          known = record { size = ap length known ∙ length-set old.pending.known.items index (member + 1) ∙ walk.pending.known.size; entered = entered_more };
        })

  -- a return that waits for one meet alone is ready where that is passed
  pub ready_after : (old new : Search) (index : ℕ) → IsAhead lens links current old new → new.pending.inboxes ≡ old.pending.inboxes → slice_index old.front.next.items current < 2 * slice_index lens current
      → IsAlone old.front.next.items old.pending.inboxes.items current index → IsSourcePassed links new.front.next.items (Meet index) → IsReady links new.front.next.items current
  ready_after old new index ahead inboxes lt alone passed =
      let same = ahead.still current (inl refl) in
      let odd = alone.0 in
      let call : ℕ = slice_index old.front.next.items current / 2 in
      let at : slice_index new.front.next.items current ≡ 2 * call + 1 = omega arith in
      let one : sources_of (slice_index_or new.pending.inboxes.items current []) call ≡ Meet index ∷ [] = ap (λ v. sources_of (slice_index_or v.items current []) call) inboxes ∙ alone.1 in
      ready_gathered lens links new.front.next.items ahead.walk.run ahead.walk.front.ranks current call at (slice_index_or new.pending.inboxes.items current [])
      (ahead.walk.pending.inboxes current (in_ranks lens current 0 (omega arith))) index one passed

-- the line stays as it is
module _ (lens : List ℕ) (links : Links) (old new : Search) (rank current : ℕ) (is : IsSearch lens links old rank current) (ahead : IsAhead lens links current old new) where
  point_still : (r : ℕ) → (r ≡ current) ⊎ (slice_index_or old.free.items r true ≡ false) → next_point new.front.next.items r ≡ next_point old.front.next.items r
  point_still r own = ap (λ k. record { rank = record { 0 = r }; pos = k }) (ahead.still r own)

  line_still : (k : ℕ) → k < length (line old.waiting.items current)
      → next_point new.front.next.items (slice_index (line old.waiting.items current) k) ≡ next_point old.front.next.items (slice_index (line old.waiting.items current) k)
  line_still k lt =
      let len : length (line old.waiting.items current) ≡ length old.waiting.items + 1 = length_push old.waiting.items current in
      point_still (slice_index (line old.waiting.items current) k)
      (⊎_elim
      (λ (front : k < length old.waiting.items). inr (ap (λ r. slice_index_or old.free.items r true) (line_front old.waiting.items current k front) ∙ (is.stack.waits k front).0))
      (λ (end : length old.waiting.items ≤ k). inl (line_last old.waiting.items current k (omega arith)))
      (cases_lt k (length old.waiting.items)))

  line_later : IsLine links new.front.next.items (line old.waiting.items current)
  line_later j k le lt =
      let all : List ℕ = line old.waiting.items current in
      let P : Point → Type 0 = λ p. IsAtOrBefore links p (next_point old.front.next.items (slice_index all j)) in
      let Q : Point → Type 0 = λ q. IsAtOrBefore links (next_point new.front.next.items (slice_index all k)) q in
      subst Q (sym (line_still j (omega arith))) (subst P (sym (line_still k lt)) (is.stack.in_line j k le lt))

  stack_later : IsStack lens links new.front.next.items old.free.items old.waiting.items rank current
  stack_later = record {
    size = is.stack.size;
    within = is.stack.within;
    root = is.stack.root;
    followed = λ some. let old_one = is.stack.followed some in let same = ahead.still current (inl refl) in let less = old_one.1 in (old_one.0, omega arith);
    in_line = line_later;
    once = is.stack.once;
    waits = λ j lt. let own = is.stack.waits j lt in (own.0, own.1, subst (IsReturn lens) (sym (point_still (slice_index old.waiting.items j) (inr own.0))) own.2);
    held = λ r taken. ⊎_elim
        (λ has. inl has)
        (λ (stopped : IsStopped lens links old.front.next.items r).
        let P : Point → Type 0 = λ p. IsReturn lens p × IsAfterCycle links p in
        inr (subst P (sym (point_still r (inr taken))) stopped))
        (is.stack.held r taken);
    done = λ r lt. ⊎_elim
        (λ (end : slice_index old.front.next.items r ≡ 2 * slice_index lens r). let more = ahead.more r in let most = ahead.walk.front.within r in inl (omega arith))
        (λ own. inr own)
        (is.stack.done r lt);
  }

  pub search_ahead : IsSearch lens links new rank current
  search_ahead =
      let P : List ℕ → Type 0 = λ ws. IsStack lens links new.front.next.items old.free.items ws rank current in
      let Q : List Bool → Type 0 = λ free. IsStack lens links new.front.next.items free new.waiting.items rank current in
      record { walk = ahead.walk; stack = subst Q (sym ahead.free) (subst P (sym ahead.waiting) stack_later) }
