-- A walk on its way.
use Rattle.std.proofs.Common.{◌≡◌, ℕ, ◌*◌, ◌<◌, ◌⊎◌, Bool, true, false, List, [], ◌∷◌, ◌++◌, length, set, sym, ap, subst, ◌∙◌, arith, ⊎_elim}
use Rattle.std.specs.Prelude.{slice_index, slice_index_or}
use Rattle.std.proofs.lemmas.Bool.{cases_Bool}
use Rattle.std.proofs.lemmas.List.{length-set}
use Rattle.rma_base.specs.declared.point.Point.{Point}
use Rattle.rma_link.specs.declared.links.Links.{Links}
use Rattle.rma_walk.specs.inside.Run.{IsBlocked}
use Rattle.rma_walk.specs.inside.Front.{IsFront, IsKept, HasAdvanced}
use Rattle.rma_walk.specs.inside.Pending.{IsPending}
use Rattle.rma_walk.specs.inside.Search.{IsStack, IsSearch, work}
use Rattle.rma_walk.specs.declared.front.Front.{Front}
use Rattle.rma_walk.specs.declared.search.Search.{Search}
use Rattle.rma_walk.proofs.FrontLemmas.{passed_kept}
use Rattle.rma_walk.proofs.BlockerLemmas.{pending_later}
use Rattle.rma_walk.proofs.StackLemmas.{followed_other, stopped_all, passed_alone, passed_for}
use Rattle.rma_walk.proofs.WorkLemmas.{less_by_passing, less_by_returning}

module _ (lens : List ℕ) (links : Links) (old new : Search) (rank current : ℕ) (is : IsSearch lens links old rank current)
    (is_free : slice_index_or old.free.items current true ≡ true) (pending_is : new.pending ≡ old.pending) where
  -- the rank that is followed waits
  module _ (other to : ℕ) (blocked : IsBlocked lens links old.front.next.items current other) (front : new.front ≡ old.front) (taken : new.free.items ≡ set old.free.items current false)
      (follows : slice_index_or (set old.free.items current false) other true ≡ true → (new.waiting.items ≡ old.waiting.items ++ current ∷ []) × (to ≡ other))
      (stops : slice_index_or (set old.free.items current false) other true ≡ false → (new.waiting.items ≡ []) × (to ≡ rank)) where
    stack_of : (waiting : List ℕ) (next : ℕ) → IsStack lens links old.front.next.items (set old.free.items current false) waiting rank next → new.waiting.items ≡ waiting → to ≡ next
        → IsStack lens links new.front.next.items new.free.items new.waiting.items rank to
    stack_of waiting next stack same_waiting same_to =
        let P : Front → Type 0 = λ f. IsStack lens links f.next.items (set old.free.items current false) waiting rank next in
        let Q : List Bool → Type 0 = λ free. IsStack lens links new.front.next.items free waiting rank next in
        let R : List ℕ → Type 0 = λ ws. IsStack lens links new.front.next.items new.free.items ws rank next in
        let S : ℕ → Type 0 = λ t. IsStack lens links new.front.next.items new.free.items new.waiting.items rank t in
        subst S (sym same_to) (subst R (sym same_waiting) (subst Q (sym taken) (subst P (sym front) stack)))

    pub search_waits : IsSearch lens links new rank to
    search_waits =
        let P : Front → Type 0 = λ f. IsFront lens links f.next.items is.walk.order in
        let K : Front → Type 0 = λ f. IsKept f.order is.walk.order in
        let Q : Front → Type 0 = λ f. IsPending lens links f.next.items new.pending in
        record {
          walk = record {
            run = is.walk.run;
            order = is.walk.order;
            front = subst P (sym front) is.walk.front;
            kept = subst K (sym front) is.walk.kept;
            pending = subst Q (sym front) (subst (IsPending lens links old.front.next.items) (sym pending_is) is.walk.pending);
            size = ap length taken ∙ length-set old.free.items current false ∙ is.walk.size;
          };
          stack = ⊎_elim
              (λ (free : slice_index_or (set old.free.items current false) other true ≡ true).
              stack_of (old.waiting.items ++ current ∷ []) other
              (followed_other lens links old.front.next.items old.free.items old.waiting.items rank current is.stack is_free is.walk.run.within other blocked free)
              (follows free).0 (follows free).1)
              (λ (stop : slice_index_or (set old.free.items current false) other true ≡ false).
              stack_of [] rank
              (stopped_all lens links old.front.next.items old.free.items old.waiting.items rank current is.stack is_free is.walk.run.within other blocked stop)
              (stops stop).0 (stops stop).1)
              (cases_Bool (slice_index_or (set old.free.items current false) other true));
        }

  -- the rank that is followed passes points
  module _ (to : ℕ) (more : slice_index old.front.next.items current < 2 * slice_index lens current) (advanced : HasAdvanced lens links current old.front new.front)
      (follows : ((old.waiting.items ≡ []) × (new.waiting.items ≡ []) × (to ≡ current) × (new.free.items ≡ old.free.items))
      ⊎ ((old.waiting.items ≡ new.waiting.items ++ to ∷ []) × (new.free.items ≡ set old.free.items to true))) where
    there : current < length old.front.next.items
    there = let lt = is.stack.within in let size = is.walk.front.ranks in omega arith

    passed_front : (order : List Point) × IsFront lens links new.front.next.items order × IsKept new.front.order order
    passed_front = advanced.front is.walk.order is.walk.front is.walk.kept

    front_later : IsFront lens links (set old.front.next.items current advanced.pos) passed_front.0
    front_later = subst (λ next. IsFront lens links next passed_front.0) advanced.next passed_front.1

    passed_stack : IsStack lens links (set old.front.next.items current advanced.pos) new.free.items new.waiting.items rank to
    passed_stack =
        ⊎_elim
        (λ (alone : (old.waiting.items ≡ []) × (new.waiting.items ≡ []) × (to ≡ current) × (new.free.items ≡ old.free.items)).
        let P : List Bool → Type 0 = λ free. IsStack lens links (set old.front.next.items current advanced.pos) free [] rank current in
        let Q : List ℕ → Type 0 = λ ws. IsStack lens links (set old.front.next.items current advanced.pos) new.free.items ws rank current in
        let R : ℕ → Type 0 = λ t. IsStack lens links (set old.front.next.items current advanced.pos) new.free.items new.waiting.items rank t in
        subst R (sym alone.2) (subst Q (sym alone.1) (subst P (sym alone.3)
        (passed_alone lens links old.front.next.items old.free.items old.waiting.items rank current is.stack is_free advanced.pos more alone.0))))
        (λ (below : (old.waiting.items ≡ new.waiting.items ++ to ∷ []) × (new.free.items ≡ set old.free.items to true)).
        let P : List Bool → Type 0 = λ free. IsStack lens links (set old.front.next.items current advanced.pos) free new.waiting.items rank to in
        subst P (sym below.1)
        (passed_for lens links old.front.next.items old.free.items old.waiting.items rank current is.stack is_free advanced.pos more new.waiting.items to below.0))
        follows

    pub search_passes : IsSearch lens links new rank to
    search_passes =
        let R : List ℕ → Type 0 = λ next. IsPending lens links next new.pending in
        let S : List ℕ → Type 0 = λ next. IsStack lens links next new.free.items new.waiting.items rank to in
        let pending_is_later : IsPending lens links (set old.front.next.items current advanced.pos) old.pending =
        pending_later links old.front.next.items (set old.front.next.items current advanced.pos) (passed_kept old.front.next.items current advanced.pos there advanced.more) lens old.pending is.walk.pending in
        record {
          walk = record {
            run = is.walk.run;
            order = passed_front.0;
            front = passed_front.1;
            kept = passed_front.2;
            pending = subst R (sym advanced.next) (subst (IsPending lens links (set old.front.next.items current advanced.pos)) (sym pending_is) pending_is_later);
            size = passed_stack.size;
          };
          stack = subst S (sym advanced.next) passed_stack;
        }

    pub passing_is_less : work lens new.front.next.items new.free.items < work lens old.front.next.items old.free.items
    passing_is_less =
        let W : List ℕ → Type 0 = λ next. work lens next new.free.items < work lens old.front.next.items old.free.items in
        subst W (sym advanced.next)
        (⊎_elim
        (λ (alone : (old.waiting.items ≡ []) × (new.waiting.items ≡ []) × (to ≡ current) × (new.free.items ≡ old.free.items)).
        let P : List Bool → Type 0 = λ free. work lens (set old.front.next.items current advanced.pos) free < work lens old.front.next.items old.free.items in
        subst P (sym alone.3) (less_by_passing lens old.front.next.items old.free.items current advanced.pos there advanced.more is.walk.front.ranks front_later.within front_later.ranks))
        (λ (below : (old.waiting.items ≡ new.waiting.items ++ to ∷ []) × (new.free.items ≡ set old.free.items to true)).
        let P : List Bool → Type 0 = λ free. work lens (set old.front.next.items current advanced.pos) free < work lens old.front.next.items old.free.items in
        let size = passed_stack.size in
        let in_ranks = passed_stack.within in
        let same : length (set old.free.items to true) ≡ length old.free.items = length-set old.free.items to true in
        let len : length new.free.items ≡ length (set old.free.items to true) = ap length below.1 in
        subst P (sym below.1) (less_by_returning lens old.front.next.items old.free.items current advanced.pos there advanced.more is.walk.front.ranks front_later.within front_later.ranks to (omega arith)))
        follows)
