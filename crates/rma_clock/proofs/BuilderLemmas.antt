-- Clocks that get rows and steps.
use Rattle.std.proofs.Common.{◌≡◌, ℕ, ◌-◌, ◌<◌, ◌≤◌, ◌⊎◌, inl, inr, List, [], ◌∷◌, ◌++◌, length, get_or, set, replicate, Option, Some, None, refl, sym, ap, subst, ◌∙◌, arith, ⊎_elim}
use Rattle.std.specs.Prelude.{All, Contains}
use Rattle.std.specs.List.Sorted.{IsNonDecreasingBy}
use Rattle.std.proofs.lemmas.Bool.{cases_eq}
use Rattle.std.proofs.lemmas.List.{get_or_append_left, get_or_push, get_or-set_same, get_or-set_other, length-set, length-replicate, length_push}
use Rattle.std.proofs.lemmas.List.Elements.{All-nil, All-push, Contains-push, Contains-push_cases, Contains-append_left}
use Rattle.std.proofs.lemmas.List.Sorted.{IsNonDecreasingBy-push}
use Rattle.std.proofs.lemmas.Option.{same_Some, none-some}
use Rattle.rma_base.specs.declared.point.Point.{Point}
use Rattle.rma_link.specs.declared.links.Links.{Links}
use Rattle.rma_link.specs.Order.{IsAtOrBefore}
use Rattle.rma_walk.specs.declared.source.Source.{Source}
use Rattle.rma_walk.specs.declared.source.Source.TheVariants.{Entry, Meet}
use Rattle.rma_walk.proofs.ListLemmas.{contains_none, replicate_at}
use Rattle.rma_clock.specs.declared.step.Step.{Step}
use Rattle.rma_clock.specs.declared.table.Table.{Table}
use Rattle.rma_clock.specs.declared.builder.Builder.{Builder}
use Rattle.rma_clock.specs.inside.Before.{point_at, Covers, IsBefore, IsBeforeSource, IsBeforeSome, IsRow, IsRaised}
use Rattle.rma_clock.specs.inside.Table.{IsTable, AreShared, IsBuilder, IsSettled, steps_of, row_at}
use Rattle.rma_clock.proofs.RowLemmas.{raised_then, raised_as}

-- rows that get one more
pub row_kept : (rows : List (List ℕ)) (numbers : List ℕ) (k : ℕ) → k < length rows → row_at (rows ++ numbers ∷ []) k ≡ row_at rows k
row_kept rows numbers k lt = get_or_append_left rows (numbers ∷ []) [] k lt

pub row_new : (rows : List (List ℕ)) (numbers : List ℕ) (k : ℕ) → k ≡ length rows → row_at (rows ++ numbers ∷ []) k ≡ numbers
row_new rows numbers k last = get_or_push rows numbers [] k (sym last)

abbrev IsAtIndex : (Point → Type 0) → List (List ℕ) → ℕ → Type 0
IsAtIndex P rows row = (row < length rows) × IsRow P (row_at rows row)

still_at : (P : Point → Type 0) (rows : List (List ℕ)) (numbers : List ℕ) (row : ℕ) → IsAtIndex P rows row → IsAtIndex P (rows ++ numbers ∷ []) row
still_at P rows numbers row (lt, is) =
    let more = length_push rows numbers in
    (omega arith, subst (IsRow P) (sym (row_kept rows numbers row lt)) is)

pub new_at : (P : Point → Type 0) (rows more : List (List ℕ)) (numbers : List ℕ) (row : ℕ) → more ≡ rows ++ numbers ∷ [] → row ≡ length rows → IsRow P numbers → IsAtIndex P more row
new_at P rows more numbers row is last new =
    let size = length_push rows numbers in
    let Q : List (List ℕ) → Type 0 = λ all. IsAtIndex P all row in
    subst Q (sym is) (omega arith, subst (IsRow P) (sym (row_new rows numbers row last)) new)

pub table_with_row : (n : ℕ) (links : Links) (old new : Table) (numbers : List ℕ) → IsTable n links old → new.steps ≡ old.steps → new.rows ≡ old.rows ++ numbers ∷ [] → length numbers ≡ n → IsTable n links new
table_with_row n links old new numbers is steps rows width =
    let same : new.steps.items ≡ old.steps.items = ap (λ v. v.items) steps in
    record {
      size = ap length same ∙ is.size;
      widths = subst (All (λ row. length row ≡ n)) (sym rows) (All-push (λ row. length row ≡ n) old.rows numbers is.widths width);
      sorted = λ r. subst (λ all. IsNonDecreasingBy (λ (s : Step). s.pos) (steps_of all r)) (sym same) (is.sorted r);
      right = λ r s has.
          let Q : List (List ℕ) → Type 0 = λ all. IsAtIndex (IsBefore links (point_at r s.pos)) all s.row in
          subst Q (sym rows) (still_at (IsBefore links (point_at r s.pos)) old.rows numbers s.row (is.right r s (subst (λ all. Contains (steps_of all r) s) same has)));
    }

pub shared_with_row : (links : Links) (rows more : List (List ℕ)) (numbers : List ℕ) (meets : List (Option ℕ)) → more ≡ rows ++ numbers ∷ [] → AreShared links rows meets → AreShared links more meets
shared_with_row links rows more numbers meets is shared =
    subst (λ all. AreShared links all meets) (sym is) (record {
      size = shared.size;
      right = λ index row at. still_at (IsBeforeSource links (Meet index)) rows numbers row (shared.right index row at);
    })

pub shared_with_meet : (links : Links) (rows : List (List ℕ)) (meets : List (Option ℕ)) (index row : ℕ) → AreShared links rows meets → index < length meets → IsAtIndex (IsBeforeSource links (Meet index)) rows row
    → AreShared links rows (set meets index (Some row))
shared_with_meet links rows meets index row shared lt new = record {
  size = length-set meets index (Some row) ∙ shared.size;
  right = λ i r at. ⊎_elim
      (λ (here : i ≡ index).
      let this : get_or (set meets index (Some row)) i None ≡ Some row = ap (λ k. get_or (set meets index (Some row)) k None) here ∙ get_or-set_same meets index (Some row) None lt in
      let same : row ≡ r = same_Some row r (sym this ∙ at) in
      let P : ℕ → ℕ → Type 0 = λ k q. IsAtIndex (IsBeforeSource links (Meet k)) rows q in
      subst (λ k. P k r) (sym here) (subst (P index) same new))
      (λ (there : i ≡ index → ⊥). shared.right i r (sym (get_or-set_other meets index i (Some row) None there) ∙ at))
      (cases_eq i index);
}

-- a source that is one entry, and one that has a row
pub raised_by_entry : (links : Links) (point : Point) (old new : List ℕ) → IsRaised (λ p. IsAtOrBefore links p point) old new → IsRaised (IsBeforeSource links (Entry point)) old new
raised_by_entry links point old new is =
    raised_as (λ p. IsAtOrBefore links p point) (IsBeforeSource links (Entry point)) old new is
    (λ p (before : IsBeforeSource links (Entry point) p). subst (IsAtOrBefore links p) (sym before.1) before.2)
    (λ p le. (point, refl, le))

pub raised_by_row : (P : Point → Type 0) (row old new : List ℕ) → IsRow P row → IsRaised (Covers row) old new → IsRaised P old new
raised_by_row P row old new is raised = raised_as (Covers row) P old new raised is.all is.only

-- one more source
pub raised_by_source : (links : Links) (own : Point) (some more : List Source) (source : Source) (none old new : List ℕ) → more ≡ some ++ source ∷ []
    → IsRaised (λ p. IsAtOrBefore links p own ⊎ IsBeforeSome links some p) none old → IsRaised (IsBeforeSource links source) old new
    → IsRaised (λ p. IsAtOrBefore links p own ⊎ IsBeforeSome links more p) none new
raised_by_source links own some more source none old new is one two =
    let E : List Source → Type 0 = λ xs. IsRaised (λ p. IsAtOrBefore links p own ⊎ IsBeforeSome links xs p) none new in
    subst E (sym is)
    (raised_then (λ p. IsAtOrBefore links p own ⊎ IsBeforeSome links some p) (IsBeforeSource links source) (λ p. IsAtOrBefore links p own ⊎ IsBeforeSome links (some ++ source ∷ []) p) none old new one two
    (λ p either. ⊎_elim
    (λ le. inl (inl le))
    (λ (found : IsBeforeSome links (some ++ source ∷ []) p). ⊎_elim
    (λ early. inl (inr (found.0, early, found.2)))
    (λ (last : source ≡ found.0). inr (subst (λ s. IsBeforeSource links s p) (sym last) found.2))
    (Contains-push_cases some source found.0 found.1))
    either)
    (λ p either. ⊎_elim
    (λ (early : IsAtOrBefore links p own ⊎ IsBeforeSome links some p). ⊎_elim
    (λ le. inl le)
    (λ (found : IsBeforeSome links some p). inr (found.0, Contains-append_left some (source ∷ []) found.0 found.1, found.2))
    early)
    (λ last. inr (source, Contains-push some source, last))
    either))

pub only_one : {A : Type 0} (xs : List A) (x d : A) → length xs ≡ 1 → get_or xs 0 d ≡ x → xs ≡ x ∷ []
only_one [] x d one is = absurd (omega arith)
only_one (y ∷ []) x d one is = ap (λ z. z ∷ []) is
only_one (y ∷ z ∷ xs) x d one is = absurd (omega arith)

-- steps of one rank that get one more
module _ (n : ℕ) (links : Links) (old new : List (List Step)) (rank : ℕ) (s : Step) (there : rank < length old) (is : new ≡ set old rank (steps_of old rank ++ s ∷ [])) where
  this_rank : steps_of new rank ≡ steps_of old rank ++ s ∷ []
  this_rank = ap (λ all. steps_of all rank) is ∙ get_or-set_same old rank _ [] there

  other_rank : (r : ℕ) → (r ≡ rank → ⊥) → steps_of new r ≡ steps_of old r
  other_rank r differs = ap (λ all. steps_of all r) is ∙ get_or-set_other old rank r _ [] differs

  step_cases_at : (r : ℕ) (t : Step) → Contains (steps_of new r) t → Contains (steps_of old r) t ⊎ ((r ≡ rank) × (s ≡ t))
  step_cases_at r t has =
      ⊎_elim
      (λ (here : r ≡ rank).
      let P : ℕ → Type 0 = λ k. Contains (steps_of old k) t in
      let now : Contains (steps_of old rank ++ s ∷ []) t = subst (λ xs. Contains xs t) (ap (steps_of new) here ∙ this_rank) has in
      ⊎_elim (λ before. inl (subst P (sym here) before)) (λ same. inr (here, same)) (Contains-push_cases (steps_of old rank) s t now))
      (λ (differs : r ≡ rank → ⊥). inl (subst (λ xs. Contains xs t) (other_rank r differs) has))
      (cases_eq r rank)

  step_kept : (r : ℕ) (t : Step) → Contains (steps_of old r) t → Contains (steps_of new r) t
  step_kept r t has =
      ⊎_elim
      (λ (here : r ≡ rank).
      let now = Contains-append_left (steps_of old rank) (s ∷ []) t (subst (λ k. Contains (steps_of old k) t) here has) in
      subst (λ xs. Contains xs t) (sym (ap (steps_of new) here ∙ this_rank)) now)
      (λ (differs : r ≡ rank → ⊥). subst (λ xs. Contains xs t) (sym (other_rank r differs)) has)
      (cases_eq r rank)

  pub settled_with_step : (point : Point) (sources : List Source) → point.rank.0 ≡ rank → s.pos ≡ point.pos → IsSettled point sources old new
  settled_with_step point sources own pos = record {
    size = ap length is ∙ length-set old rank _;
    kept = step_kept;
    added = λ some. (s, subst (λ xs. Contains xs s) (sym (ap (steps_of new) own ∙ this_rank)) (Contains-push (steps_of old rank) s), pos);
    only = λ r t has. ⊎_elim
        (λ before. inl before)
        (λ (last : (r ≡ rank) × (s ≡ t)). inr (last.0 ∙ sym own, ap (λ (o : Step). o.pos) (sym last.1) ∙ pos))
        (step_cases_at r t has);
  }

  pub table_with_step : (table later : Table) → IsTable n links table → table.steps.items ≡ old → later.steps.items ≡ new → later.rows ≡ table.rows → All (λ (t : Step). t.pos ≤ s.pos) (steps_of old rank)
      → IsAtIndex (IsBefore links (point_at rank s.pos)) table.rows s.row → IsTable n links later
  table_with_step table later ok were are rows last right = record {
    size = ap length (are ∙ is) ∙ length-set old rank _ ∙ ap length (sym were) ∙ ok.size;
    widths = subst (All (λ row. length row ≡ n)) (sym rows) ok.widths;
    sorted = λ r. subst (λ all. IsNonDecreasingBy (λ (t : Step). t.pos) (steps_of all r)) (sym are) (⊎_elim
        (λ (here : r ≡ rank).
        let N : List Step → Type 0 = λ xs. IsNonDecreasingBy (λ (t : Step). t.pos) xs in
        subst N (sym (ap (steps_of new) here ∙ this_rank))
        (IsNonDecreasingBy-push (λ (t : Step). t.pos) (steps_of old rank) s (subst (λ all. N (steps_of all rank)) were (ok.sorted rank)) (λ d some. last (length (steps_of old rank) - 1) d (omega arith))))
        (λ (differs : r ≡ rank → ⊥).
        let N : List Step → Type 0 = λ xs. IsNonDecreasingBy (λ (t : Step). t.pos) xs in
        subst N (sym (other_rank r differs)) (subst (λ all. N (steps_of all r)) were (ok.sorted r)))
        (cases_eq r rank));
    right = λ r t has.
        let R : ℕ → Step → List (List ℕ) → Type 0 = λ k o all. IsAtIndex (IsBefore links (point_at k o.pos)) all o.row in
        subst (R r t) (sym rows)
        (⊎_elim
        (λ (before : Contains (steps_of old r) t). ok.right r t (subst (λ all. Contains (steps_of all r) t) (sym were) before))
        (λ (new_one : (r ≡ rank) × (s ≡ t)). subst (λ k. R k t table.rows) (sym new_one.0) (subst (λ o. R rank o table.rows) new_one.1 right))
        (step_cases_at r t (subst (λ all. Contains (steps_of all r) t) are has)));
  }

-- a table without steps
pub empty_table : (n : ℕ) (links : Links) (table : Table) → table.steps.items ≡ replicate n [] → table.rows ≡ [] → IsTable n links table
empty_table n links table steps rows =
    let none : (r : ℕ) → steps_of table.steps.items r ≡ [] = λ r. ap (λ all. steps_of all r) steps ∙ replicate_at n r [] in
    record {
      size = ap length steps ∙ length-replicate n [];
      widths = subst (All (λ row. length row ≡ n)) (sym rows) (All-nil (λ row. length row ≡ n));
      sorted = λ r. subst (λ (xs : List Step). IsNonDecreasingBy (λ (t : Step). t.pos) xs) (sym (none r)) (λ i j d le lt. absurd (omega arith));
      right = λ r s has. absurd (contains_none s (subst (λ xs. Contains xs s) (none r) has));
    }

-- clocks without steps
pub empty_builder : (n : ℕ) (links : Links) (builder : Builder) → builder.links.now ≡ links → builder.table.steps.items ≡ replicate n [] → builder.table.rows ≡ [] → builder.meets.items ≡ replicate (length links.meets) None
    → IsBuilder n links builder
empty_builder n links builder same steps rows meets = record {
  links_are = same;
  rows = empty_table n links builder.table steps rows;
  shared = record {
    size = ap length meets ∙ length-replicate (length links.meets) None;
    right = λ index row at. absurd (none-some row (sym (ap (λ xs. get_or xs index None) meets ∙ replicate_at (length links.meets) index None) ∙ at));
  };
}
