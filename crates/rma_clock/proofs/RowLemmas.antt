-- Rows that are raised.
use Rattle.std.proofs.Common.{◌≡◌, ℕ, ◌<◌, ◌≤◌, ◌⊎◌, inl, inr, max, List, [], ◌∷◌, ◌++◌, length, set, replicate, refl, sym, ap, subst, ◌∙◌, arith, ⊎_elim}
use Rattle.std.specs.Prelude.{slice_index, Contains}
use Rattle.std.proofs.lemmas.Bool.{cases_eq, cases_lt}
use Rattle.std.proofs.lemmas.List.{get_or-set_same, get_or-set_other, length-set}
use Rattle.std.proofs.lemmas.List.Elements.{Contains-push, Contains-push_cases, Contains-append_left}
use Rattle.rma_base.specs.declared.point.Point.{Point}
use Rattle.rma_walk.proofs.ListLemmas.{replicate_at}
use Rattle.rma_clock.specs.inside.Before.{Covers, IsRow, IsRaised}

pub raised_by_max : (other old new : List ℕ) → length new ≡ length old → ((r : ℕ) → slice_index new r ≡ max (slice_index old r) (slice_index other r)) → IsRaised (Covers other) old new
raised_by_max other old new size each = record {
  size = size;
  kept = λ p covered. let at = each p.rank.0 in omega arith;
  added = λ p covered. let at = each p.rank.0 in omega arith;
  only = λ p covered.
      let at = each p.rank.0 in
      ⊎_elim
      (λ (before : p.pos < slice_index old p.rank.0). inl before)
      (λ (past : slice_index old p.rank.0 ≤ p.pos). let rest : Covers other p = omega arith in inr rest)
      (cases_lt p.pos (slice_index old p.rank.0));
}

-- so many points of a rank
abbrev pub IsAmong : ℕ → ℕ → Point → Type 0
IsAmong rank number p = (p.rank.0 ≡ rank) × (p.pos < number)

abbrev pub raised : List ℕ → ℕ → ℕ → List ℕ
raised old rank number = set old rank (max (slice_index old rank) number)

pub raised_by_one : (old : List ℕ) (rank number : ℕ) → rank < length old → IsRaised (IsAmong rank number) old (raised old rank number)
raised_by_one old rank number there =
    let new : List ℕ = set old rank (max (slice_index old rank) number) in
    let this : slice_index new rank ≡ max (slice_index old rank) number = get_or-set_same old rank _ 0 there in
    let here : (p : Point) → p.rank.0 ≡ rank → slice_index new p.rank.0 ≡ max (slice_index old p.rank.0) number =
    λ p own. ap (slice_index new) own ∙ this ∙ ap (λ r. max (slice_index old r) number) (sym own) in
    let apart : (p : Point) → (p.rank.0 ≡ rank → ⊥) → slice_index new p.rank.0 ≡ slice_index old p.rank.0 = λ p differs. get_or-set_other old rank p.rank.0 _ 0 differs in
    record {
      size = length-set old rank _;
      kept = λ p covered. ⊎_elim
          (λ (own : p.rank.0 ≡ rank). let at = here p own in omega arith)
          (λ (differs : p.rank.0 ≡ rank → ⊥). let at = apart p differs in omega arith)
          (cases_eq p.rank.0 rank);
      added = λ p among. let at = here p among.0 in let lt = among.1 in omega arith;
      only = λ p covered. ⊎_elim
          (λ (own : p.rank.0 ≡ rank).
          let at = here p own in
          ⊎_elim
          (λ (before : p.pos < slice_index old p.rank.0). inl before)
          (λ (past : slice_index old p.rank.0 ≤ p.pos). inr (own, omega arith))
          (cases_lt p.pos (slice_index old p.rank.0)))
          (λ (differs : p.rank.0 ≡ rank → ⊥). let at = apart p differs in let before : Covers old p = omega arith in inl before)
          (cases_eq p.rank.0 rank);
    }

pub raised_then : (P Q R : Point → Type 0) (a b c : List ℕ) → IsRaised P a b → IsRaised Q b c → ((p : Point) → R p → P p ⊎ Q p) → ((p : Point) → P p ⊎ Q p → R p) → IsRaised R a c
raised_then P Q R a b c one two from to = record {
  size = two.size ∙ one.size;
  kept = λ p covered. two.kept p (one.kept p covered);
  added = λ p new. ⊎_elim (λ early. two.kept p (one.added p early)) (λ late. two.added p late) (from p new);
  only = λ p covered. ⊎_elim
      (λ before. ⊎_elim (λ older. inl older) (λ early. inr (to p (inl early))) (one.only p before))
      (λ late. inr (to p (inr late)))
      (two.only p covered);
}

-- one more of these
pub raised_by_more : {A : Type 0} (P : A → Point → Type 0) (some more : List A) (x : A) (none old new : List ℕ) → more ≡ some ++ x ∷ [] → IsRaised (λ p. (y : A) × Contains some y × P y p) none old → IsRaised (P x) old new
    → IsRaised (λ p. (y : A) × Contains more y × P y p) none new
raised_by_more {A = A} P some more x none old new is one two =
    let S : List A → Point → Type 0 = λ xs p. (y : A) × Contains xs y × P y p in
    subst (λ xs. IsRaised (S xs) none new) (sym is)
    (raised_then (S some) (P x) (S (some ++ x ∷ [])) none old new one two
    (λ p found. ⊎_elim
    (λ early. inl (found.0, early, found.2))
    (λ (last : x ≡ found.0). inr (subst (λ y. P y p) (sym last) found.2))
    (Contains-push_cases some x found.0 found.1))
    (λ p either. ⊎_elim
    (λ (found : S some p). (found.0, Contains-append_left some (x ∷ []) found.0 found.1, found.2))
    (λ last. (x, Contains-push some x, last))
    either))

pub raised_as : (P R : Point → Type 0) (a b : List ℕ) → IsRaised P a b → ((p : Point) → R p → P p) → ((p : Point) → P p → R p) → IsRaised R a b
raised_as P R a b one from to = record {
  size = one.size;
  kept = one.kept;
  added = λ p new. one.added p (from p new);
  only = λ p covered. ⊎_elim (λ older. inl older) (λ new. inr (to p new)) (one.only p covered);
}

pub row_from_none : (P : Point → Type 0) (n : ℕ) (row : List ℕ) → IsRaised P (replicate n 0) row → IsRow P row
row_from_none P n row raised = record {
  only = λ p covered. ⊎_elim
      (λ (none : Covers (replicate n 0) p). let zeros : slice_index (replicate n 0) p.rank.0 ≡ 0 = replicate_at n p.rank.0 0 in absurd (omega arith))
      (λ new. new)
      (raised.only p covered);
  all = raised.added;
}

pub row_as : (P R : Point → Type 0) (row : List ℕ) → IsRow P row → ((p : Point) → R p → P p) → ((p : Point) → P p → R p) → IsRow R row
row_as P R row is from to = record {
  only = λ p covered. to p (is.only p covered);
  all = λ p new. is.all p (from p new);
}

pub raised_by_nothing : (P : Point → Type 0) (row : List ℕ) → ((p : Point) → P p → ⊥) → IsRaised P row row
raised_by_nothing P row none = record {
  size = refl;
  kept = λ p covered. covered;
  added = λ p new. absurd (none p new);
  only = λ p covered. inl covered;
}
