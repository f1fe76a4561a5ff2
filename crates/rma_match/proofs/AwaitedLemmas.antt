-- The points that a return waits for, one by one.
use Rattle.std.proofs.Common.{◌≡◌, ◌<◌, length, get_or, ℕ, ◌+◌, ◌∷◌, ◌++◌, List, [], Option, Some, None, take, drop, true, map, refl, sym, ap, ◌∙◌, append_assoc, append-nil}
use Rattle.std.specs.Prelude.{is_none, option_map, not, ◌==◌}
use Rattle.std.proofs.lemmas.List.{map-append, take-append-drop}
use Rattle.std.proofs.lemmas.List.Elements.{filter-append}
use Rattle.std.proofs.lemmas.List.Sums.{fold-append}
use Rattle.std.proofs.lemmas.Option.{slice_get-get_or}
use Rattle.rma_base.specs.declared.point.Point.{Point}
use Rattle.rma_run.proofs.WalkLemmas.{taken_there}
use Rattle.rma_match.specs.Source.{all_of, others}
use Rattle.rma_match.specs.inside.Awaited.{with_one, with_more}

-- where a point is not there, no more points change that
pub more_none : (more : List (Option Point)) → with_more None more ≡ None
more_none [] = refl
more_none (point ∷ points) = more_none points

more_some : (before : List Point) (more : List (Option Point)) → with_more (Some before) more ≡ option_map (λ rest. before ++ rest) (all_of more)
more_some before [] = ap Some (sym (append-nil before))
more_some before (None ∷ points) = more_none points
more_some before (Some p ∷ points) = more_some (before ++ p ∷ []) points ∙ by (all_of points)
  where
    by : (o : Option (List Point)) → option_map (λ rest. (before ++ p ∷ []) ++ rest) o ≡ option_map (λ rest. before ++ rest) (option_map (λ rest. p ∷ rest) o)
    by None = refl
    by (Some rest) = ap Some (append_assoc before (p ∷ []) rest)

same_points : (o : Option (List Point)) → option_map (λ (rest : List Point). [] ++ rest) o ≡ o
same_points None = refl
same_points (Some points) = refl

-- points that are added one by one are all of them
pub all_is : (points : List (Option Point)) → with_more (Some []) points ≡ all_of points
all_is points = more_some [] points ∙ same_points (all_of points)

module _ (f : ℕ → Option Point) (start : Option (List Point)) (xs : List ℕ) (i : ℕ) (lt : i < length xs) where
  next : take (i + 1) xs ≡ take i xs ++ get_or xs i 0 ∷ []
  next = taken_there xs i (get_or xs i 0) (slice_get-get_or xs i 0 lt)

  -- one more of a list
  pub one_more : (before now : Option (List Point)) (entry : Option Point) → now ≡ with_one before entry → entry ≡ f (get_or xs i 0) → before ≡ with_more start (map f (take i xs)) →
      now ≡ with_more start (map f (take (i + 1) xs))
  one_more before now entry added is began =
      added
      ∙ ap (with_one before) is
      ∙ ap (λ a. with_one a (f (get_or xs i 0))) began
      ∙ sym
      (ap (λ l. with_more start (map f l)) next
      ∙ ap (with_more start) (map-append f (take i xs) (get_or xs i 0 ∷ []))
      ∙ fold-append with_one start (map f (take i xs)) (f (get_or xs i 0) ∷ []))

  -- one more of a list, if it is another rank
  pub other_more : (rank : ℕ) (before now : Option (List Point)) → now ≡ with_more before (map f (others rank (get_or xs i 0 ∷ []))) → before ≡ with_more start (map f (others rank (take i xs))) →
      now ≡ with_more start (map f (others rank (take (i + 1) xs)))
  other_more rank before now added began =
      let one = get_or xs i 0 ∷ [] in
      added
      ∙ ap (λ a. with_more a (map f (others rank one))) began
      ∙ sym
      (ap (λ l. with_more start (map f (others rank l))) next
      ∙ ap (λ l. with_more start (map f l)) (filter-append (λ member. not (member == rank)) (take i xs) one)
      ∙ ap (with_more start) (map-append f (others rank (take i xs)) (others rank one))
      ∙ fold-append with_one start (map f (others rank (take i xs))) (map f (others rank one)))

none_of : (points : Option (List Point)) → is_none points ≡ true → points ≡ None
none_of None is = refl
none_of (Some points) is = absurd (cc)

-- where a point of the first ones is not there, not all are
module _ (f : ℕ → Option Point) (start : Option (List Point)) (xs : List ℕ) (i : ℕ) (points : Option (List Point)) (lacks : is_none points ≡ true) where
  pub lacking_all : points ≡ with_more start (map f (take i xs)) → points ≡ with_more start (map f xs)
  lacking_all is =
      let none = none_of points lacks in
      none
      ∙ sym
      (ap (λ l. with_more start (map f l)) (sym (take-append-drop i xs))
      ∙ ap (with_more start) (map-append f (take i xs) (drop i xs))
      ∙ fold-append with_one start (map f (take i xs)) (map f (drop i xs))
      ∙ ap (λ a. with_more a (map f (drop i xs))) (sym is ∙ none)
      ∙ more_none (map f (drop i xs)))

  -- the same of other ranks
  pub lacking_others : (rank : ℕ) → points ≡ with_more start (map f (others rank (take i xs))) → points ≡ with_more start (map f (others rank xs))
  lacking_others rank is =
      let none = none_of points lacks in
      none
      ∙ sym
      (ap (λ l. with_more start (map f (others rank l))) (sym (take-append-drop i xs))
      ∙ ap (λ l. with_more start (map f l)) (filter-append (λ member. not (member == rank)) (take i xs) (drop i xs))
      ∙ ap (with_more start) (map-append f (others rank (take i xs)) (others rank (drop i xs)))
      ∙ fold-append with_one start (map f (others rank (take i xs))) (map f (others rank (drop i xs)))
      ∙ ap (λ a. with_more a (map f (others rank (drop i xs)))) (sym is ∙ none)
      ∙ more_none (map f (others rank (drop i xs))))
