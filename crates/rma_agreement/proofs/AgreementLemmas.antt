-- Where the calls of each round agree, none differs from the first.
use Rattle.std.proofs.Common.{◌≡◌, ℕ, zero, suc, ◌+◌, Bool, true, false, cond, List, [], ◌∷◌, ◌++◌, Option, Some, None, take, slice_get, nat_eq, refl, sym, ap, subst, ◌∙◌, arith, append_assoc, append-nil}
use Rattle.std.specs.Prelude.{Contains, find}
use Rattle.std.specs.List.{cons_option, filter_map}
use Rattle.std.specs.Cmp.Lexicographic.{pointwise, nat_list_eq_equiv, same_text}
use Rattle.std.proofs.lemmas.Bool.{eqb-true}
use Rattle.std.proofs.lemmas.List.Sums.{sum_by-cons}
use Rattle.rma_base.specs.declared.rank.Rank.{Rank}
use Rattle.rma_base.proofs.NameLemmas.{and_left, and_right}
use Rattle.rma_call.specs.Call.{Call, RankCalls}
use Rattle.rma_run.specs.Run.{AreInOrder, calls_of}
use Rattle.rma_run.proofs.CallLemmas.{calls_are_own}
use Rattle.rma_run.proofs.ContainLemmas.{has_first, has_later, has_none, first_or_later, in_flat_map}
use Rattle.rma_round.specs.declared.kind.Kind.{Kind}
use Rattle.rma_round.specs.Kind.{count_of, is_on, named}
use Rattle.rma_round.specs.Round.{numbers, numbers_from}
use Rattle.rma_agreement.specs.Argument.{arguments_of, same_arguments}
use Rattle.rma_agreement.specs.Collective.{RoundCall, place_of, round_call_at, round_calls, walked}
use Rattle.rma_agreement.specs.Round.{is_at, round_difference, round_differences}
use Rattle.rma_agreement.specs.inside.Agreement.{AgreeOn, IsInRound}
use Rattle.rma_agreement.proofs.ArgumentLemmas.{same_arguments_refl}
use Rattle.rma_agreement.proofs.CountLemmas.{is_on_some}

-- ---- the calls of rounds

-- what a walk has is had of a call, after those before it
walked_in : {Y : Type 0} (f : Rank → List Call → Call → Option Y) (rank : Rank) (before calls : List Call) (y : Y) → Contains (walked f rank before calls) y →
    (k : ℕ) × (call : Call) × (slice_get calls k ≡ Some call) × (f rank (before ++ take k calls) call ≡ Some y)
walked_in f rank before [] y has = has_none y has
walked_in f rank before (c ∷ cs) y has = by (f rank before c) refl has (walked_in f rank (before ++ c ∷ []) cs y)
  where
    by : (o : Option _) → f rank before c ≡ o → Contains (cons_option o (walked f rank (before ++ c ∷ []) cs)) y →
        (Contains (walked f rank (before ++ c ∷ []) cs) y → (k : ℕ) × (call : Call) × (slice_get cs k ≡ Some call) × (f rank ((before ++ c ∷ []) ++ take k cs) call ≡ Some y)) →
        (k : ℕ) × (call : Call) × (slice_get (c ∷ cs) k ≡ Some call) × (f rank (before ++ take k (c ∷ cs)) call ≡ Some y)
    by None is later rest =
        let one = rest later in (suc one.0, one.1, one.2, ap (λ l. f rank l one.1) (sym (append_assoc before (c ∷ []) (take one.0 cs))) ∙ one.3)
    by (Some z) is own rest =
        first_or_later z y (walked f rank (before ++ c ∷ []) cs)
        (λ same. (0, c, refl, ap (λ l. f rank l c) (append-nil before) ∙ is ∙ ap Some same))
        (λ later. let one = rest later in (suc one.0, one.1, one.2, ap (λ l. f rank l one.1) (sym (append_assoc before (c ∷ []) (take one.0 cs))) ∙ one.3))
        own

module _ (kind : Kind) (name : List ℕ) where
  number_from : (n : ℕ) (calls : List Call) (k : ℕ) (call : Call) → slice_get calls k ≡ Some call → is_on kind name call ≡ true →
      slice_get (numbers_from kind name n calls) (count_of kind name (take k calls)) ≡ Some (n + k)
  number_from n [] k call there on = absurd (let no : ⊥ = cc in no)
  number_from n (c ∷ cs) zero call there on =
      let is : c ≡ call = cc in
      rw (is, on) (ap Some (let e : n ≡ n + 0 = omega arith in e))
  number_from n (c ∷ cs) (suc k) call there on =
      ap (slice_get (numbers_from kind name n (c ∷ cs))) (sum_by-cons (λ x. cond (is_on kind name x) 1 0) c (take k cs))
      ∙ by (is_on kind name c) (number_from (n + 1) cs k call there on ∙ ap Some (let e : n + 1 + k ≡ n + suc k = omega arith in e))
    where
      by : (b : Bool) → slice_get (numbers_from kind name (n + 1) cs) (count_of kind name (take k cs)) ≡ Some (n + suc k) →
          slice_get (cond b (n ∷ numbers_from kind name (n + 1) cs) (numbers_from kind name (n + 1) cs)) (cond b 1 0 + count_of kind name (take k cs)) ≡ Some (n + suc k)
      by true later = ap (slice_get (n ∷ numbers_from kind name (n + 1) cs)) (let e : 1 + count_of kind name (take k cs) ≡ suc (count_of kind name (take k cs)) = omega arith in e) ∙ later
      by false later = ap (slice_get (numbers_from kind name (n + 1) cs)) (let e : 0 + count_of kind name (take k cs) ≡ count_of kind name (take k cs) = omega arith in e) ∙ later

  -- a call of the kind on the name has the place of those before it
  number_at : (calls : List Call) (k : ℕ) (call : Call) → slice_get calls k ≡ Some call → named kind call.what ≡ Some name → slice_get (numbers kind name calls) (count_of kind name (take k calls)) ≡ Some k
  number_at calls k call there is =
      number_from 0 calls k call there (is_on_some kind name name call is ∙ nat_list_eq_equiv.refl name) ∙ ap Some (let e : 0 + k ≡ k = omega arith in e)

-- a call of a kind is in its round
in_round : (kind : Kind) (ranks : List RankCalls) → AreInOrder ranks → (own : RoundCall) → Contains (round_calls kind ranks) own → IsInRound kind ranks own.name own.number own.arguments
in_round kind ranks in_order own has =
    let of = in_flat_map (λ (r : RankCalls). walked (round_call_at kind) r.rank [] r.calls) ranks own has in
    let log = of.0 in
    let one = walked_in (round_call_at kind) log.rank [] log.calls own of.2 in
    by log of.1 one.0 one.1 one.2 (named kind one.1.what) refl one.3
  where
    by : (log : RankCalls) → Contains ranks log → (k : ℕ) (call : Call) → slice_get log.calls k ≡ Some call → (o : Option (List ℕ)) → named kind call.what ≡ o →
        round_call_at kind log.rank (take k log.calls) call ≡ Some own → IsInRound kind ranks own.name own.number own.arguments
    by log of k call there None is at = absurd (let no : ⊥ = cc in no)
    by log of k call there (Some name) is at =
        let calls : calls_of ranks log.rank.0 ≡ log.calls = calls_are_own ranks log in_order of in
        let those = take k log.calls in
        let made : RoundCall =
        record { rank = log.rank; line = call.line; name = name; number = count_of kind name those; arguments = arguments_of (place_of those call.what) call.what } in
        let same : Some made ≡ Some own = rw is at at in
        let e : made ≡ own = cc in
        subst (λ (r : RoundCall). IsInRound kind ranks r.name r.number r.arguments) e (record {
          rank = log.rank.0;
          index = k;
          call = call;
          is_numbered = subst (λ l. slice_get (numbers kind name l) (count_of kind name those) ≡ Some k) (sym calls) (number_at kind name log.calls k call there is);
          there = subst (λ l. slice_get l k ≡ Some call) (sym calls) there;
          are = ap (λ l. arguments_of (place_of (take k l) call.what) call.what) calls;
        })

-- ---- no differences

found_in : {X : Type 0} (p : X → Bool) (xs : List X) (x : X) → find p xs ≡ Some x → Contains xs x × (p x ≡ true)
found_in p [] x is = absurd (let no : ⊥ = cc in no)
found_in p (y ∷ ys) x is = by (p y) refl is (found_in p ys x)
  where
    by : (b : Bool) → p y ≡ b → cond b (Some y) (find p ys) ≡ Some x → (find p ys ≡ Some x → Contains ys x × (p x ≡ true)) → Contains (y ∷ ys) x × (p x ≡ true)
    by true passed same later = let e : y ≡ x = cc in (subst (Contains (y ∷ ys)) e (has_first y ys), ap p (sym e) ∙ passed)
    by false failed rest later = let one = later rest in (has_later y x ys one.0, one.1)

none_mapped : {X Y : Type 0} (f : X → Option Y) (xs : List X) → ((x : X) → Contains xs x → f x ≡ None) → filter_map f xs ≡ []
none_mapped f [] none = refl
none_mapped f (x ∷ xs) none = ap (λ o. cons_option o (filter_map f xs)) (none x (has_first x xs)) ∙ none_mapped f xs (λ y has. none y (has_later x y xs has))

-- where the calls of each round agree, none differs from the first
module _ (kind : Kind) (ranks : List RankCalls) (in_order : AreInOrder ranks) (agree : (name : List ℕ) → AgreeOn kind ranks name) where
  abbrev all : List RoundCall
  all = round_calls kind ranks

  differs_none : (own : RoundCall) → Contains all own → (o : Option RoundCall) → find (is_at own.name own.number) all ≡ o → round_difference kind all own ≡ None
  differs_none own has None is = rw is refl
  differs_none own has (Some first) is =
      let found = found_in (is_at own.name own.number) all first is in
      let name : first.name ≡ own.name = same_text first.name own.name (sym (and_left (pointwise nat_eq first.name own.name) (nat_eq first.number own.number) found.1)) in
      let number : first.number ≡ own.number = eqb-true first.number own.number (and_right (pointwise nat_eq first.name own.name) (nat_eq first.number own.number) found.1) in
      let one : IsInRound kind ranks own.name own.number first.arguments =
      subst (λ n. IsInRound kind ranks own.name n first.arguments) number (subst (λ n. IsInRound kind ranks n first.number first.arguments) name (in_round kind ranks in_order first found.0)) in
      let same = agree own.name own.number first.arguments own.arguments one (in_round kind ranks in_order own has) in
      let agrees : same_arguments first.arguments own.arguments ≡ true = ap (same_arguments first.arguments) (sym same) ∙ same_arguments_refl first.arguments in
      rw (is, agrees) refl

  pub none_differ : round_differences kind (round_calls kind ranks) ≡ []
  none_differ = none_mapped (round_difference kind all) all (λ own has. differs_none own has (find (is_at own.name own.number) all) refl)
