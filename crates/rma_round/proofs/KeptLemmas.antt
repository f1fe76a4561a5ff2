-- What is kept of a run, with more calls of a rank.
use Rattle.std.proofs.Common.{◌≡◌, ℕ, ◌+◌, Bool, true, false, cond, ◌∷◌, ◌++◌, List, [], length, Option, Some, None, Result, Ok, Err, nat_eq, take, slice_get, refl, sym, ap, subst, ◌∙◌, append-nil}
use Rattle.std.specs.Prelude.{OnOk, IsSome, Contains}
use Rattle.std.specs.Cmp.Lexicographic.{pointwise, same_text}
use Rattle.std.proofs.lemmas.Map.Views.{Contains-keys_from_lookup}
use Rattle.rma_run.proofs.ContainLemmas.{has_none}
use Rattle.rma_round.specs.declared.name_rounds.NameRounds.{NameRounds}
use Rattle.std.proofs.lemmas.Bool.{eqb-true}
use Rattle.rma_call.specs.Call.{Call, RankCalls}
use Rattle.rma_run.specs.Run.{calls_of, with_calls}
use Rattle.rma_run.proofs.CallLemmas.{next_calls}
use Rattle.rma_round.specs.declared.kind.Kind.{Kind}
use Rattle.rma_round.specs.declared.kind.Kind.TheVariants.{Collective, Free, Fence, Moving}
use Rattle.rma_round.specs.declared.kind_rounds.KindRounds.{KindRounds}
use Rattle.rma_round.specs.declared.rounds.Rounds.{Rounds}
use Rattle.rma_round.specs.Kind.{named, is_on}
use Rattle.rma_round.specs.Round.{numbers}
use Rattle.rma_round.specs.inside.Rounds.{kept, numbers_in, names_in, AreOfKind, of_kind, Represents}
use Rattle.rma_round.proofs.NumberLemmas.{numbers_push, numbers_same, some_number}

module _ (kind : Kind) where
  on_none : (name : List ℕ) (call : Call) → named kind call.what ≡ None → is_on kind name call ≡ false
  on_none name call none = rw none refl

  on_some : (name own : List ℕ) (call : Call) → named kind call.what ≡ Some own → is_on kind name call ≡ pointwise nat_eq own name
  on_some name own call is = rw is refl

  -- a call that is not of the kind on a name leaves the numbers of each rank on it
  same_numbers : (calls : ℕ → List Call) (rank : ℕ) (call : Call) (name : List ℕ) (other : ℕ) → is_on kind name call ≡ false → numbers kind name (calls other) ≡ numbers kind name (with_calls calls rank (call ∷ []) other)
  same_numbers calls rank call name other not = by (nat_eq rank other)
    where
      by : (b : Bool) → numbers kind name (calls other) ≡ numbers kind name (cond b (calls other ++ call ∷ []) (calls other))
      by true = sym (numbers_same kind name (calls other) call not)
      by false = refl

  -- one that is on it adds its number to those of its rank
  more_numbers : (calls : ℕ → List Call) (rank : ℕ) (call : Call) (name : List ℕ) (other number : ℕ) → is_on kind name call ≡ true → length (calls rank) ≡ number →
      numbers kind name (calls other) ++ cond (nat_eq rank other) (number ∷ []) [] ≡ numbers kind name (with_calls calls rank (call ∷ []) other)
  more_numbers calls rank call name other number on len = by (nat_eq rank other) refl
    where
      by : (b : Bool) → nat_eq rank other ≡ b → numbers kind name (calls other) ++ cond b (number ∷ []) [] ≡ numbers kind name (cond b (calls other ++ call ∷ []) (calls other))
      by true same =
          ap (λ n. numbers kind name (calls other) ++ n ∷ []) (sym len ∙ ap (λ r. length (calls r)) (eqb-true rank other same))
          ∙ ap (λ b. numbers kind name (calls other) ++ cond b (length (calls other) ∷ []) []) (sym on)
          ∙ sym (numbers_push kind name (calls other) call)
      by false differ = append-nil (numbers kind name (calls other))

  -- a call of another kind
  pub AreOfKind_same : (calls : ℕ → List Call) (rank : ℕ) (call : Call) (rounds : KindRounds) → named rounds.kind call.what ≡ None → AreOfKind kind calls rounds → AreOfKind kind (with_calls calls rank (call ∷ [])) rounds
  AreOfKind_same calls rank call rounds none are = record {
    kind_is = are.kind_is;
    numbers_are = λ name other. are.numbers_are name other ∙ same_numbers calls rank call name other (on_none name call (subst (λ k. named k call.what ≡ None) are.kind_is none));
  }

  -- a call of the kind
  pub AreOfKind_added : (calls : ℕ → List Call) (rank number : ℕ) (call : Call) (own : List ℕ) (old new : KindRounds) → named old.kind call.what ≡ Some own → length (calls rank) ≡ number → new.kind ≡ old.kind →
      ((name : List ℕ) (other : ℕ) → pointwise nat_eq own name ≡ true → numbers_in (kept new.names.entries name) other ≡ numbers_in (kept old.names.entries name) other ++ cond (nat_eq rank other) (number ∷ []) []) →
      ((name : List ℕ) → pointwise nat_eq own name ≡ false → kept new.names.entries name ≡ kept old.names.entries name) →
      AreOfKind kind calls old → AreOfKind kind (with_calls calls rank (call ∷ [])) new
  AreOfKind_added calls rank number call own old new is len stays added others are = record {
    kind_is = stays ∙ are.kind_is;
    numbers_are = λ name other. by name other (pointwise nat_eq own name) refl;
  }
    where
      is_named : named kind call.what ≡ Some own
      is_named = subst (λ k. named k call.what ≡ Some own) are.kind_is is

      by : (name : List ℕ) (other : ℕ) (b : Bool) → pointwise nat_eq own name ≡ b → numbers_in (kept new.names.entries name) other ≡ numbers kind name (with_calls calls rank (call ∷ []) other)
      by name other true same =
          added name other same
          ∙ ap (λ ns. ns ++ cond (nat_eq rank other) (number ∷ []) []) (are.numbers_are name other)
          ∙ more_numbers calls rank call name other number (on_some name own call is_named ∙ same) len
      by name other false differ =
          ap (λ o. numbers_in o other) (others name differ)
          ∙ are.numbers_are name other
          ∙ same_numbers calls rank call name other (on_some name own call is_named ∙ differ)

  -- a name that a call of the kind is on is kept
  pub is_kept : (calls : ℕ → List Call) (rounds : KindRounds) → AreOfKind kind calls rounds → (rank number : ℕ) (call : Call) (name : List ℕ) → slice_get (calls rank) number ≡ Some call → named kind call.what ≡ Some name → Contains (names_in rounds) name
  is_kept calls rounds are rank number call name there is =
      Contains-keys_from_lookup (λ x y e. same_text x y (sym e)) name rounds.names.entries (by (kept rounds.names.entries name) (are.numbers_are name rank))
    where
      by : (o : Option NameRounds) → numbers_in o rank ≡ numbers kind name (calls rank) → IsSome o
      by None same = has_none (0 + number) (subst (λ l. Contains l (0 + number)) (sym same) (some_number kind name (calls rank) number call there is))
      by (Some own) same = refl

  AreOfKind_along : (f g : ℕ → List Call) (rounds : KindRounds) → ((rank : ℕ) → f rank ≡ g rank) → AreOfKind kind f rounds → AreOfKind kind g rounds
  AreOfKind_along f g rounds same are = record {
    kind_is = are.kind_is;
    numbers_are = λ name rank. are.numbers_are name rank ∙ ap (numbers kind name) (same rank);
  }

pub Represents_of_kind : (kind : Kind) (calls : ℕ → List Call) (rounds : Rounds) → Represents calls rounds → AreOfKind kind calls (of_kind kind rounds)
Represents_of_kind Collective calls rounds are = are.collectives_are
Represents_of_kind Free calls rounds are = are.frees_are
Represents_of_kind Fence calls rounds are = are.fences_are
Represents_of_kind Moving calls rounds are = are.movings_are

-- the same calls of each rank
Represents_along : (f g : ℕ → List Call) (rounds : Rounds) → ((rank : ℕ) → f rank ≡ g rank) → Represents f rounds → Represents g rounds
Represents_along f g rounds same are = record {
  collectives_are = AreOfKind_along _ f g rounds.collectives same are.collectives_are;
  frees_are = AreOfKind_along _ f g rounds.frees same are.frees_are;
  fences_are = AreOfKind_along _ f g rounds.fences same are.fences_are;
  movings_are = AreOfKind_along _ f g rounds.movings same are.movings_are;
}

-- the calls of one more rank
pub Represents_next : (ranks : List RankCalls) (i : ℕ) (own : RankCalls) (rounds : Rounds) → slice_get ranks i ≡ Some own → own.rank.0 ≡ i →
    Represents (with_calls (calls_of (take i ranks)) own.rank.0 own.calls) rounds → Represents (calls_of (take (i + 1) ranks)) rounds
Represents_next ranks i own rounds there is are =
    Represents_along (with_calls (calls_of (take i ranks)) own.rank.0 own.calls) (calls_of (take (i + 1) ranks)) rounds (next_calls ranks i own there is) are

pub OnOk_both : {T E A B C : Type 0} (r : Result T E) → (A → B → C) → OnOk r A → OnOk r B → OnOk r C
OnOk_both (Ok x) f a b = f a b
OnOk_both (Err e) f a b = tt

pub OnOk_map : {T E A B : Type 0} (r : Result T E) → (A → B) → OnOk r A → OnOk r B
OnOk_map (Ok x) f a = f a
OnOk_map (Err e) f a = tt
