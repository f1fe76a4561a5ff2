-- What calls among some do, with one call more.
use Rattle.std.proofs.Common.{◌≡◌, ℕ, Bool, true, false, nat_eq, List, [], ◌∷◌, ◌++◌, Option, Some, None, refl, sym, ap, subst, ◌∙◌, ⊎_elim, eq-eqb, arith}
use Rattle.std.specs.List.{Contains}
use Rattle.std.specs.Option.{option_map_or}
use Rattle.std.proofs.lemmas.Bool.{false≢true}
use Rattle.std.proofs.lemmas.List.Elements.{Contains-append_left, Contains-push, Contains-push_cases}
use Rattle.rma_call.specs.Call.{Call}
use Rattle.rma_judge.specs.Names.{is_same}
use Rattle.rma_kept.specs.Naming.{SomeCall, NoCall}

module _ (Does : Call → Type 0) (calls : List Call) (call : Call) where
  pub some_front : SomeCall Does calls → SomeCall Does (calls ++ call ∷ [])
  some_front some = (some.0, Contains-append_left calls (call ∷ []) some.0 some.1, some.2)

  pub some_last : Does call → SomeCall Does (calls ++ call ∷ [])
  some_last does = (call, Contains-push calls call, does)

  pub none_more : NoCall Does calls → ¬ Does call → NoCall Does (calls ++ call ∷ [])
  none_more none last other among does = ⊎_elim
      (λ (before : Contains calls other). none other before does)
      (λ (here : call ≡ other). last (subst Does (sym here) does))
      (Contains-push_cases calls call other among)

-- no call does so among none
pub none_of_none : (Does : Call → Type 0) → NoCall Does []
none_of_none Does call among does = absurd (nothing among)
  where
    nothing : Contains [] call → ⊥
    nothing (k, below, is) = absurd (omega arith)

-- ---- what is not so of something

pub option_false : {A : Type 0} → (f : A → Bool) (o : Option A) (x : A) → option_map_or f o false ≡ false → o ≡ Some x → f x ≡ false
option_false f None x none is = cc
option_false f (Some y) x none is = let same : y ≡ x = cc in ap f (sym same) ∙ none

-- ---- names

pub same_itself : (name : List ℕ) → is_same name name ≡ true
same_itself [] = refl
same_itself (byte ∷ name) = let first : nat_eq byte byte ≡ true = eq-eqb byte byte refl in rw (first, same_itself name)

pub other_name : (own name : List ℕ) → is_same own name ≡ false → own ≡ name → ⊥
other_name own name other same = false≢true (sym other ∙ ap (is_same own) (sym same) ∙ same_itself own)
