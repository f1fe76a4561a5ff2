-- Names of which the first were opened.
use Rattle.std.proofs.Common.{◌≡◌, ℕ, ◌+◌, ◌<◌, List, ◌∷◌, ◌++◌, ◌⊎◌, Option, Some, None, Result, Ok, Err, OnErr, length, take, drop, get_or, ap, sym, ◌∙◌, inl, inr, suc, drop-cons, add-one}
use Rattle.std.proofs.lemmas.List.{take-append-drop}
use Rattle.rma_io.specs.Source.{Opened, refused_after}
use Rattle.rma_io.specs.declared.source.OpenFault.{OpenFault}
use Rattle.rma_io.specs.declared.source.OpenFault.TheVariants as refusal
use Rattle.rma_audit.specs.Answers.{OpensSome}

-- a fact under an error that does not name it
pub on_err : {T E : Type 0} (r : Result T E) (P : Type 0) → P → OnErr r P
on_err (Ok x) P p = tt
on_err (Err e) P p = p

-- what an open that failed says of the name last refused
refused_next : (opened : Option (List ℕ)) (name : List ℕ) (now_refused : Option (List ℕ)) (fault : OpenFault) → opened ≡ None → now_refused ≡ refused_after opened name (Err fault) → (now_refused ≡ None) ⊎ (now_refused ≡ Some name)
refused_next opened name now_refused refusal.Failed none is = inr is
refused_next opened name now_refused refusal.Memory none is = inl (is ∙ none)

-- the open of the next name failed
pub opens_some : (names : List (List ℕ)) (i : ℕ) (name : List ℕ) (before after : Opened) (fault : OpenFault) → i < length names → name ≡ get_or names i name → before.names ≡ take i names → before.refused ≡ None → after.names ≡ before.names → after.refused ≡ refused_after before.refused name (Err fault) → OpensSome names after
opens_some names i name before after fault below is opened none same refused = record {
  rest = drop i names;
  first = sym (take-append-drop i names) ∙ ap (λ ns. ns ++ drop i names) (sym (same ∙ opened));
  refused = elim (refused_next before.refused name after.refused fault none refused) [
    | inl h ↦ inl h
    | inr h ↦ inr (name, drop (i + 1) names, rw add-one (drop-cons names i name below ∙ ap (λ n. n ∷ drop (suc i) names) (sym is)), h)
  ];
}
