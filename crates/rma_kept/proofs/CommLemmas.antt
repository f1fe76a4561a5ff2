-- The communicators that some calls declare, with one call more.
use Rattle.std.proofs.Common.{◌≡◌, ℕ, Bool, true, false, List, [], ◌∷◌, ◌++◌, Option, Some, None, is_some, refl, sym, ap, ◌∙◌}
use Rattle.std.specs.Option.{option_or}
use Rattle.std.proofs.lemmas.Option.{some_pair_parts}
use Rattle.rma_buffer.proofs.BasicLemmas.{same_words}
use Rattle.rma_call.specs.Call.{Call}
use Rattle.rma_judge.specs.Names.{is_same, of_name}
use Rattle.rma_kept.specs.Naming.{Declares, DeclaresWith, SomeCall, NoCall, names_of}
use Rattle.rma_kept.proofs.AmongLemmas.{none_more, other_name, some_front, some_last}

-- what the calls did of a communicator that has these members, or is not declared
abbrev pub CommIs : Option (List ℕ) → List ℕ → List Call → Type 0
CommIs None comm calls = NoCall (Declares comm) calls
CommIs (Some members) comm calls = SomeCall (DeclaresWith comm members) calls

pub declared_is : (members : Option (List ℕ)) (comm : List ℕ) (calls : List Call) → is_some members ≡ true → CommIs members comm calls → SomeCall (Declares comm) calls
declared_is None comm calls is h = cc
declared_is (Some members) comm calls is h = (h.0, h.1, (members, h.2))

pub undeclared_is : (members : Option (List ℕ)) (comm : List ℕ) (calls : List Call) → is_some members ≡ false → CommIs members comm calls → NoCall (Declares comm) calls
undeclared_is None comm calls is h = h
undeclared_is (Some members) comm calls is h = cc

module _ (comm : List ℕ) (calls : List Call) (call : Call) where
  kept : (state : Option (List ℕ)) → ¬ Declares comm call → CommIs state comm calls → CommIs state comm (calls ++ call ∷ [])
  kept None declares h = none_more (Declares comm) calls call h declares
  kept (Some members) declares h = some_front (DeclaresWith comm members) calls call h

  by_name : (own members : List ℕ) (same : Bool) (state : Option (List ℕ)) → is_same own comm ≡ same → (names_of call.what).declared ≡ Some (own, members) → CommIs state comm calls
      → CommIs (option_or (of_name comm (Some (own, members))) state) comm (calls ++ call ∷ [])
  by_name own members true state is says h = rw is (some_last (DeclaresWith comm members) calls call (says ∙ ap (λ name. Some (name, members)) (same_words own comm is)))
  by_name own members false state is says h =
      rw is (kept state (λ declares. other_name own comm is (some_pair_parts own comm members declares.0 (sym says ∙ declares.1)).0) h)

  pub CommIs_more : (own : Option (List ℕ × List ℕ)) (state : Option (List ℕ)) → (names_of call.what).declared ≡ own → CommIs state comm calls
      → CommIs (option_or (of_name comm own) state) comm (calls ++ call ∷ [])
  CommIs_more None state says h = kept state (λ declares. let wrong : None ≡ Some (comm, declares.0) = sym says ∙ declares.1 in cc wrong) h
  CommIs_more (Some (own, members)) state says h = by_name own members (is_same own comm) state refl says h
