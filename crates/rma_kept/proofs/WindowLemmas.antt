-- What became of a window by some calls, with one call more.
use Rattle.std.proofs.Common.{◌≡◌, ℕ, Bool, true, false, List, [], ◌∷◌, ◌++◌, Option, Some, None, refl, sym, ap, ◌∙◌}
use Rattle.std.specs.Option.{option_or}
use Rattle.std.proofs.lemmas.Option.{some_pair_parts}
use Rattle.rma_buffer.proofs.BasicLemmas.{same_words}
use Rattle.rma_call.specs.Call.{Call}
use Rattle.rma_judge.specs.Names.{is_there, is_fixed, is_same, of_name}
use Rattle.rma_judge.specs.Naming.{created_state}
use Rattle.rma_judge.specs.declared.names.WindowState.{WindowState}
use Rattle.rma_judge.specs.declared.names.WindowState.TheVariants.{Dynamic, Fixed, Freed}
use Rattle.rma_kept.specs.Naming.{CreatesAs, Creates, Frees, SomeCall, NoCall, names_of}
use Rattle.rma_kept.proofs.AmongLemmas.{none_more, other_name, some_front, some_last}
use Rattle.rma_kept.proofs.NamingLemmas.{made_of, not_freed}

-- what the calls did to a window in this state
abbrev pub WindowIs : Option WindowState → List ℕ → List Call → Type 0
WindowIs None window calls = NoCall (Creates window) calls × NoCall (Frees window) calls
WindowIs (Some Fixed) window calls = SomeCall (Creates window) calls × NoCall (Frees window) calls
WindowIs (Some Dynamic) window calls = SomeCall (CreatesAs true window) calls × NoCall (Frees window) calls
WindowIs (Some Freed) window calls = Unit {0}

-- a window that is there was created, and not freed
pub there_is : (state : Option WindowState) (window : List ℕ) (calls : List Call) → is_there state ≡ true → WindowIs state window calls
    → SomeCall (Creates window) calls × NoCall (Frees window) calls
there_is None window calls is h = cc
there_is (Some Fixed) window calls is h = h
there_is (Some Dynamic) window calls is h = let some = h.0 in ((some.0, some.1, (true, some.2)), h.1)
there_is (Some Freed) window calls is h = cc

-- one that is there and not fixed was created as dynamic
pub dynamic_is : (state : Option WindowState) (window : List ℕ) (calls : List Call) → is_there state ≡ true → is_fixed state ≡ false → WindowIs state window calls
    → SomeCall (CreatesAs true window) calls
dynamic_is None window calls is fixed h = cc
dynamic_is (Some Fixed) window calls is fixed h = cc
dynamic_is (Some Dynamic) window calls is fixed h = h.0
dynamic_is (Some Freed) window calls is fixed h = cc

module _ (window : List ℕ) (calls : List Call) (call : Call) where
  -- a call that does nothing to the window
  kept : (state : Option WindowState) → ¬ Creates window call → ¬ Frees window call → WindowIs state window calls → WindowIs state window (calls ++ call ∷ [])
  kept None creates frees h = (none_more (Creates window) calls call h.0 creates, none_more (Frees window) calls call h.1 frees)
  kept (Some Fixed) creates frees h = (some_front (Creates window) calls call h.0, none_more (Frees window) calls call h.1 frees)
  kept (Some Dynamic) creates frees h = (some_front (CreatesAs true window) calls call h.0, none_more (Frees window) calls call h.1 frees)
  kept (Some Freed) creates frees h = tt

  -- a call that creates it
  created : (dynamic : Bool) → CreatesAs dynamic window call → WindowIs None window calls → WindowIs (Some (created_state dynamic)) window (calls ++ call ∷ [])
  created true does h = (some_last (CreatesAs true window) calls call does, none_more (Frees window) calls call h.1 (λ frees. not_freed window window true (sym frees ∙ does)))
  created false does h = (some_last (Creates window) calls call (false, does), none_more (Frees window) calls call h.1 (λ frees. not_freed window window false (sym frees ∙ does)))

  -- what the call makes of a window, which is this one or not
  by_name : (own : List ℕ) (made : WindowState) (same : Bool) (state : Option WindowState) → is_same own window ≡ same → (names_of call.what).window ≡ Some (own, made)
      → ((dynamic : Bool) → made ≡ created_state dynamic → own ≡ window → state ≡ None) → WindowIs state window calls
      → WindowIs (option_or (of_name window (Some (own, made))) state) window (calls ++ call ∷ [])
  by_name own made true state is says new h = rw is (is_new made says new)
    where
      this : own ≡ window
      this = same_words own window is

      is_new : (made : WindowState) → (names_of call.what).window ≡ Some (own, made) → ((dynamic : Bool) → made ≡ created_state dynamic → own ≡ window → state ≡ None)
          → WindowIs (Some made) window (calls ++ call ∷ [])
      is_new Fixed says new = created false (says ∙ ap (λ name. Some (name, Fixed)) this) (rw (new false refl this) at h)
      is_new Dynamic says new = created true (says ∙ ap (λ name. Some (name, Dynamic)) this) (rw (new true refl this) at h)
      is_new Freed says new = tt
  by_name own made false state is says new h =
      rw is (kept state
      (λ creates. other_name own window is (some_pair_parts own window made (created_state creates.0) (sym says ∙ creates.1)).0)
      (λ frees. other_name own window is (some_pair_parts own window made Freed (sym says ∙ frees)).0) h)

  pub WindowIs_more : (own : Option (List ℕ × WindowState)) (state : Option WindowState) → (names_of call.what).window ≡ own
      → ((dynamic : Bool) → own ≡ Some (window, created_state dynamic) → state ≡ None) → WindowIs state window calls
      → WindowIs (option_or (of_name window own) state) window (calls ++ call ∷ [])
  WindowIs_more None state says new h =
      kept state (λ creates. let wrong : None ≡ Some (window, created_state creates.0) = sym says ∙ creates.1 in cc wrong)
      (λ frees. let wrong : None ≡ Some (window, Freed) = sym says ∙ frees in cc wrong) h
  WindowIs_more (Some (own, made)) state says new h =
      by_name own made (is_same own window) state refl says (λ dynamic is this. new dynamic (both own window made (created_state dynamic) this is)) h
    where
      both : (a b : List ℕ) (s t : WindowState) → a ≡ b → s ≡ t → made_of a s ≡ made_of b t
      both a b s t name state = rw (name, state) refl
