-- Whether an access needs a call that makes it visible, or publishes it: it does or it does not.
use Rattle.std.proofs.Common.{◌≡◌, ◌⊎◌, inl, inr, List, Bool, true, false, Option, Some, None, option_map, refl, sym, ap, ◌∙◌, ⊎_elim}
use Rattle.rma_base.specs.declared.window.WinModel.{WinModel}
use Rattle.rma_base.specs.declared.window.WinModel.TheVariants.{Separate, Unified}
use Rattle.rma_window.specs.Windows.{Window, window_of}
use Rattle.rma_window.specs.declared.window_id.WindowId.{WindowId}
use Rattle.rma_rules.specs.Access.{Access}
use Rattle.rma_rules.specs.Before.{NeedsPublished, NeedsVisible}
use Rattle.rma_rules.specs.Kind.{is_own, is_store, is_target, is_update}
use Rattle.rma_rules.specs.Share.{IsThroughSeparate}
use Rattle.rma_rules.proofs.ConflictLemmas.{own_not_target}
use Rattle.rma_rules.proofs.PartLemmas.{is_separate, is_unified, same_some, through_none}

bool_cases : (t : Bool) → (t ≡ true) ⊎ (t ≡ true → ⊥)
bool_cases true = inl refl
bool_cases false = inr (λ is. absurd (cc))

abbrev HasSeparate : List Window → Access → Type 0
HasSeparate windows a = (window : WindowId) × IsThroughSeparate windows a window

abbrev HasNone : List Window → Access → Type 0
HasNone windows a = (window : WindowId) → IsThroughSeparate windows a window → ⊥

module _ (windows : List Window) (a : Access) where
  not_listed : (window : WindowId) → a.window ≡ Some window → option_map (λ w. w.model) (window_of windows window) ≡ None → HasNone windows a
  unfolding IsThroughSeparate
  not_listed window through none id is =
      let same : window ≡ id = same_some window id (sym through ∙ is.0) in
      let model : option_map (λ w. w.model) (window_of windows window) ≡ Some is.1.0.model = ap (λ (w : WindowId). option_map (λ v. v.model) (window_of windows w)) same ∙ ap (option_map (λ w. w.model)) is.1.1 in
      cc

  model_cases : (window : WindowId) → a.window ≡ Some window → (model : Option WinModel) → option_map (λ w. w.model) (window_of windows window) ≡ model → HasSeparate windows a ⊎ HasNone windows a
  model_cases window through None is = inr (not_listed window through is)
  model_cases window through (Some Separate) is = inl (window, (is_separate windows a window through is window).0 refl)
  model_cases window through (Some Unified) is = inr (is_unified windows a window through is)

  through_cases : (window : Option WindowId) → a.window ≡ window → HasSeparate windows a ⊎ HasNone windows a
  through_cases None is = inr (λ id. through_none windows a id is)
  through_cases (Some window) is = model_cases window is (option_map (λ w. w.model) (window_of windows window)) refl

module _ (windows : List Window) (a b : Access) where
  pub visible_cases : ((window : WindowId) × NeedsVisible windows a b window) ⊎ ((window : WindowId) → NeedsVisible windows a b window → ⊥)
  unfolding NeedsVisible
  visible_cases =
      ⊎_elim
      (λ (update : is_update a.kind ≡ true). ⊎_elim
      (λ (own : is_own b.kind ≡ true). ⊎_elim (λ (some : HasSeparate windows a). inl (some.0, (update, own, some.1))) (λ (none : HasNone windows a). inr (λ window needs. none window needs.2))
      (through_cases windows a a.window refl))
      (λ (not : is_own b.kind ≡ true → ⊥). inr (λ window needs. not needs.1))
      (bool_cases (is_own b.kind)))
      (λ (not : is_update a.kind ≡ true → ⊥). inr (λ window needs. not needs.0))
      (bool_cases (is_update a.kind))

  pub published_cases : ((window : WindowId) × NeedsPublished windows a b window) ⊎ ((window : WindowId) → NeedsPublished windows a b window → ⊥)
  unfolding NeedsPublished
  published_cases =
      ⊎_elim
      (λ (store : is_store a.kind ≡ true). ⊎_elim
      (λ (target : is_target b.kind ≡ true). ⊎_elim (λ (some : HasSeparate windows b). inl (some.0, (store, target, some.1))) (λ (none : HasNone windows b). inr (λ window needs. none window needs.2))
      (through_cases windows b b.window refl))
      (λ (not : is_target b.kind ≡ true → ⊥). inr (λ window needs. not needs.1))
      (bool_cases (is_target b.kind)))
      (λ (not : is_store a.kind ≡ true → ⊥). inr (λ window needs. not needs.0))
      (bool_cases (is_store a.kind))

  -- no two accesses need both
  pub apart : (v w : WindowId) → NeedsVisible windows a b v → NeedsPublished windows a b w → ⊥
  unfolding NeedsVisible NeedsPublished
  apart v w one two = own_not_target b.kind one.1 two.1

  pub published_store : (window : WindowId) → NeedsPublished windows a b window → is_store a.kind ≡ true
  unfolding NeedsPublished
  published_store window needs = needs.0
