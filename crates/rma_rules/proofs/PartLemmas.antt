-- What the windows of accesses are.
use Rattle.std.proofs.Common.{◌≡◌, ◌↔◌, List, Option, Some, None, option_map, true, is_some, refl, sym, ap, subst, ◌∙◌}
use Rattle.rma_base.specs.declared.window.WinModel.TheVariants.{Separate, Unified}
use Rattle.rma_base.specs.declared.window.AccOps.{AccOps}
use Rattle.rma_base.specs.declared.window.AccOps.TheVariants.{SameOpNoOp}
use Rattle.rma_window.specs.declared.window_id.WindowId.{WindowId}
use Rattle.rma_window.specs.Windows.{Window, part_of, window_of}
use Rattle.rma_window.specs.declared.part.Part.{Part}
use Rattle.rma_rules.specs.Access.{Access}
use Rattle.rma_rules.specs.Element.{AllowsNoOp}
use Rattle.rma_rules.specs.Share.{IsSeparateAt, IsThroughSeparate, MeetsPart, MeetsRun, run_of_part}

pub same_some : {X : Type 0} (x y : X) → Some x ≡ Some y → x ≡ y
same_some x y e = cc

-- a value that is mapped comes of one
mapped : {X Y : Type 0} (f : X → Y) (o : Option X) (y : Y) → option_map f o ≡ Some y → (x : X) × (o ≡ Some x) × (f x ≡ y)
mapped f None y is = absurd (cc)
mapped f (Some x) y is = (x, refl, same_some (f x) y is)

module _ (windows : List Window) (a : Access) (window : WindowId) (through : a.window ≡ Some window) where
  -- the window of an access is that of the separate model, where its model is that
  pub is_separate : option_map (λ w. w.model) (window_of windows window) ≡ Some Separate → (id : WindowId) → (Some window ≡ Some id) ↔ IsThroughSeparate windows a id
  unfolding IsThroughSeparate
  is_separate model id =
      let found = mapped (λ (w : Window). w.model) (window_of windows window) Separate model in
      (λ same. (through ∙ same, (found.0, ap (window_of windows) (sym (same_some window id same)) ∙ found.1, found.2)), λ is. sym through ∙ is.0)

  -- and of none, where it is another
  pub is_unified : option_map (λ w. w.model) (window_of windows window) ≡ Some Unified → (id : WindowId) → IsThroughSeparate windows a id → ⊥
  unfolding IsThroughSeparate
  is_unified model id is =
      let found = mapped (λ (w : Window). w.model) (window_of windows window) Unified model in
      let same : window ≡ id = same_some window id (sym through ∙ is.0) in
      let there : Some found.0 ≡ Some is.1.0 = sym found.1 ∙ ap (window_of windows) same ∙ is.1.1 in
      let models : Unified ≡ Separate = sym found.2 ∙ ap (λ (w : Window). w.model) (same_some found.0 is.1.0 there) ∙ is.1.2 in
      cc

  -- the window lets accumulates with no operation meet others where its key says so
  pub allowed : (ops : AccOps) → option_map (λ w. w.ops) (window_of windows window) ≡ Some ops → (ops ≡ SameOpNoOp) ↔ AllowsNoOp windows a
  unfolding AllowsNoOp
  allowed ops is = let found = mapped (λ (w : Window). w.ops) (window_of windows window) ops is in (
    λ same. (window, found.0, through, found.1, found.2 ∙ same),
    λ all.
        let same : window ≡ all.0 = same_some window all.0 (sym through ∙ all.2) in
        let there : Some found.0 ≡ Some all.1 = sym found.1 ∙ ap (window_of windows) same ∙ all.3 in
        sym found.2 ∙ ap (λ (w : Window). w.ops) (same_some found.0 all.1 there) ∙ all.4,
  )

-- an access without a window is made through none
pub through_none : (windows : List Window) (a : Access) (id : WindowId) → a.window ≡ None → IsThroughSeparate windows a id → ⊥
unfolding IsThroughSeparate
through_none windows a id none is = let window = is.0 in cc

pub none_allowed : (windows : List Window) (a : Access) → a.window ≡ None → AllowsNoOp windows a → ⊥
unfolding AllowsNoOp
none_allowed windows a none is = let window = is.2 in cc

-- an access is made through some such window where one is found
pub some_separate : (windows : List Window) (a : Access) (found : Option WindowId) → ((id : WindowId) → (found ≡ Some id) ↔ IsThroughSeparate windows a id) → (is_some found ≡ true) ↔ IsSeparateAt windows a
unfolding IsSeparateAt
some_separate windows a None told = (λ test. absurd (cc), λ is. let found = (told is.0).1 is.1 in absurd (cc))
some_separate windows a (Some id) told = (λ test. (id, (told id).0 refl), λ is. refl)

-- an access meets the part of the window where there is one
pub part_met : (windows : List Window) (a : Access) (through : Option WindowId) (window : WindowId) (part : Part) → through ≡ Some window → part_of windows window a.memory ≡ Some part
    → MeetsRun a.runs (run_of_part part) ↔ MeetsPart windows a through
unfolding MeetsPart
part_met windows a through window part is there = (
  λ meets. (window, part, is, there, meets),
  λ all.
      let same : window ≡ all.0 = same_some window all.0 (sym is ∙ all.2) in
      let found : Some part ≡ Some all.1 = sym there ∙ ap (λ w. part_of windows w a.memory) same ∙ all.3 in
      subst (λ p. MeetsRun a.runs (run_of_part p)) (sym (same_some part all.1 found)) all.4,
)

-- and else it meets none
pub none_met : (windows : List Window) (a : Access) (through : Option WindowId) (window : WindowId) → through ≡ Some window → part_of windows window a.memory ≡ None → MeetsPart windows a through → ⊥
unfolding MeetsPart
none_met windows a through window is none all =
    let same : window ≡ all.0 = same_some window all.0 (sym is ∙ all.2) in
    let found : None ≡ Some all.1 = sym none ∙ ap (λ w. part_of windows w a.memory) same ∙ all.3 in
    cc
