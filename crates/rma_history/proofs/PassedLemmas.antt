-- An access of which all this is asked is before all those that are still to come.
use Rattle.std.proofs.Common.{◌≡◌, ◌⊎◌, ℕ, ◌≤◌, ◌<◌, List, Option, Some, None, Bool, true, false, not, inl, inr, refl, sym, ap, subst, ◌∙◌, arith}
use Rattle.rma_base.specs.declared.rank.Rank.{Rank}
use Rattle.rma_base.specs.declared.point.Point.{Point}
use Rattle.rma_base.specs.declared.window.WinModel.{WinModel}
use Rattle.rma_base.specs.declared.window.WinModel.TheVariants.{Separate, Unified}
use Rattle.rma_link.specs.declared.links.Links.{Links}
use Rattle.rma_link.specs.Point.{entry, return_of}
use Rattle.rma_link.proofs.OrderLemmas.{at_or_before_trans}
use Rattle.rma_clock.specs.Reached.{IsReached}
use Rattle.rma_window.specs.declared.window_id.WindowId.{WindowId}
use Rattle.rma_window.specs.Windows.{Window, window_of}
use Rattle.rma_rules.specs.Access.{Access, IsOnWindowOf}
use Rattle.rma_rules.specs.Before.{Before, IsBeforeStart, IsMadeVisible, IsPublished, NeedsPublished, NeedsVisible}
use Rattle.rma_rules.specs.Conflict.{Forbids}
use Rattle.rma_rules.specs.Kind.{is_own, is_store, is_target, is_update}
use Rattle.rma_rules.specs.Share.{IsSeparate, IsThroughSeparate}
use Rattle.rma_rules.specs.Spans.{Spans}
use Rattle.rma_rules.proofs.BeforeLemmas.{entries_rise}
use Rattle.rma_rules.proofs.CaseLemmas.{by_published, by_start, by_visible, needs_neither}
use Rattle.rma_rules.proofs.ConflictLemmas.{own_not_target}
use Rattle.rma_rules.specs.declared.rule.Rule.{Rule}
use Rattle.rma_finding.specs.declared.finding.FoundRace.{FoundRace}
use Rattle.rma_pairs.specs.Races.{IsFoundBetween}
use Rattle.rma_chain.specs.Chain.{IsFollowedBy}
use Rattle.rma_chain.proofs.FollowLemmas.{earlier_before, same_memory}
use Rattle.rma_history.specs.History.{IsNextOf, IsOfCall, IsPassed, IsToCome}
use Rattle.rma_history.specs.inside.Passed.{IsBeforeAll, IsPublishedForAll, IsVisibleToNext}

-- ---- whether an access is made through a window of the separate model

separate_or_not : (windows : List Window) (id : WindowId) → IsSeparate windows id ⊎ (IsSeparate windows id → ⊥)
separate_or_not windows id = by (window_of windows id) refl
  where
    at_model : (w : Window) (model : WinModel) → w.model ≡ model → window_of windows id ≡ Some w → IsSeparate windows id ⊎ (IsSeparate windows id → ⊥)
    at_model w Separate model is = inl (w, is, model)
    at_model w Unified model is = inr (λ other. let one = other.1 in let two = other.2 in let same : w ≡ other.0 = cc in let models : w.model ≡ Separate = ap (λ (v : Window). v.model) same ∙ two in cc)

    by : (o : Option Window) → window_of windows id ≡ o → IsSeparate windows id ⊎ (IsSeparate windows id → ⊥)
    by None is = inr (λ other. let one = other.1 in cc)
    by (Some w) is = at_model w w.model refl is

pub through_or_not : (windows : List Window) (a : Access) → ((id : WindowId) × IsThroughSeparate windows a id) ⊎ ((id : WindowId) → IsThroughSeparate windows a id → ⊥)
unfolding IsThroughSeparate
through_or_not windows a = by a.window refl
  where
    at_window : (id : WindowId) → a.window ≡ Some id → (IsSeparate windows id ⊎ (IsSeparate windows id → ⊥)) → ((id : WindowId) × IsThroughSeparate windows a id) ⊎ ((id : WindowId) → IsThroughSeparate windows a id → ⊥)
    at_window id is (inl separate) = inl (id, (is, separate))
    at_window id is (inr none) = inr (λ other through. let same : id ≡ other = (let found = through.0 in cc) in none (subst (IsSeparate windows) (sym same) through.1))

    by : (o : Option WindowId) → a.window ≡ o → ((id : WindowId) × IsThroughSeparate windows a id) ⊎ ((id : WindowId) → IsThroughSeparate windows a id → ⊥)
    by None is = inr (λ other through. let found = through.0 in cc)
    by (Some id) is = at_window id is (separate_or_not windows id)

-- ---- points that are known

-- where a rank returns from a call before one that it has entered
pub returned_before : (points : List ℕ) (rank : Rank) (v call : ℕ) → v < call → IsReached points (entry rank call) → IsReached points (return_of rank v)
returned_before points rank v call less entered = omega arith

-- ---- the cases

module _ (links : Links) (windows : List Window) (spans : Spans) (next : List (Option ℕ)) (a : Access) (done : Point) (is : a.done ≡ Some done) (first : IsBeforeAll links next done) where
  -- what is before all next calls is before the start of what is still to come
  before_later : (b : Access) → IsOfCall b → IsToCome next b → (p : Point) → IsBeforeAll links next p → IsBeforeStart links p b
  unfolding IsBeforeStart
  before_later b of later p all = (entry b.name.rank b.call, of.starts, at_or_before_trans links (all b.name.rank later.0 later.1) (entries_rise links b.name.rank later.0 b.call later.2))

  started : (b : Access) → IsOfCall b → IsToCome next b → ((window : WindowId) → NeedsVisible windows a b window → ⊥) → ((window : WindowId) → NeedsPublished windows a b window → ⊥) → Before links windows spans a b
  started b of later one two = (by_start links windows spans a b done is (needs_neither windows a b one two)).0 (before_later b of later done first)

  -- what is visible before a call is visible before a later one
  visible_later : (rank : Rank) (window : WindowId) (call later : ℕ) → call ≤ later → IsMadeVisible links spans rank window done call → IsMadeVisible links spans rank window done later
  unfolding IsMadeVisible
  visible_later rank window call later le seen = let less = seen.2 in (seen.0, seen.1, omega arith, seen.3)

  -- an access of the rank's own that is still to come
  module _ (visible : IsVisibleToNext links windows spans next a done) (b : Access) (of : IsOfCall b) (later : IsToCome next b) (memory : b.memory ≡ a.memory) (own : is_own b.kind ≡ true) where
    not_published : (window : WindowId) → NeedsPublished windows a b window → ⊥
    unfolding NeedsPublished
    not_published window needs = own_not_target b.kind own needs.1

    own_next : IsNextOf next a.memory later.0
    own_next = subst (λ r. IsNextOf next r later.0) (of.own own ∙ memory) later.1

    own_by : (update : Bool) → is_update a.kind ≡ update → ((id : WindowId) × IsThroughSeparate windows a id) ⊎ ((id : WindowId) → IsThroughSeparate windows a id → ⊥) → Before links windows spans a b
    unfolding NeedsVisible
    own_by true update (inl (id, through)) =
        (by_visible links windows spans a b done is id (update, own, through)).0 (visible_later a.memory id later.0 b.call later.2 (visible id later.0 update through own_next))
    own_by true update (inr none) = started b of later (λ window needs. none window needs.2) not_published
    own_by false other through = started b of later (λ window needs. let update = needs.0 in cc) not_published

    before_own : Before links windows spans a b
    before_own = own_by (is_update a.kind) refl (through_or_not windows a)

  -- an access of a target that is still to come
  module _ (published : IsPublishedForAll links windows spans next a done) (b : Access) (of : IsOfCall b) (later : IsToCome next b) (target : is_target b.kind ≡ true) where
    not_visible : (window : WindowId) → NeedsVisible windows a b window → ⊥
    unfolding NeedsVisible
    not_visible window needs = own_not_target b.kind needs.1 target

    target_by : (store : Bool) → is_store a.kind ≡ store → ((id : WindowId) × IsThroughSeparate windows b id) ⊎ ((id : WindowId) → IsThroughSeparate windows b id → ⊥) → Before links windows spans a b
    unfolding NeedsPublished IsThroughSeparate IsPublished
    target_by true store (inl (id, through)) =
        let all = published store id through.1 in
        (by_published links windows spans a b done is id (store, target, through)).0 (all.0, all.1, all.2, before_later b of later (entry a.memory all.0) all.3)
    target_by true store (inr none) = started b of later not_visible (λ window needs. none window needs.2)
    target_by false other through = started b of later not_visible (λ window needs. let store = needs.0 in cc)

    before_target : Before links windows spans a b
    before_target = target_by (is_store a.kind) refl (through_or_not windows b)

  pub passed : IsVisibleToNext links windows spans next a done → IsPublishedForAll links windows spans next a done → IsPassed links windows spans next a
  passed visible published b later of on_window memory = by (is_target b.kind) refl
    where
      by : (target : Bool) → is_target b.kind ≡ target → Before links windows spans a b
      by true target = before_target published b of later target
      by false own = before_own visible b of later memory (ap not own)

-- ---- no race

-- two accesses that conflict touch the same memory
conflict_memory : (windows : List Window) (a b : Access) (rule : Rule) → Forbids windows a b rule → a.memory ≡ b.memory
unfolding Forbids
conflict_memory windows a b rule forbidden = forbidden.0

pub no_race_to_come : (links : Links) (windows : List Window) (spans : Spans) (next : List (Option ℕ)) (a b : Access) (race : FoundRace)
    → IsPassed links windows spans next a → IsToCome next b → IsOfCall b → IsOnWindowOf windows b → IsFoundBetween links windows spans a b race → ⊥
no_race_to_come links windows spans next a b race passed later of on_window (inl found) =
    found.race.not_before (passed b later of on_window (sym (conflict_memory windows a b race.rule found.race.conflict)))
no_race_to_come links windows spans next a b race passed later of on_window (inr found) =
    found.race.not_after (passed b later of on_window (conflict_memory windows b a race.rule found.race.conflict))

-- ---- later calls

pub stays_passed : (links : Links) (windows : List Window) (spans : Spans) (next later : List (Option ℕ)) (a : Access)
    → ((rank : Rank) (call : ℕ) → IsNextOf later rank call → (first : ℕ) × IsNextOf next rank first × (first ≤ call)) → IsPassed links windows spans next a → IsPassed links windows spans later a
stays_passed links windows spans next later a on passed b to_come of on_window memory =
    let earlier = on b.name.rank to_come.0 to_come.1 in
    let le : earlier.0 ≤ to_come.0 = earlier.2 in
    let before : to_come.0 ≤ b.call = to_come.2 in
    passed b (earlier.0, earlier.1, omega arith) of on_window memory

-- ---- what follows an access

-- where an access is before all that are still to come, so are those that it follows
pub follower_passed : (links : Links) (windows : List Window) (spans : Spans) (next : List (Option ℕ)) (a later : Access) → IsFollowedBy a later → IsPassed links windows spans next later → IsPassed links windows spans next a
follower_passed links windows spans next a later follows passed b to_come of on_window memory =
    earlier_before links windows spans a later follows b (passed b to_come of on_window (memory ∙ same_memory links windows spans a later follows))
