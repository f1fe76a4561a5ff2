-- What a search for the attaches that hold the bytes of an access knows.
use Rattle.std.proofs.Common.{◌≡◌, ◌+◌, ◌<◌, ◌≤◌, ◌^◌, ℕ, true, false, Bool, cond, nat_lt, List, Some, slice_get, refl, sym, ap, subst, ◌∙◌, arith, ⊎_elim}
use Rattle.std.proofs.lemmas.Bool.{cases_lt}
use Rattle.std.proofs.lemmas.Bool.Decides.{nat_tests}
use Rattle.std.proofs.lemmas.Option.{get_or_from_slice_get, same_Some, slice_get_within}
use Rattle.rma_base.specs.declared.rank.Rank.{Rank}
use Rattle.rma_window.specs.declared.window_id.WindowId.{WindowId}
use Rattle.rma_rules.specs.Access.{Access}
use Rattle.rma_rules.specs.Share.{LiesIn}
use Rattle.rma_rules.specs.declared.span.Owner.{Owner}
use Rattle.rma_concurrent.proofs.ListLemmas.{contained}
use Rattle.rma_dyn.specs.declared.change.Change.{Change}
use Rattle.rma_dyn.specs.declared.search.Cover.{Cover}
use Rattle.rma_dyn.specs.declared.search.Cover.TheVariants.{Nothing, Kept, Gone}
use Rattle.rma_dyn.specs.Region.{IsDetachOf, region}
use Rattle.rma_dyn.specs.inside.Search.{Holds, IsCover, IsGone, IsGoneFrom, later}
use Rattle.rma_dyn.specs.inside.Sorted.{AreInSpace, IsInSpace, IsUpTo, end_of, end_with, is_below}

-- ---- what cannot hold an access

abbrev IsBounded : ℕ × ℕ → Access → Type 0
IsBounded ends a = (address size : ℕ) → address < 2 ^ 64 → LiesIn a.runs (region address size) → (address ≤ ends.0) × (ends.1 ≤ address + size)

pub bounded : {ends : ℕ × ℕ} {a b : Access} → a ≡ b → IsBounded ends a → IsBounded ends b
bounded {ends} same is = subst (IsBounded ends) same is

module _ (a : Access) (owner : Owner) (bound low high : ℕ) (window : a.window ≡ Some owner.window) (memory : a.memory ≡ owner.rank)
    (bounds : (address size : ℕ) → address < 2 ^ 64 → LiesIn a.runs (region address size) → (address ≤ low) × (high ≤ address + size)) where
  abbrev Found : Change → Type 0
  Found g = (g.rank ≡ owner.rank) × (g.window ≡ owner.window) × (g.call < bound) × (g.address ≤ low) × (high ≤ end_of g)

  -- an attach that holds it is of its rank and window, begins at its first byte or before, and ends behind its last
  pub found : (g : Change) → IsInSpace g → Holds a bound g → Found g
  found g in_space holds =
      let fits = in_space holds.all.size holds.all.attaches in
      let both = bounds g.address holds.all.size (omega arith) holds.all.bytes in
      let end : end_of g ≡ g.address + holds.all.size = ap (end_with g.address) holds.all.attaches in
      (sym holds.all.memory ∙ memory, same_Some _ _ (sym holds.all.window ∙ window), holds.before, both.0, omega arith)

  pub none_from : (list : List Change) → AreInSpace list → (start : ℕ) → ((k : ℕ) (own : Change) → start ≤ k → slice_get list k ≡ Some own → is_below owner low bound own ≡ false)
      → (k : ℕ) (g : Change) → start ≤ k → slice_get list k ≡ Some g → Holds a bound g → ⊥
  none_from list in_space start after k g le at holds =
      let it = found g (subst IsInSpace (get_or_from_slice_get list k g g at) (in_space k g (slice_get_within list k g at))) holds in
      let rank = ap (λ (r : Rank). r.0) it.0 in
      let owned = ap (λ (w : WindowId). w.0) it.1 in
      let test = after k g le at in
      let less = it.2 in
      let begins = it.3 in
      grind (arith, nat_tests)

pub up_to : (owner : Owner) (address call : ℕ) (own : Change) → is_below owner address call own ≡ true → IsUpTo owner own
up_to owner address call own test = record { rank = grind (arith, nat_tests); window = λ same. grind (arith, nat_tests) }

-- ---- what is known

module _ (list : List Change) (a : Access) (bound freed : ℕ) where
  -- what is known goes on where none is passed
  pub passed : (cover : Cover) (to from : ℕ) → ((k : ℕ) (g : Change) → to ≤ k → k < from → slice_get list k ≡ Some g → Holds a bound g → ⊥) → IsCover list a bound freed from cover → IsCover list a bound freed to cover
  passed Nothing to from none known = λ k g le at holds. ⊎_elim (λ (lt : k < from). none k g le lt at holds) (λ (ge : from ≤ k). known k g ge at holds) (cases_lt k from)
  passed Kept to from none known = known
  passed (Gone last detach) to from none known = record {
    there = known.there;
    holds = known.holds;
    detach_of = known.detach_of;
    is_last = λ k g le at holds. ⊎_elim (λ (lt : k < from). absurd (none k g le lt at holds)) (λ (ge : from ≤ k). known.is_last k g ge at holds) (cases_lt k from);
    each = λ k g le at holds. ⊎_elim (λ (lt : k < from). absurd (none k g le lt at holds)) (λ (ge : from ≤ k). known.each k g ge at holds) (cases_lt k from);
  }

  module _ (index : ℕ) (g : Change) (at : slice_get list index ≡ Some g) (holds : Holds a bound g) where
    same_at : (P : Change → Type 0) (k : ℕ) (x : Change) → slice_get list k ≡ Some x → k ≡ index → P g → P x
    same_at P k x there same is = subst P (same_Some g x (sym at ∙ ap (slice_get list) (sym same) ∙ there)) is

    gone_alone : (detach : Change) → IsDetachOf list g detach → detach.call < freed → ((k : ℕ) (x : Change) → index + 1 ≤ k → slice_get list k ≡ Some x → Holds a bound x → (x.call ≤ g.call) × IsGone list freed x)
        → IsGoneFrom list a bound freed index g detach
    gone_alone detach of early others = record {
      there = contained list index g at;
      holds = holds;
      detach_of = of;
      is_last = λ k x le there held.
          ⊎_elim (λ (lt : k < index + 1). let e : k ≡ index = omega arith in same_at (λ y. y.call ≤ g.call) k x there e (omega arith)) (λ (ge : index + 1 ≤ k). (others k x ge there held).0) (cases_lt k (index + 1));
      each = λ k x le there held.
          ⊎_elim (λ (lt : k < index + 1). let e : k ≡ index = omega arith in same_at (IsGone list freed) k x there e (record { detach = detach; of = of; early = early })) (λ (ge : index + 1 ≤ k). (others k x ge there held).1)
          (cases_lt k (index + 1));
    }

    pub with_gone : (cover : Cover) (detach : Change) → IsDetachOf list g detach → detach.call < freed → IsCover list a bound freed (index + 1) cover → IsCover list a bound freed index (later cover g detach)
    with_gone Nothing detach of early known = gone_alone detach of early (λ k x le there held. absurd (known k x le there held))
    with_gone Kept detach of early known = known
    with_gone (Gone last given) detach of early known = by (nat_lt last.call g.call) refl
      where
        by : (b : Bool) → nat_lt last.call g.call ≡ b → IsCover list a bound freed index (cond b (Gone g detach) (Gone last given))
        by true test =
            gone_alone detach of early
            (λ k x le there held. let least = known.is_last k x le there held in (let more : last.call < g.call = grind (arith, nat_tests) in omega arith, known.each k x le there held))
        by false test = record {
          there = known.there;
          holds = known.holds;
          detach_of = known.detach_of;
          is_last = λ k x le there held.
              ⊎_elim (λ (lt : k < index + 1). let e : k ≡ index = omega arith in let more : g.call ≤ last.call = grind (arith, nat_tests) in same_at (λ y. y.call ≤ last.call) k x there e more)
              (λ (ge : index + 1 ≤ k). known.is_last k x ge there held) (cases_lt k (index + 1));
          each = λ k x le there held.
              ⊎_elim (λ (lt : k < index + 1). let e : k ≡ index = omega arith in same_at (IsGone list freed) k x there e (record { detach = detach; of = of; early = early }))
              (λ (ge : index + 1 ≤ k). known.each k x ge there held) (cases_lt k (index + 1));
        }

    pub with_kept : (IsGone list freed g → ⊥) → IsCover list a bound freed index Kept
    with_kept not = (g, contained list index g at, holds, not)

  -- what is known goes on over one that does not hold the access
  pub not_held : (index : ℕ) (g : Change) → slice_get list index ≡ Some g → (Holds a bound g → ⊥) → (cover : Cover) → IsCover list a bound freed (index + 1) cover → IsCover list a bound freed index cover
  not_held index g at not cover known =
      passed cover index (index + 1) (λ k x le lt there held. let e : k ≡ index = omega arith in not (subst (Holds a bound) (same_Some x g (sym there ∙ ap (slice_get list) e ∙ at)) held)) known
