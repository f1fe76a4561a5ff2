-- What the slots of the known lines say, as they change.
use Rattle.std.proofs.Common.{◌≡◌, ℕ, zero, suc, ◌+◌, Bool, subst, List, [], ◌∷◌, Option, Some, None, IfSome, All, map, option_map, slice_get, slice_set, is_none, true, false, eqb, cond, refl, sym, ap, ◌∙◌, ◌⊎◌, inl, inr, ⊎_elim, arith}
use Rattle.std.proofs.lemmas.Bool.{cases_Bool, eqb-true}
use Rattle.std.proofs.lemmas.List.{map-set}
use Rattle.std.proofs.lemmas.List.Elements.{All-get_or, All-set}
use Rattle.std.proofs.lemmas.Option.{slice_get-map, slice_get_cases}
use Rattle.rma_known.specs.Known.{Known, IsAmong}
use Rattle.rma_known.specs.inside.Dated.{Dated, IsDated, IsPast, kept_at, known_in}

pub some_is : {A : Type 0} → (x y : A) → Some x ≡ Some y → x ≡ y
some_is x y is = cc

-- what stands in a list in which one element was replaced
pub set_cases : {X : Type 0} (xs : List X) (i j : ℕ) (y x : X) → slice_get (slice_set xs i y) j ≡ Some x → (slice_get xs j ≡ Some x) ⊎ (y ≡ x)
set_cases [] i j y x is = inl is
set_cases (z ∷ xs) zero zero y x is = inr (some_is y x is)
set_cases (z ∷ xs) zero (suc j) y x is = inl is
set_cases (z ∷ xs) (suc i) zero y x is = inl is
set_cases (z ∷ xs) (suc i) (suc j) y x is = set_cases xs i j y x is

-- slots of which one was written
pub among_put : (now : ℕ) (slots : List (Option Dated)) (at : ℕ) (line : Dated) (known : Known) → IsAmong (map (kept_at now) (slice_set slots at (Some line))) known
    → IsAmong (map (kept_at now) slots) known ⊎ (kept_at now (Some line) ≡ Some known)
among_put now slots at line known there =
    ⊎_elim
    (λ (old : slice_get (map (kept_at now) slots) there.0 ≡ Some (Some known)). inl (there.0, old))
    (λ (new : kept_at now (Some line) ≡ Some known). inr new)
    (set_cases (map (kept_at now) slots) at there.0 (kept_at now (Some line)) (Some known) (sym (ap (λ them. slice_get them there.0) (map-set (kept_at now) slots at (Some line))) ∙ there.1))

-- a line whose era is this one says what it is
pub kept_now : (now : ℕ) (era : Option ℕ) (line known : Known) → IfSome era (λ own. own ≡ now) → known_in now era line ≡ Some known → known ≡ line
kept_now now None line known own is = sym (some_is line known is)
kept_now now (Some era) line known own is =
    ⊎_elim
    (λ (yes : eqb era now ≡ true). sym (some_is line known (rw yes at is)))
    (λ (no : eqb era now ≡ false). absurd (let wrong = rw no at is in cc wrong))
    (cases_Bool (eqb era now))

-- words that are noted in an era, with the era of what they do
abbrev noted : ℕ → Known → Dated
noted now own = record { known = own; era = cond own.lasts None (Some now) }

noted_era : (now : ℕ) (lasts : Bool) → IfSome (cond lasts None (Some now)) (λ own. own ≡ now)
noted_era now true = tt
noted_era now false = refl

noted_past : (now : ℕ) (lasts : Bool) → IsPast now (cond lasts None (Some now)) × (lasts ≡ is_none (cond lasts None (Some now)))
noted_past now true = (tt, refl)
noted_past now false = (omega arith, refl)

pub lasts_is : (now : ℕ) (lasts : Bool) → is_none (cond lasts None (Some now)) ≡ lasts
lasts_is now true = refl
lasts_is now false = refl

-- they have no era that is to come
pub are_dated : (now : ℕ) (slots : List (Option Dated)) (at : ℕ) (own : Known) → All (IsDated now) slots → All (IsDated now) (slice_set slots at (Some (noted now own)))
are_dated now slots at own dated = All-set (IsDated now) slots at (Some (noted now own)) (noted_past now own.lasts) dated

-- and they are what is known more
pub among_noted : (now : ℕ) (slots : List (Option Dated)) (at : ℕ) (own known : Known) → IsAmong (map (kept_at now) (slice_set slots at (Some (noted now own)))) known
    → IsAmong (map (kept_at now) slots) known ⊎ (known ≡ own)
among_noted now slots at own known there =
    ⊎_elim
    (λ (old : IsAmong (map (kept_at now) slots) known). inl old)
    (λ (new : kept_at now (Some (noted now own)) ≡ Some known). inr (kept_now now (noted now own).era own known (noted_era now own.lasts) new))
    (among_put now slots at (noted now own) known there)

-- ---- where the next era begins

-- a slot says what it said, where it still says something, and what lasts
next_slot : (now : ℕ) (slot : Option Dated) (known : Known) → IsDated now slot → kept_at (now + 1) slot ≡ Some known → (kept_at now slot ≡ Some known) × (known.lasts ≡ true)
next_slot now None known dated is = cc
next_slot now (Some line) known dated is = by line.era dated.0 dated.1 is
  where
    by : (era : Option ℕ) → IsPast now era → line.known.lasts ≡ is_none era → known_in (now + 1) era line.known ≡ Some known → (known_in now era line.known ≡ Some known) × (known.lasts ≡ true)
    by None past lasts is = (is, sym (ap (λ (k : Known). k.lasts) (some_is line.known known is)) ∙ lasts)
    by (Some own) past lasts is =
        ⊎_elim
        (λ (yes : eqb own (now + 1) ≡ true). absurd (omega (arith, past, eqb-true own (now + 1) yes)))
        (λ (no : eqb own (now + 1) ≡ false). absurd (let wrong = rw no at is in cc wrong))
        (cases_Bool (eqb own (now + 1)))

pub next_era : (now : ℕ) (slots : List (Option Dated)) (known : Known) → All (IsDated now) slots → IsAmong (map (kept_at (now + 1)) slots) known → IsAmong (map (kept_at now) slots) known × (known.lasts ≡ true)
next_era now slots known dated there =
    ⊎_elim
    (λ found.
    let slot = found.0 in
    let says : kept_at (now + 1) slot ≡ Some known = some_is (kept_at (now + 1) slot) (Some known)
    (sym (slice_get-map (kept_at (now + 1)) slots there.0 ∙ ap (option_map (kept_at (now + 1))) found.2) ∙ there.1) in
    let said = next_slot now slot known (subst (IsDated now) found.3 (All-get_or (IsDated now) slots there.0 slot found.1 dated)) says in
    ((there.0, slice_get-map (kept_at now) slots there.0 ∙ ap (option_map (kept_at now)) found.2 ∙ ap Some said.0), said.1))
    (λ past. absurd (let wrong = sym (slice_get-map (kept_at (now + 1)) slots there.0 ∙ ap (option_map (kept_at (now + 1))) past.1) ∙ there.1 in cc wrong))
    (slice_get_cases slots there.0).1

-- ---- slots without lines

pub none_known : (now : ℕ) (slots : List (Option Dated)) (known : Known) → All (λ slot. slot ≡ None) slots → IsAmong (map (kept_at now) slots) known → ⊥
none_known now slots known none there =
    ⊎_elim
    (λ found.
    let empty : found.0 ≡ None = subst (λ slot. slot ≡ None) found.3 (All-get_or (λ slot. slot ≡ None) slots there.0 found.0 found.1 none) in
    let wrong = sym (slice_get-map (kept_at now) slots there.0 ∙ ap (option_map (kept_at now)) (found.2 ∙ ap Some empty)) ∙ there.1 in
    cc wrong)
    (λ past. let wrong = sym (slice_get-map (kept_at now) slots there.0 ∙ ap (option_map (kept_at now)) past.1) ∙ there.1 in cc wrong)
    (slice_get_cases slots there.0).1
