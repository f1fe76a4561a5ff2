-- The detaches of attaches, and how far attaches reach.
use Rattle.std.proofs.Common.{◌≡◌, ◌+◌, ◌-◌, ◌<◌, ◌≤◌, ℕ, ◌&&◌, ◌==◌, Bool, true, false, cond, List, [], ◌∷◌, ◌++◌, length, get_or, Option, Some, None, is_none, slice_get, refl, sym, ap, subst, ◌∙◌, arith, ⊎_elim}
use Rattle.std.proofs.lemmas.Bool.{cases_lt}
use Rattle.std.proofs.lemmas.Bool.Decides.{nat_tests}
use Rattle.std.proofs.lemmas.Option.{none-some, same_Some, slice_get-get_or, slice_get_within}
use Rattle.rma_base.specs.declared.rank.Rank.{Rank}
use Rattle.rma_window.specs.declared.window_id.WindowId.{WindowId}
use Rattle.rma_rules.specs.declared.span.Owner.{Owner}
use Rattle.rma_concurrent.proofs.ListLemmas.{contained, in_push, place_of}
use Rattle.rma_dyn.specs.declared.change.Change.{Change}
use Rattle.rma_dyn.specs.Region.{IsAtSame, IsBeside, IsDetachOf}
use Rattle.rma_dyn.specs.inside.Sorted.{AreOnce, Reach, Rise, end_of, is_below, is_owned, owner_of, some_detach}

pub same_rank : (a b : Rank) → a.0 ≡ b.0 → a ≡ b
same_rank a b e = λ k. record { 0 = e k }

pub same_window : (a b : WindowId) → a.0 ≡ b.0 → a ≡ b
same_window a b e = λ k. record { 0 = e k }

none_is : (size : Option ℕ) → is_none size ≡ true → size ≡ None
none_is None e = refl
none_is (Some n) e = absurd (cc)

if_some : (b : Bool) (x y : Change) → cond b (Some x) None ≡ Some y → (b ≡ true) × (x ≡ y)
if_some true x y e = (refl, same_Some x y e)
if_some false x y e = absurd (none-some y e)

module _ (list : List Change) (rise : Rise list) (once : AreOnce list) (g : Change) (end : ℕ)
    (before : (k : ℕ) (own : Change) → k < end → slice_get list k ≡ Some own → is_below (owner_of g) g.address (g.call + 1) own ≡ true)
    (after : (k : ℕ) (own : Change) → end ≤ k → slice_get list k ≡ Some own → is_below (owner_of g) g.address (g.call + 1) own ≡ false) where
  -- those at the address of an attach behind it stand from that index on
  later_from : (k : ℕ) (c : Change) → slice_get list k ≡ Some c → IsAtSame g c → g.call < c.call → end ≤ k
  later_from k c at same later =
      let rank = ap (λ (r : Rank). r.0) same.beside.rank in
      let window = ap (λ (w : WindowId). w.0) same.beside.window in
      let address = same.address in
      ⊎_elim (λ (lt : k < end). let below = before k c lt at in absurd (grind (arith, nat_tests))) (λ (le : end ≤ k). le) (cases_lt k end)

  pub is_detach : (next h : Change) → slice_get list end ≡ Some next → some_detach g next ≡ Some h → IsDetachOf list g h
  is_detach next h at is =
      let both = if_some _ next h is in
      let test = both.0 in
      let not_below = after end next (omega arith) at in
      let rank : next.rank.0 ≡ g.rank.0 = grind (arith, nat_tests) in
      let window : next.window.0 ≡ g.window.0 = grind (arith, nat_tests) in
      let address : next.address ≡ g.address = grind (arith, nat_tests) in
      let none : is_none next.size ≡ true = grind (arith, nat_tests) in
      subst (IsDetachOf list g) both.1
      (record {
        there = contained list end next at;
        detaches = none_is next.size none;
        same = record { beside = record { rank = same_rank g.rank next.rank (sym rank); window = same_window g.window next.window (sym window) }; address = sym address };
        later = grind (arith, nat_tests);
        first = λ c has same later.
            let place = place_of list c has in
            let so = rise end place.0 next c (later_from place.0 c place.1 same later) at place.1 in
            let ranks = ap (λ (r : Rank). r.0) same.beside.rank in
            let windows = ap (λ (w : WindowId). w.0) same.beside.window in
            so.calls (rank ∙ ranks) (window ∙ windows) (address ∙ same.address);
      })

  -- the detach stands at that index
  stands_at : (h : Change) → IsDetachOf list g h → slice_get list end ≡ Some h
  stands_at h of =
      let place = place_of list h of.there in
      let le = later_from place.0 h place.1 of.same of.later in
      let next = get_or list end h in
      let at : slice_get list end ≡ Some next = slice_get-get_or list end h (let lt = slice_get_within list place.0 h place.1 in omega arith) in
      let so = rise end place.0 next h le at place.1 in
      let not_below = after end next (omega arith) at in
      let rank = ap (λ (r : Rank). r.0) of.same.beside.rank in
      let window = ap (λ (w : WindowId). w.0) of.same.beside.window in
      let address = of.same.address in
      let ranks : next.rank.0 ≡ g.rank.0 = let le_rank = so.ranks in grind (arith, nat_tests) in
      let windows : next.window.0 ≡ g.window.0 = let le_window = so.windows (ranks ∙ rank) in grind (arith, nat_tests) in
      let addresses : next.address ≡ g.address = let le_address = so.addresses (ranks ∙ rank) (windows ∙ window) in grind (arith, nat_tests) in
      let later : g.call < next.call = grind (arith, nat_tests) in
      let first = of.first next (contained list end next at) (record { beside = record { rank = same_rank g.rank next.rank (sym ranks); window = same_window g.window next.window (sym windows) }; address = sym addresses }) later in
      let calls = so.calls (ranks ∙ rank) (windows ∙ window) (addresses ∙ address) in
      let same_call : next.call ≡ h.call = omega arith in
      let same = once next h (contained list end next at) of.there (same_rank next.rank h.rank (ranks ∙ rank)) same_call in
      subst (λ x. slice_get list end ≡ Some x) same at

  detach_some : (h : Change) → IsDetachOf list g h → some_detach g h ≡ Some h
  detach_some h of =
      let rank : h.rank.0 ≡ g.rank.0 = ap (λ (r : Rank). r.0) (sym of.same.beside.rank) in
      let window : h.window.0 ≡ g.window.0 = ap (λ (w : WindowId). w.0) (sym of.same.beside.window) in
      let address : h.address ≡ g.address = sym of.same.address in
      let none : is_none h.size ≡ true = ap is_none of.detaches in
      let test : (((h.rank.0 == g.rank.0 && h.window.0 == g.window.0) && h.address == g.address) && is_none h.size) ≡ true = grind (arith, nat_tests) in
      ap (λ b. cond b (Some h) None) test

  pub detach_is : (next h : Change) → slice_get list end ≡ Some next → IsDetachOf list g h → some_detach g next ≡ Some h
  detach_is next h at of =
      let same = same_Some next h (sym at ∙ stands_at h of) in
      subst (λ x. some_detach g x ≡ Some h) (sym same) (detach_some h of)

  pub no_detach : slice_get list end ≡ None → (h : Change) → IsDetachOf list g h → ⊥
  no_detach none h of = none-some h (sym none ∙ stands_at h of)

-- ---- how far attaches reach

pub one_more : (xs : List ℕ) (x : ℕ) → length (xs ++ x ∷ []) ≡ length xs + 1
one_more [] x = refl
one_more (y ∷ ys) x = let rest = one_more ys x in omega arith

module _ (list : List Change) (rise : Rise list) where
  -- what stands between two of one rank and window is of these
  pub between : (i j k : ℕ) (a b p : Change) → j ≤ k → k ≤ i → slice_get list i ≡ Some a → slice_get list j ≡ Some b → slice_get list k ≡ Some p → IsBeside b a → IsBeside p a
  between i j k a b p one two at there middle so =
      let low = rise j k b p one there middle in
      let high = rise k i p a two middle at in
      let rank = ap (λ (r : Rank). r.0) so.rank in
      let window = ap (λ (w : WindowId). w.0) so.window in
      let low_ranks = low.ranks in
      let high_ranks = high.ranks in
      let ranks : p.rank.0 ≡ a.rank.0 = omega arith in
      let low_windows = low.windows (omega arith) in
      let high_windows = high.windows ranks in
      let windows : p.window.0 ≡ a.window.0 = omega arith in
      record { rank = same_rank p.rank a.rank ranks; window = same_window p.window a.window windows }

  pub reach_more : (reaches : List ℕ) (next : ℕ) → Reach list reaches
      → ((a : Change) → slice_get list (length reaches) ≡ Some a → end_of a ≤ next)
      → ((a b : Change) (reach : ℕ) → slice_get list (length reaches) ≡ Some a → slice_get list (length reaches - 1) ≡ Some b → slice_get reaches (length reaches - 1) ≡ Some reach → IsBeside b a → 0 < length reaches → reach ≤ next)
      → Reach list (reaches ++ next ∷ [])
  reach_more reaches next known own before i j a b reach le at there so has =
      in_push reaches next reach i has (λ old. known i j a b reach le at there so old)
      (λ last same. subst (λ r. end_of b ≤ r) same
      (⊎_elim
      (λ (lt : j < length reaches).
      let k = length reaches - 1 in
      let within = slice_get_within list i a at in
      let p = get_or list k a in
      let middle : slice_get list k ≡ Some p = slice_get-get_or list k a (omega arith) in
      let r = get_or reaches k 0 in
      let held : slice_get reaches k ≡ Some r = slice_get-get_or reaches k 0 (omega arith) in
      let at_last = subst (λ n. slice_get list n ≡ Some a) last at in
      let so_p = between i j k a b p (omega arith) (omega arith) at there middle so in
      let b_p : IsBeside b p = record { rank = so.rank ∙ sym so_p.rank; window = so.window ∙ sym so_p.window } in
      let one = known k j p b r (omega arith) middle there b_p held in
      let two = before a p r at_last middle held so_p (omega arith) in
      omega arith)
      (λ (ge : length reaches ≤ j).
      let same_place : j ≡ i = omega arith in
      let same_change = same_Some b a (sym there ∙ ap (slice_get list) same_place ∙ at) in
      subst (λ c. end_of c ≤ next) (sym same_change) (own a (subst (λ n. slice_get list n ≡ Some a) last at)))
      (cases_lt j (length reaches))))

-- ---- those that are passed over

module _ (list : List Change) (rise : Rise list) (owner : Owner) (bound index : ℕ) (change : Change) (at : slice_get list index ≡ Some change) where
  pub jumps_back : (end : ℕ) → bound ≤ change.call → is_owned owner change ≡ true → ((k : ℕ) (own : Change) → k < end → slice_get list k ≡ Some own → is_below owner change.address bound own ≡ true) → end ≤ index
  jumps_back end late owned before =
      ⊎_elim (λ (lt : index < end). let test = before index change lt at in absurd (grind (arith, nat_tests))) (λ (le : end ≤ index). le) (cases_lt index end)

  pub passed_over : (end : ℕ) → is_owned owner change ≡ true → ((k : ℕ) (own : Change) → end ≤ k → slice_get list k ≡ Some own → is_below owner change.address bound own ≡ false)
      → (k : ℕ) (g : Change) → end ≤ k → k < index → slice_get list k ≡ Some g → g.rank ≡ owner.rank → g.window ≡ owner.window → g.call < bound → ⊥
  passed_over end owned after k g le lt there rank window less =
      let so = rise k index g change (omega arith) there at in
      let test = after k g le there in
      let ranks = ap (λ (r : Rank). r.0) rank in
      let windows = ap (λ (w : WindowId). w.0) window in
      let change_rank : change.rank.0 ≡ owner.rank.0 = grind (arith, nat_tests) in
      let change_window : change.window.0 ≡ owner.window.0 = grind (arith, nat_tests) in
      let below = so.addresses (ranks ∙ sym change_rank) (windows ∙ sym change_window) in
      grind (arith, nat_tests)
