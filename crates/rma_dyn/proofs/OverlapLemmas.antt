-- The first region that an attach meets.
use Rattle.std.proofs.Common.{◌≡◌, ◌+◌, ◌-◌, ◌<◌, ◌≤◌, ℕ, nat_lt, Bool, true, false, cond, List, [], ◌∷◌, ◌++◌, length, get_or, Option, Some, None, slice_get, refl, sym, ap, subst, ◌∙◌, arith, ⊎_elim}
use Rattle.std.specs.Prelude.{Contains}
use Rattle.std.proofs.lemmas.Bool.{cases_lt}
use Rattle.std.proofs.lemmas.Bool.Decides.{nat_tests}
use Rattle.std.proofs.lemmas.Option.{get_or_from_slice_get, same_Some, slice_get-get_or, slice_get_within}
use Rattle.rma_base.specs.declared.rank.Rank.{Rank}
use Rattle.rma_window.specs.declared.window_id.WindowId.{WindowId}
use Rattle.rma_rules.specs.declared.span.Owner.{Owner}
use Rattle.rma_concurrent.proofs.ListLemmas.{in_push}
use Rattle.rma_dyn.specs.declared.change.Change.{Change}
use Rattle.rma_dyn.specs.Region.{IsAtSame, IsBeside, IsLiveAt, Overlaps}
use Rattle.rma_dyn.specs.inside.Overlap.{IsFirst, IsGoneBy, Last, earlier_of}
use Rattle.rma_dyn.specs.inside.Sorted.{Rise, end_of, end_with, is_below}
use Rattle.rma_dyn.proofs.SearchLemmas.{between, same_rank, same_window}

-- ---- the last calls

module _ (list : List Change) (rise : Rise list) where
  between_same : (i j k : ℕ) (a b p : Change) → j ≤ k → k ≤ i → slice_get list i ≡ Some a → slice_get list j ≡ Some b → slice_get list k ≡ Some p → IsAtSame b a → IsAtSame p a
  between_same i j k a b p one two at there middle so =
      let beside = between list rise i j k a b p one two at there middle so.beside in
      let low = rise j k b p one there middle in
      let high = rise k i p a two middle at in
      let rank = ap (λ (r : Rank). r.0) beside.rank in
      let window = ap (λ (w : WindowId). w.0) beside.window in
      let b_rank = ap (λ (r : Rank). r.0) so.beside.rank in
      let b_window = ap (λ (w : WindowId). w.0) so.beside.window in
      let address = so.address in
      let low_address = low.addresses (b_rank ∙ sym rank) (b_window ∙ sym window) in
      let high_address = high.addresses rank window in
      record { beside = beside; address = omega arith }

  pub last_more : (lasts : List ℕ) (next : ℕ) → Last list lasts
      → ((a : Change) → slice_get list (length lasts) ≡ Some a → IsGoneBy list a next)
      → ((a b : Change) (last : ℕ) → slice_get list (length lasts) ≡ Some a → slice_get list (length lasts - 1) ≡ Some b → slice_get lasts (length lasts - 1) ≡ Some last → IsAtSame b a → 0 < length lasts → last ≤ next)
      → Last list (lasts ++ next ∷ [])
  last_more lasts next known own before i j a b last le at there so has =
      in_push lasts next last i has (λ old. known i j a b last le at there so old)
      (λ end same. subst (IsGoneBy list b) same
      (⊎_elim
      (λ (lt : j < length lasts).
      let k = length lasts - 1 in
      let within = slice_get_within list i a at in
      let p = get_or list k a in
      let middle : slice_get list k ≡ Some p = slice_get-get_or list k a (omega arith) in
      let r = get_or lasts k 0 in
      let held : slice_get lasts k ≡ Some r = slice_get-get_or lasts k 0 (omega arith) in
      let at_last = subst (λ n. slice_get list n ≡ Some a) end at in
      let so_p = between_same i j k a b p (omega arith) (omega arith) at there middle so in
      let b_p : IsAtSame b p = record { beside = record { rank = so.beside.rank ∙ sym so_p.beside.rank; window = so.beside.window ∙ sym so_p.beside.window }; address = so.address ∙ sym so_p.address } in
      let one = known k j p b r (omega arith) middle there b_p held in
      let two = before a p r at_last middle held so_p (omega arith) in
      λ number more small. one number (omega arith) small)
      (λ (ge : length lasts ≤ j).
      let same_place : j ≡ i = omega arith in
      let same_change = same_Some b a (sym there ∙ ap (slice_get list) same_place ∙ at) in
      subst (λ c. IsGoneBy list c next) (sym same_change) (own a (subst (λ n. slice_get list n ≡ Some a) end at)))
      (cases_lt j (length lasts))))

-- ---- what is known

module _ (list : List Change) (g : Change) where
  pub passed : (first : Option Change) (to from : ℕ) → ((k : ℕ) (x : Change) → to ≤ k → k < from → slice_get list k ≡ Some x → Overlaps list g x → ⊥) → IsFirst list g from first → IsFirst list g to first
  passed None to from none known = λ k x le at meets. ⊎_elim (λ (lt : k < from). none k x le lt at meets) (λ (ge : from ≤ k). known k x ge at meets) (cases_lt k from)
  passed (Some first) to from none known = (known.0, λ k x le at meets. ⊎_elim (λ (lt : k < from). absurd (none k x le lt at meets)) (λ (ge : from ≤ k). known.1 k x ge at meets) (cases_lt k from))

  module _ (index : ℕ) (other : Change) (at : slice_get list index ≡ Some other) where
    same_at : (k : ℕ) (x : Change) → slice_get list k ≡ Some x → k ≡ index → x ≡ other
    same_at k x there same = same_Some x other (sym there ∙ ap (slice_get list) same ∙ at)

    pub not_met : (Overlaps list g other → ⊥) → (first : Option Change) → IsFirst list g (index + 1) first → IsFirst list g index first
    not_met not first known = passed first index (index + 1) (λ k x le lt there meets. let e : k ≡ index = omega arith in not (subst (Overlaps list g) (same_at k x there e) meets)) known

    least : (n : ℕ) → n ≤ other.call → ((k : ℕ) (x : Change) → index + 1 ≤ k → slice_get list k ≡ Some x → Overlaps list g x → n ≤ x.call) → (k : ℕ) (x : Change) → index ≤ k → slice_get list k ≡ Some x → Overlaps list g x → n ≤ x.call
    least n le rest k x from there meets =
        ⊎_elim (λ (lt : k < index + 1). let e : k ≡ index = omega arith in subst (λ (y : Change). n ≤ y.call) (sym (same_at k x there e)) le) (λ (ge : index + 1 ≤ k). rest k x ge there meets) (cases_lt k (index + 1))

    pub met : Overlaps list g other → (first : Option Change) → IsFirst list g (index + 1) first → IsFirst list g index (Some (earlier_of first other))
    met meets None known = (meets, least other.call (omega arith) (λ k x ge there also. absurd (known k x ge there also)))
    met meets (Some first) known = by (nat_lt first.call other.call) refl
      where
        by : (b : Bool) → nat_lt first.call other.call ≡ b → IsFirst list g index (Some (cond b first other))
        by true test = (known.0, least first.call (let lt : first.call < other.call = grind (arith, nat_tests) in omega arith) known.1)
        by false test = let ge : other.call ≤ first.call = grind (arith, nat_tests) in (meets, least other.call (omega arith) (λ k x more there also. let bound = known.1 k x more there also in omega arith))

-- ---- those at one address

module _ (list : List Change) (rise : Rise list) where
  pub all_same : (start index : ℕ) (own : Change) → slice_get list index ≡ Some own → ((k : ℕ) (x : Change) → start ≤ k → slice_get list k ≡ Some x → is_below (record { rank = own.rank; window = own.window }) own.address 0 x ≡ false)
      → (k : ℕ) (x : Change) → start ≤ k → k ≤ index → slice_get list k ≡ Some x → IsAtSame x own
  all_same start index own at after k x from to there =
      let so = rise k index x own to there at in
      let test = after k x from there in
      let le_rank = so.ranks in
      let ranks : x.rank.0 ≡ own.rank.0 = grind (arith, nat_tests) in
      let le_window = so.windows ranks in
      let windows : x.window.0 ≡ own.window.0 = grind (arith, nat_tests) in
      let le_address = so.addresses ranks windows in
      let addresses : x.address ≡ own.address = grind (arith, nat_tests) in
      record { beside = record { rank = same_rank x.rank own.rank ranks; window = same_window x.window own.window windows }; address = addresses }

-- ---- what cannot be met

module _ (list : List Change) (g : Change) (owner : Owner) (rank : owner.rank ≡ g.rank) (window : owner.window ≡ g.window) where
  pub met_end : (x : Change) → Overlaps list g x → (x.rank ≡ owner.rank) × (x.window ≡ owner.window) × (x.call < g.call) × (g.address + 1 ≤ end_of x)
  met_end x meets =
      let end : end_of x ≡ x.address + meets.live.size = ap (end_with x.address) meets.live.attaches in
      let behind = meets.earlier_end in
      (meets.beside.rank ∙ sym rank, meets.beside.window ∙ sym window, meets.live.before, omega arith)

  pub none_from : (size : ℕ) → g.size ≡ Some size → (k : ℕ) (x : Change) → is_below owner (g.address + size) 0 x ≡ false → Overlaps list g x → ⊥
  none_from size attaches k x test meets =
      let it = met_end x meets in
      let ranks = ap (λ (r : Rank). r.0) it.0 in
      let windows = ap (λ (w : WindowId). w.0) it.1 in
      let same : meets.size ≡ size = same_Some meets.size size (sym meets.attaches ∙ attaches) in
      let own = meets.own_end in
      grind (arith, nat_tests)

-- ---- what is tested

pub both_at : (list : List Change) (i j : ℕ) (a b d e : Change) → slice_get list i ≡ Some a → slice_get list j ≡ Some b → IsAtSame b a → IsAtSame (get_or list j d) (get_or list i e)
both_at list i j a b d e at there same =
    subst (λ (x : Change). IsAtSame x (get_or list i e)) (sym (get_or_from_slice_get list j b d there)) (subst (IsAtSame b) (sym (get_or_from_slice_get list i a e at)) same)

module _ (list : List Change) (g x : Change) (size : ℕ) (attaches : g.size ≡ Some size) where
  own_size : (meets : Overlaps list g x) → meets.size ≡ size
  own_size meets = same_Some meets.size size (sym meets.attaches ∙ attaches)

  other_end : (live : IsLiveAt list x g.call) → end_of x ≡ x.address + live.size
  other_end live = ap (end_with x.address) live.attaches

  pub ends_before : end_of x ≤ g.address → Overlaps list g x → ⊥
  ends_before le meets = let end = other_end meets.live in let behind = meets.earlier_end in omega arith

  pub begins_behind : g.address + size ≤ x.address → Overlaps list g x → ⊥
  begins_behind le meets = let same = own_size meets in let before = meets.own_end in omega arith

  pub meets_live : Contains list x → IsBeside x g → g.address < end_of x → x.address < g.address + size → IsLiveAt list x g.call → Overlaps list g x
  meets_live there beside behind before live = let end = other_end live in record { there = there; beside = beside; live = live; size = size; attaches = attaches; earlier_end = omega arith; own_end = before }
