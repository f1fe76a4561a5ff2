-- The layouts of elements: where they lie, and what fills them.
use Rattle.std.proofs.Common.{◌≡◌, ◌≢◌, ◌<◌, ℤ, pos, true, false, List, [], ◌∷◌, fold, All, Some, inl, inr, ⊎_elim, refl, sym, ap, ◌∙◌, arith}
use Rattle.std.specs.Prelude.{int_lt}
use Rattle.std.specs.List.{list_all, list_any}
use Rattle.std.proofs.lemmas.Bool.{and_cases, and_parts, or_parts}
use Rattle.std.proofs.lemmas.Int.{ints}
use Rattle.std.proofs.lemmas.List.Elements.{All-cons, All-head, All-nil, All-tail}
use Rattle.rma_base.specs.Limits.{address_limit}
use Rattle.rma_buffer.proofs.LayoutLemmas.{element_is, runs_canonical}
use Rattle.rma_buffer.specs.Layouts.{layout_of, meet, run_of, runs_of, shares_byte, with_run}
use Rattle.rma_bytes.specs.declared.run.Run.{Run}
use Rattle.rma_datatype.specs.Basic.{basic_size}
use Rattle.rma_datatype.specs.declared.basic.Basic.{Basic}
use Rattle.rma_layout.proofs.SignatureLemmas.{size_some}
use Rattle.rma_layout.proofs.TouchedLemmas.{between_is}
use Rattle.rma_layout.specs.Refusal.{is_all_in, is_between, lowest}
use Rattle.rma_layout.specs.declared.space.Space.{Space}
use Rattle.rma_layout.specs.declared.space.Space.TheVariants.{Local, Target}
use Rattle.rma_typemap.specs.Typemap.{end_of, start_of}
use Rattle.rma_kept.specs.Touched.{HasCanonicalRuns, IsFilledBy, IsInSpace, IsMultipleOf, IsNearStart, LiesIn}
use Rattle.rma_kept.proofs.RunLemmas.{Apart, AreApart, Filled, with_run_filled, with_run_in}

abbrev with_element : List Run → Basic × ℤ → List Run
with_element runs e = with_run runs (run_of e)

-- ---- where they lie

module _ (space : Space) where
  abbrev In : Run → Type 0
  In run = LiesIn (lowest space) (pos address_limit) run

  folded_in : (es : List (Basic × ℤ)) (runs : List Run) → list_all (λ e. is_between space (start_of e) (end_of e)) es ≡ true → All In runs → All In (fold with_element runs es)
  folded_in [] runs within all = all
  folded_in (e ∷ es) runs within all =
      let parts = and_parts (is_between space (start_of e) (end_of e)) (list_all (λ e. is_between space (start_of e) (end_of e)) es) within in
      folded_in es (with_element runs e) parts.1 (with_run_in (lowest space) (pos address_limit) runs (run_of e) all ((between_is space (start_of e) (end_of e)).0 parts.0))

  pub runs_in : (es : List (Basic × ℤ)) → is_all_in space es ≡ true → All In (layout_of es).runs
  unfolding layout_of runs_of is_all_in
  runs_in es within = folded_in es [] within (All-nil In)

pub in_space : (es : List (Basic × ℤ)) → is_all_in Local es ≡ true → IsInSpace (layout_of es)
in_space es within = runs_in Local es within

pub near_start : (es : List (Basic × ℤ)) → is_all_in Target es ≡ true → IsNearStart (layout_of es)
near_start es within = runs_in Target es within

pub canonical : (space : Space) (es : List (Basic × ℤ)) → is_all_in space es ≡ true → HasCanonicalRuns (layout_of es)
unfolding layout_of
canonical space es within = runs_canonical space es within

-- no elements have no bytes
pub no_runs : (es : List (Basic × ℤ)) → es ≡ [] → (layout_of es).runs ≡ []
unfolding layout_of runs_of
no_runs es none = rw none refl

pub overlaps_are : (es : List (Basic × ℤ)) → (layout_of es).overlaps ≡ shares_byte es
unfolding layout_of
overlaps_are es = refl

-- ---- what fills them

-- elements that do not meet have runs that are apart
apart_of : (a b : Basic × ℤ) → meet a b ≡ false → Apart (run_of b) (run_of a)
apart_of a b none = ⊎_elim
    (λ (left : int_lt (start_of a) (end_of b) ≡ false). inl (omega (arith, ints, left)))
    (λ (right : int_lt (start_of b) (end_of a) ≡ false). inr (omega (arith, ints, right)))
    (and_cases (int_lt (start_of a) (end_of b)) (int_lt (start_of b) (end_of a)) none)

module _ (basic : Basic) where
  abbrev Fills : Run → Type 0
  Fills run = Filled (basic_size basic) run

  abbrev Clear : List Run → List (Basic × ℤ) → Type 0
  Clear runs [] = Unit {0}
  Clear runs (e ∷ es) = All (Apart (run_of e)) runs × Clear runs es

  abbrev Same : Basic × ℤ → Type 0
  Same e = e.0 ≡ basic

  clear_more : (runs new : List Run) (e : Basic × ℤ) (es : List (Basic × ℤ)) → ((x : Run) → 0 < x.len → Apart x (run_of e) → All (Apart x) runs → All (Apart x) new)
      → list_any (meet e) es ≡ false → Clear runs es → Clear new es
  clear_more runs new e [] others none clear = tt
  clear_more runs new e (next ∷ es) others none clear =
      let parts = or_parts (meet e next) (list_any (meet e) es) none in
      (others (run_of next) (size_some next.0) (apart_of e next parts.0) clear.0, clear_more runs new e es others parts.1 clear.1)

  clear_none : (es : List (Basic × ℤ)) → Clear [] es
  clear_none [] = tt
  clear_none (e ∷ es) = (All-nil (Apart (run_of e)), clear_none es)

  fills : (e : Basic × ℤ) → Same e → Fills (run_of e)
  fills e same = (size_some e.0, (1, ap basic_size same ∙ omega arith))

  folded_filled : (es : List (Basic × ℤ)) (runs : List Run) → All Same es → shares_byte es ≡ false → Clear runs es → All Fills runs → AreApart runs → All Fills (fold with_element runs es)
  folded_filled [] runs same once clear all apart = all
  folded_filled (e ∷ es) runs same once clear all apart =
      let parts = or_parts (list_any (meet e) es) (shares_byte es) once in
      let new = with_run_filled (basic_size basic) runs (run_of e) all apart (fills e (All-head Same e es same)) clear.0 in
      folded_filled es (with_element runs e) (All-tail Same e es same) parts.1 (clear_more runs (with_element runs e) e es new.others parts.0 clear.1) new.filled new.apart

  filled_multiple : (runs : List Run) → All Fills runs → All (λ run. IsMultipleOf (basic_size basic) run.len) runs
  filled_multiple [] all = All-nil (λ run. IsMultipleOf (basic_size basic) run.len)
  filled_multiple (run ∷ runs) all =
      All-cons (λ run. IsMultipleOf (basic_size basic) run.len) run runs (All-head Fills run runs all).1 (filled_multiple runs (All-tail Fills run runs all))

  pub filled_by : (es : List (Basic × ℤ)) → es ≢ [] → All (λ e. e.0 ≡ basic) es → shares_byte es ≡ false → IsFilledBy basic (layout_of es)
  unfolding layout_of runs_of
  filled_by es some same once =
      (sym (element_is es (Some basic) (some, same)), filled_multiple _ (folded_filled es [] same once (clear_none es) (All-nil Fills) tt))
