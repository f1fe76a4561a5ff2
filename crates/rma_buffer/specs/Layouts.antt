-- The one layout of touched elements (MPI 4.0, "Datatypes").
use Rattle.std.specs.Prelude.{ℤ, ◌-ℤ◌, int_lt, List, [], ◌∷◌, fold, Bool, false, ◌&&◌, ◌||◌, nat_eq, Option, Some, None, if◌then◌else◌, unsigned_abs}
use Rattle.std.specs.List.{list_all, list_any}
use Rattle.std.specs.Int.{int_min, int_max}
use Rattle.std.specs.Cmp.Lexicographic.{pointwise}
use Rattle.rma_datatype.specs.declared.basic.Basic.{Basic}
use Rattle.rma_datatype.specs.Basic.{basic_size, basic_word}
use Rattle.rma_bytes.specs.declared.run.Run.{Run}
use Rattle.rma_bytes.specs.Layout.{Layout}
use Rattle.rma_bytes.specs.Runs as run
use Rattle.rma_typemap.specs.Typemap.{start_of, end_of}

-- two basic datatypes are the same: each has a word of its own
abbrev pub is_same : Basic → Basic → Bool
is_same a b = pointwise nat_eq (basic_word a) (basic_word b)

-- the bytes of an element
abbrev pub run_of : Basic × ℤ → Run
run_of e = record { start = start_of e; len = basic_size e.0 }

-- one run with the bytes of two that overlap or touch
abbrev pub joined : Run → Run → Run
joined a b = record { start = int_min a.start b.start; len = unsigned_abs (int_max (run.end_of a) (run.end_of b) -ℤ int_min a.start b.start) }

-- ascending runs with the bytes of one run more: those that it overlaps or touches become one with it
abbrev pub with_run : List Run → Run → List Run
with_run [] it = it ∷ []
with_run (first ∷ rest) it =
    if int_lt (run.end_of it) first.start then it ∷ first ∷ rest
    else (if int_lt (run.end_of first) it.start then first ∷ with_run rest it else with_run rest (joined first it))

-- the bytes of elements, as ascending runs that do not touch
unfoldable pub runs_of : List (Basic × ℤ) → List Run
runs_of es = fold (λ runs e. with_run runs (run_of e)) [] es

-- the basic datatype that all elements have, where there is an element and they all have one
abbrev pub element_of : List (Basic × ℤ) → Option Basic
element_of [] = None
element_of (e ∷ es) = if list_all (λ other. is_same e.0 other.0) es then Some e.0 else None

-- two elements have a byte in common
abbrev pub meet : Basic × ℤ → Basic × ℤ → Bool
meet a b = int_lt (start_of a) (end_of b) && int_lt (start_of b) (end_of a)

-- two elements, at different places of the list, have a byte in common
abbrev pub shares_byte : List (Basic × ℤ) → Bool
shares_byte [] = false
shares_byte (e ∷ es) = list_any (meet e) es || shares_byte es

-- the layout of touched elements
unfoldable pub layout_of : List (Basic × ℤ) → Layout
layout_of es = record { runs = runs_of es; element = element_of es; overlaps = shares_byte es }
