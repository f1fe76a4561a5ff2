-- The runs of an access one by one, and what lies between the first and the last.
use Rattle.std.proofs.Common.{◌≡◌, ℕ, ◌+◌, ◌-◌, ◌<◌, List, [], ◌∷◌, ◌++◌, take, length, slice_get, Some, inl, ap, ◌∙◌, arith}
use Rattle.std.specs.Prelude.{ℤ, ◌≤ℤ◌}
use Rattle.std.proofs.lemmas.Int.{ints}
use Rattle.std.proofs.lemmas.List.{take_more}
use Rattle.std.proofs.lemmas.Option.{get_or_from_slice_get, slice_get_within}
use Rattle.rma_bytes.specs.declared.run.Run.{Run}
use Rattle.rma_bytes.specs.Runs.{end_of, HasByte, IsCanonical}
use Rattle.rma_bytes.proofs.RunLemmas.{in_order, no_run}
use Rattle.rma_bytes.proofs.IndexLemmas.{within}

-- one run more of those taken
pub taken_there : (runs : List Run) (i : ℕ) (run : Run) → slice_get runs i ≡ Some run → take (i + 1) runs ≡ take i runs ++ run ∷ []
taken_there runs i run there = take_more runs i run (slice_get_within runs i run there) ∙ ap (λ y. take i runs ++ y ∷ []) (get_or_from_slice_get runs i run run there)

-- the first run of a canonical list, and the last
module _ (runs : List Run) (first last : Run) (good : IsCanonical runs) (head : slice_get runs 0 ≡ Some first) (foot : slice_get runs (length runs - 1) ≡ Some last) where
  some : 0 < length runs
  some = slice_get_within runs 0 first head

  -- the last starts no sooner
  pub first_before_last : first.start ≤ℤ last.start
  first_before_last =
      rw (get_or_from_slice_get runs 0 first no_run head, get_or_from_slice_get runs (length runs - 1) last no_run foot) at
      (in_order runs 0 (length runs - 1) no_run good (omega arith) (omega (arith, some))).0

  -- each byte lies in a run from the start of the first to the end of the last
  pub lies_between : (hull : Run) → hull.start ≡ first.start → end_of hull ≡ end_of last → (b : ℤ) → HasByte runs b → HasByte (hull ∷ []) b
  lies_between hull starts ends b has =
      let fits = rw (get_or_from_slice_get runs 0 first no_run head, get_or_from_slice_get runs (length runs - 1) last no_run foot) at (within runs hull good some) in
      inl (fits.0 (omega (arith, ints, starts), omega (arith, ints, ends)) b has)
