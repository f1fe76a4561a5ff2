-- The runs of bytes, by their indices.
use Rattle.std.proofs.Common.{◌≡◌, ℕ, List, slice_get, Some, sym}
use Rattle.std.proofs.lemmas.Option.{get_or_from_slice_get, slice_get_within}
use Rattle.rma_bytes.specs.declared.run.Run.{Run}
use Rattle.rma_bytes.specs.Runs.{IsCanonical, IsInBounds}
use Rattle.rma_bytes.proofs.RunLemmas.{canonical_at, no_run}

-- a run of a canonical list lies in the bounds
pub in_bounds : (runs : List Run) (i : ℕ) (run : Run) → IsCanonical runs → slice_get runs i ≡ Some run → IsInBounds run
in_bounds runs i run canonical at =
    rw (sym (get_or_from_slice_get runs i run no_run at)) (canonical_at runs i no_run canonical (slice_get_within runs i run at)).0
