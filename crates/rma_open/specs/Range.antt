-- Which bytes of a target's part a call touches (MPI 4.0, "One-Sided Communications").
use Rattle.std.specs.Prelude.{ℕ, ◌*◌, pos, ◌+ℤ◌, List, Bool, ◌||◌, ◌&&◌, nat_lt}
use Rattle.std.specs.Int.Signed.{lt_z}
use Rattle.std.specs.List.{list_any}
use Rattle.rma_bytes.specs.declared.run.Run.{Run}
use Rattle.rma_bytes.specs.Runs.{end_of}
use Rattle.rma_window.specs.declared.part.Part.{Part}

-- whether a byte of a run lies outside a part of this many bytes, where the run is placed so far from the first byte of the part
abbrev pub is_outside : ℕ → ℕ → Run → Bool
is_outside size from run = nat_lt 0 run.len && (lt_z (pos from +ℤ run.start) (pos 0) || lt_z (pos size) (pos from +ℤ end_of run))

-- whether a byte that is touched at a displacement lies outside the part
abbrev pub touches_outside : Part → ℕ → List Run → Bool
touches_outside part displacement runs = list_any (is_outside part.size (displacement * part.unit)) runs
