-- The typemap that a constructor makes, by its summary.
use Rattle.std.proofs.Common.{◌≡◌, [], ◌∷◌, sym, ap, ◌∙◌}
use Rattle.rma_typemap.proofs.Words.{Summary, Typemap, extent, slowest_first, summary, Contiguous, Hindexed, Hvector, Indexed, IndexedBlock, IsCounted, IsSingle, Make, Resized, Struct, Subarray, Vector, built, constructed, times}
use Rattle.rma_typemap.proofs.BoundLemmas.{extent_is}
use Rattle.rma_typemap.proofs.CopyLemmas.{summary_contiguous, summary_vector, summary_hvector, summary_indexed, summary_hindexed, summary_indexed_block, summary_resized, summary_subarray}
use Rattle.rma_typemap.proofs.ArrayLemmas.{part_is}

-- the summary of what a constructor makes, by that of its old datatype
pub summary_constructed : (constructor : Make) (parts : Typemap) → IsCounted constructor → summary (constructed constructor (parts ∷ [])) ≡ built constructor (summary parts)
summary_constructed (Contiguous count old) parts h = cc (summary_contiguous (times count) parts, extent_is parts)
summary_constructed (Vector count len stride old) parts h = cc (summary_vector (times count) (times len) stride parts, extent_is parts)
summary_constructed (Hvector count len stride old) parts h = cc (summary_hvector (times count) (times len) stride parts, extent_is parts)
summary_constructed (Indexed old blocks) parts h = summary_indexed blocks parts
summary_constructed (Hindexed old blocks) parts h = summary_hindexed blocks parts
summary_constructed (IndexedBlock len old displacements) parts h = summary_indexed_block (times len) displacements parts
summary_constructed (Struct members) parts h = absurd h
summary_constructed (Resized old low e) parts h = summary_resized low e parts
summary_constructed (Subarray order old dimensions) parts h =
    let both = part_is order dimensions (extent parts) (summary parts) h in
    cc (summary_subarray (slowest_first order dimensions) parts, both.0, both.1, extent_is parts)

-- what is built is that of what the constructor makes
pub is_built : (constructor : Make) (old made : Summary) (parts : Typemap) → IsSingle constructor → old ≡ summary parts → made ≡ built constructor old → made ≡ summary (constructed constructor (parts ∷ []))
is_built constructor old made parts h is e = e ∙ ap (built constructor) is ∙ sym (summary_constructed constructor parts (counted constructor h))
  where
    counted : (constructor : Make) → IsSingle constructor → IsCounted constructor
    counted (Subarray order old dimensions) h = h.0
    counted _ h = h
