use Rattle.std.proofs.Common.{◌≡◌, refl, ap, ◌∙◌}
use Rattle.rma_typemap.specs.Typemap.{elements}
use Rattle.rma_typemap.specs.declared.summary.Summary.{Summary}
use Rattle.rma_typemap.specs.inside.Summary.{blocks_of}
use Rattle.rma_type.proofs.Words.{Typemap, summary, typemaps, typemap_in}
use Rattle.rma_type.proofs.table.TypeTable.blocks.Goals as goal

blocks_is : (parts : Typemap) → (summary parts).blocks ≡ blocks_of (elements parts)
unfolding summary
blocks_is parts = refl

pub returns : goal.returns
returns c =
    ap (λ (s : Summary). s.blocks) c.summary.ensures.value ∙ blocks_is (typemap_in (typemaps c.args.self.now.origins) c.args.id)
