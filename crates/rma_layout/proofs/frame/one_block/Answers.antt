use Rattle.std.proofs.Common.{◌≡◌, Some, sym, ap, ◌∙◌, arith}
use Rattle.rma_layout.proofs.Words.{ints, elements}
use Rattle.rma_layout.proofs.ElementLemmas.{one_block_bytes}
use Rattle.rma_layout.proofs.TableLemmas.{derived_without_block}
use Rattle.rma_typemap.specs.declared.blocks.Blocks.{Blocks}
use Rattle.rma_typemap.specs.declared.made.Made.{Made}
use Rattle.rma_typemap.proofs.Words.{blocks_of}
use Rattle.rma_type.proofs.Words.{typemaps, typemap_in}
use Rattle.rma_datatype.specs.declared.basic.Basic.TheVariants.{Byte}
use Rattle.rma_layout.proofs.frame.one_block.Goals as goal
use Rattle.rma_layout.proofs.frame.one_block.Goals.{in_default-via-in-Some+else-blocks-eq0, in_default-via-in_default}

pub returns-in-Some-clause-some : goal.returns-in-Some-clause-some
returns-in-Some-clause-some c =
    one_block_bytes (typemap_in (typemaps c.args.types.now.origins) c.args.id) c.in-Some.blocks c.new.result c.made.result.size (sym c.in-Some.ensures) c.if-blocks-eq0.true
    (omega (arith, ints, c.new.ensures)) (ap (λ (m : Made). m.size) c.made.ensures)

some_blocks : {a b : Blocks} → Some a ≡ Some b → a ≡ b
some_blocks h = cc

pub returns-in_default-clause-none : goal.returns-in_default-clause-none
returns-in_default-clause-none c none = derived_without_block c.args.types.now.origins c.args.id c.requires Byte other
  where
    other : (b : Blocks) → blocks_of (elements (typemap_in (typemaps c.args.types.now.origins) c.args.id)) ≡ Some b → b.gaps ≡ 0 → ⊥
    other b is gaps =
        elim c.in_default.branch [
          | in_default-via-in-Some+else-blocks-eq0 w ↦ let same : w.in-Some.blocks ≡ b = some_blocks (w.in-Some.ensures ∙ is) in w.if-blocks-eq0.false (ap (λ (x : Blocks). x.gaps) same ∙ gaps)
          | in_default-via-in_default w ↦ w.in_default.not-Some b (c.blocks-2.ensures ∙ is)
        ]
