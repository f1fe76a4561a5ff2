use Rattle.std.proofs.Common.{◌≡◌, [], slice_index_or, sym, ap, ◌∙◌}
use Rattle.std.proofs.lemmas.Bool.{eqb-true}
use Rattle.rma_type.specs.Table.{typemaps}
use Rattle.rma_type.proofs.ComponentLemmas.{fewer_begin}
use Rattle.rma_typemap.specs.Bounds.{signature}
use Rattle.rma_buffer.specs.Rules.{basics_in, signature_of}
use Rattle.rma_buffer.proofs.BeginLemmas.{begins_answer, begins_from}
use Rattle.rma_buffer.proofs.rule.fits.Goals as goal

pub returns-then-part-whole : goal.returns-then-part-whole
returns-then-part-whole c =
    let maps = typemaps c.args.types.now.origins in
    let part = c.args.part.now in
    let whole = c.args.whole.now in
    let same : part.datatype.0 ≡ whole.datatype.0 = eqb-true part.datatype.0 whole.datatype.0 (sym c.eq.ensures ∙ c.if-eq.true) in
    let basics : basics_in maps part ≡ basics_in maps whole = ap (λ n. signature (slice_index_or maps n [])) same in
    sym (begins_from (signature_of maps whole) (signature_of maps part)
    (fewer_begin part.count whole.count (basics_in maps part) (basics_in maps whole) basics c.if-part-whole.true))

pub returns : goal.returns
returns c =
    let maps = typemaps c.args.types.now.origins in
    begins_answer c.fits.result (signature_of maps c.args.whole.now) (signature_of maps c.args.part.now) c.fits.ensures
