use Rattle.std.proofs.Common.{◌≡◌, ◌-◌, cond, ap, ◌∙◌, arith}
use Rattle.std.proofs.lemmas.List.{get_or_default}
use Rattle.rma_lex.specs.inside.Blank.{blank_at}
use Rattle.rma_lex.specs.Field.{is_blank}
use Rattle.rma_lex.proofs.EdgeLemmas.{Marks_skipped}
use Rattle.rma_lex.proofs.edge.edges_of_block.Goals as goal

pub returns : goal.returns
returns c =
    let line = c.args.line.now in
    let at = c.args.from - 1 in
    let same = c.is_blank.ensures ∙ ap is_blank (get_or_default line at 0 32 (omega (arith, c.requires.inside, c.requires.within))) in
    let first : c.from-before.result ≡ cond (blank_at line at) 1 0 = grind (arith, c.from-before.ensures, same) in
    Marks_skipped line c.args.from c.blanks_of_block.result c.from-before.result c.edges_between.result c.blanks_of_block.ensures first (omega arith)
    c.edges_between.ensures.lowest c.edges_between.ensures.others c.args.skipped c.requires.some
