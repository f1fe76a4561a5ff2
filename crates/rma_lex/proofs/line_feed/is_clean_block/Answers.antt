use Rattle.std.proofs.Common.{arith}
use Rattle.std.proofs.lemmas.Bool.{eqb-true, eq-eqb}
use Rattle.rma_lex.proofs.CleanLemmas.{IsClean_full}
use Rattle.rma_lex.proofs.line_feed.is_clean_block.Goals as goal

pub returns : goal.returns
returns c =
    let mask = c.clean_of_block.result in
    let full = IsClean_full c.args.text.now c.args.from mask c.clean_of_block.ensures (omega arith) in
    (λ set. full.0 (eqb-true mask _ set), λ clean. eq-eqb mask _ (full.1 clean))
