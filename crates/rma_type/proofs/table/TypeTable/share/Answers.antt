use Rattle.std.proofs.Common.{◌≡◌, arith}
use Rattle.rma_type.proofs.Words.{nat_tests, signature_in}
use Rattle.rma_type.proofs.SourceLemmas.{signed_in, signed_once}
use Rattle.rma_type.proofs.table.TypeTable.share.Goals as goal

pub returns : goal.returns
returns c equal =
    let t = c.self.inside in
    let table = c.args.self.now in
    let same : c.index.result.now.signature ≡ c.index-2.result.now.signature = grind (arith, nat_tests, equal) in
    signed_once t.signatures.items (signature_in table.origins c.args.a) (signature_in table.origins c.args.b) c.index.result.now.signature c.index-2.result.now.signature same
    (signed_in t table c.self.view_is c.self.invariant c.args.a c.index.result.now c.requires.a_within c.index.ensures)
    (signed_in t table c.self.view_is c.self.invariant c.args.b c.index-2.result.now c.requires.b_within c.index-2.ensures)
