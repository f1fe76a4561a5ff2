use Rattle.std.proofs.Common.{length, ap, arith}
use Rattle.rma_type.proofs.Words.{IsRunsOf, signature_in}
use Rattle.rma_type.proofs.SourceLemmas.{signed_in, signed_within, signed_at, signature_is_short}
use Rattle.rma_type.proofs.table.TypeTable.signature.Goals as goal

pub index-requires-2 : goal.index-requires-2
index-requires-2 c =
    let t = c.self.inside in
    let within = signed_within t.signatures.items (signature_in c.args.self.now.origins c.args.id) c.index.result.now.signature
    (signed_in t c.args.self.now c.self.view_is c.self.invariant c.args.id c.index.result.now c.requires c.index.ensures) in
    omega (arith, within, t.signatures.ok.0)

represents : (c : goal.After-as_slice) → IsRunsOf (signature_in c.args.self.now.origins c.args.id) c.as_slice.result.now
represents c =
    let t = c.self.inside in
    let basics = signature_in c.args.self.now.origins c.args.id in
    rw c.as_slice.ensures.value
    (signed_at t.signatures.items basics c.index.result.now.signature c.index-2.result.now
    (signed_in t c.args.self.now c.self.view_is c.self.invariant c.args.id c.index.result.now c.requires c.index.ensures) c.index-2.ensures)

pub returns-clause-runs : goal.returns-clause-runs
returns-clause-runs c = represents c

pub returns-clause-few : goal.returns-clause-few
returns-clause-few c =
    let short = signature_is_short c.self.inside c.args.self.now c.self.view_is c.self.invariant c.args.id c.index.result.now c.requires c.index.ensures in
    omega (arith, short, ap length (represents c).same)
