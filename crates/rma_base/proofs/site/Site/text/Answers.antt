use Rattle.rma_base.proofs.SiteLemmas.{IsUtf8_site}
use Rattle.rma_base.proofs.site.Site.text.Goals as goal

pub unreachable-requires : goal.unreachable-requires
unreachable-requires c = c.in-Err.ensures.cases.0 (rw c.bytes.ensures.bytes (IsUtf8_site c.args.self.now c.bytes.ensures.form))
