use Rattle.std.proofs.Common.{refl}
use Rattle.rma_judge.proofs.CallLemmas.{OnOk_then}
use Rattle.rma_log.proofs.ReadingLemmas.{Appends_added}
use Rattle.rma_log.proofs.reader.Reader.take.Goals as goal

pub returns : goal.returns
returns c =
    OnOk_then c.push.result c.push.ensures.ok
    (λ pushed text site.
    Appends_added c.args.self.now c.add_placed.new.self _ _ _ c.args.what c.args.no c.args.site text c.args.number c.push.new.self c.in_ok-what.ensures.adds site refl
    (pushed c.args.what c.in_ok-what.ensures.number))
