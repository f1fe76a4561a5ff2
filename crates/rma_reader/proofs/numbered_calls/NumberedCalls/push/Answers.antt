use Rattle.std.proofs.Common.{◌∙◌, ◌<◌, ap, length}
use Rattle.rma_call.specs.Call.{CallTable}
use Rattle.rma_reader.proofs.ReaderLemmas.{push_keeps}
use Rattle.rma_reader.proofs.numbered_calls.NumberedCalls.push.Goals as goal

pub invariant_of-self : goal.invariant_of-self
invariant_of-self c =
    let within : c.args.what < length c.self.inside.list.whats = rw c.self.view_is c.requires.what in
    rw (push_keeps c.push.result c.self.inside.list c.push.new.self c.args.what _ within c.push.ensures.ok c.push.ensures.err).1 c.self.invariant

pub returns-clause-whats : goal.returns-clause-whats
returns-clause-whats c =
    let within : c.args.what < length c.self.inside.list.whats = rw c.self.view_is c.requires.what in
    (push_keeps c.push.result c.self.inside.list c.push.new.self c.args.what _ within c.push.ensures.ok c.push.ensures.err).0 ∙ ap (λ (t : CallTable). t.whats) c.self.view_is
