use Rattle.std.proofs.Common.{Some, rules}
use Rattle.std.proofs.lemmas.Fn.{filter_same}
use Rattle.rma_cover.specs.inside.Held.{lasts_until}
use Rattle.rma_cover.proofs.own_locks.keep_held.Goals as goal

pub returns : goal.returns
returns c = filter_same _ (lasts_until (Some c.args.number)) _ (λ x b q r. search rules) c.args.held.now.items c.retain.new.self.items c.retain.ensures.filtered
