use Rattle.rma_dyn.proofs.LiveLemmas.{not_unknown, unknown}
use Rattle.rma_dyn.proofs.detaches.fault_of_detach.Goals as goal

pub returns-then-is_known : goal.returns-then-is_known
returns-then-is_known c = not_unknown c.args.list.now c.args.own.now c.requires.there c.requires.detaches (c.is_known.ensures.0 c.if-is_known.true)

pub returns : goal.returns
returns c = unknown c.args.list.now c.args.own.now c.requires.there c.requires.detaches (λ known. let told = c.is_known.ensures.1 known in let no = c.if-is_known.false in absurd (let never : ⊥ = cc in never))
