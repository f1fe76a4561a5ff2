use Rattle.rma_explain.proofs.OneLemmas.{one_explanation}
use Rattle.rma_explain.proofs.laws.explanations_are_one.Goals as goal

pub returns : goal.returns
returns c = λ ranks links lens windows spans others race cuts more in_order kept are also one two. one_explanation ranks links lens windows spans others race cuts more in_order kept are.calls also.calls one two
